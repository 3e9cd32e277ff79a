-- Worked bodies, computed.
use Rattle.std.specs.Prelude.{◌≡◌, refl, true, false, Some, None, codes}
use Rattle.httparse.specs.Grammar.{trim_ows}
use Rattle.desk_parts.specs.Media.{says_xml, begins_as_xml}

xml_with_a_parameter : says_xml (Some (codes "text/xml; charset=utf-8")) ≡ true
unfolding trim_ows
xml_with_a_parameter = refl

xml_in_capitals : says_xml (Some (codes " APPLICATION/XML")) ≡ true
unfolding trim_ows
xml_in_capitals = refl

xml_by_its_ending : says_xml (Some (codes "application/osm+xml\t;v=1")) ≡ true
unfolding trim_ows
xml_by_its_ending = refl

json : says_xml (Some (codes "application/json")) ≡ false
unfolding trim_ows
json = refl

xml_in_a_parameter : says_xml (Some (codes "application/json; of=text/xml")) ≡ false
unfolding trim_ows
xml_in_a_parameter = refl

no_media_type : says_xml None ≡ false
no_media_type = refl

spaces_and_a_tag : begins_as_xml (codes " \r\n\t<osm/>") ≡ true
spaces_and_a_tag = refl

an_object : begins_as_xml (codes " {\"a\":\"<\"}") ≡ false
an_object = refl

only_spaces : begins_as_xml (codes "   ") ≡ false
only_spaces = refl
