use Rattle.std.proofs.Common.{◌≡◌, ◌∷◌, [], ◌++◌, List, length, refl, rules, ap, ◌∙◌}
use Rattle.std.specs.String.{string_bytes}
use Rattle.osm_json.specs.Entries.{Entry}
use Rattle.osm_json.specs.Found.{text_in}
use Rattle.osm_json.proofs.Places.{Added, added, value_or, has_text}
use Rattle.osm_json.proofs.entries.Entries.with.Goals as goal

abbrev Kept : goal.In_ok-push → Type 0
Kept c = Added (string_bytes c.self.inside.text) c.self.inside.places.items c.args.name.now (text_in c.args.text) (string_bytes c.push_str-2.new.self) c.push.new.self.items

kept : (c : goal.In_ok-push) → Kept c
kept c =
    let one : string_bytes c.push_str.new.self ≡ string_bytes c.self.inside.text ++ c.args.name.now = c.in_ok-push_str.ensures.bytes in
    let two : string_bytes c.push_str-2.new.self ≡ string_bytes c.push_str.new.self ++ c.unwrap_or.result.now = c.in_ok-push_str-2.ensures.bytes in
    let start : c.len-start.result ≡ length (string_bytes c.self.inside.text) = search rules in
    let middle : c.len-middle.result ≡ length (string_bytes c.push_str.new.self) = search rules in
    let end : c.len-end.result ≡ length (string_bytes c.push_str-2.new.self) = search rules in
    added _ _ _ _ _ _ _ _ _ c.utf8.name c.unwrap_or.utf8 (value_or c.args.text _ _ refl c.unwrap_or.ensures) c.self.invariant one two start middle end (has_text c.args.text _ c.is_some.ensures) c.in_ok-push.ensures.items

pub returns : goal.returns
returns c = (kept c).entries ∙ ap (λ (es : List Entry). es ++ (c.args.name.now, text_in c.args.text) ∷ []) c.self.view_is

pub invariant_of-result : goal.invariant_of-result
invariant_of-result c = (kept c).places
