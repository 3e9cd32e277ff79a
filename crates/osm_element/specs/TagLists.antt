-- Tags of several versions in one text.
use Rattle.std.specs.Prelude.{ℕ, ◌≤◌, List, length, drop, slice_range}
use Rattle.std.specs.Str.{IsUtf8}
use Rattle.osm_element.specs.Tags.{Tag, cut, AreEnds}
use Rattle.osm_element.specs.declared.labels.Ends.{Ends}
use Rattle.osm_element.specs.declared.tag_lists.Place.{Place}

-- the tags that stand at a place
abbrev pub list_at : List Ends → List ℕ → Place → List Tag
list_at ends text place = cut 0 (slice_range ends place.ends_from place.ends_to) (slice_range text place.text_from place.text_to)

-- tags stand there: a part of the text that may be cut out, and all that it is cut into
pub record IsPlace (ends : List Ends) (text : List ℕ) (place : Place) : Type 0 where
  pub rises : place.text_from ≤ place.text_to
  pub within : place.text_to ≤ length text
  pub begins : IsUtf8 (drop place.text_from text)
  pub rest : IsUtf8 (drop place.text_to text)
  pub ends_rise : place.ends_from ≤ place.ends_to
  pub ends_within : place.ends_to ≤ length ends
  pub are_ends : AreEnds 0 (slice_range ends place.ends_from place.ends_to) (slice_range text place.text_from place.text_to)
