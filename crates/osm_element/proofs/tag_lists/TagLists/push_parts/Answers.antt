use Rattle.std.proofs.Common.{◌≡◌, ◌∷◌, [], ◌++◌, List, length, ap, ◌∙◌, rules, subst}
use Rattle.std.proofs.lemmas.List.{append-nil}
use Rattle.std.proofs.lemmas.List.Elements.{All-push}
use Rattle.std.specs.List.{All}
use Rattle.std.specs.String.{string_bytes}
use Rattle.osm_element.specs.Tags.{Tag, cut}
use Rattle.osm_element.specs.TagLists.{IsPlace}
use Rattle.osm_element.specs.declared.labels.Ends.{Ends}
use Rattle.osm_element.specs.declared.tag_lists.Place.{Place}
use Rattle.osm_element.proofs.Places.{places_stay, place_there, one_more_list}
use Rattle.osm_element.proofs.tag_lists.TagLists.push_parts.Goals as goal

pub invariant_of-self : goal.invariant_of-self
invariant_of-self c = rw c.in_err-push_str.ensures.bytes c.self.invariant

pub invariant_of-self-in_err-extend_from_slice : goal.invariant_of-self-in_err-extend_from_slice
invariant_of-self-in_err-extend_from_slice c =
    let text = string_bytes c.self.inside.text in
    let ends = c.self.inside.ends.items in
    let places = c.self.inside.places.items in
    rw (c.in_err-extend_from_slice.ensures.items, c.in_ok-push_str.ensures.bytes)
    (subst (λ (es : List Ends). All (IsPlace es (text ++ c.args.text.now)) places) (append-nil ends) (places_stay ends [] text c.args.text.now c.utf8.text places c.self.invariant))

pub invariant_of-self-in_err-push : goal.invariant_of-self-in_err-push
invariant_of-self-in_err-push c =
    rw (c.in_err-push.ensures.items, c.in_ok-extend_from_slice.ensures.items, c.in_ok-push_str.ensures.bytes)
    (places_stay c.self.inside.ends.items c.args.ends.now (string_bytes c.self.inside.text) c.args.text.now c.utf8.text c.self.inside.places.items c.self.invariant)

abbrev place : goal.In_ok-push → Place
place c = record { text_from = c.len-text_from.result; text_to = c.len.result; ends_from = c.len-ends_from.result; ends_to = c.len-2.result }

abbrev text_to : (c : goal.In_ok-push) → c.len.result ≡ length (string_bytes c.self.inside.text ++ c.args.text.now)
text_to c =
    let now : c.len.result ≡ length (string_bytes c.push_str.new.self) = search rules in
    now ∙ ap length c.in_ok-push_str.ensures.bytes

abbrev ends_to : (c : goal.In_ok-push) → c.len-2.result ≡ length (c.self.inside.ends.items ++ c.args.ends.now)
ends_to c =
    let now : c.len-2.result ≡ length c.extend_from_slice.new.self.items = search rules in
    now ∙ ap length c.in_ok-extend_from_slice.ensures.items

pub invariant_of-self-2 : goal.invariant_of-self-2
invariant_of-self-2 c =
    let text = string_bytes c.self.inside.text in
    let ends = c.self.inside.ends.items in
    let places = c.self.inside.places.items in
    let from : c.len-text_from.result ≡ length text = search rules in
    let first : c.len-ends_from.result ≡ length ends = search rules in
    rw (c.in_ok-push.ensures.items, c.in_ok-extend_from_slice.ensures.items, c.in_ok-push_str.ensures.bytes)
    (All-push (IsPlace (ends ++ c.args.ends.now) (text ++ c.args.text.now)) places (place c)
    (places_stay ends c.args.ends.now text c.args.text.now c.utf8.text places c.self.invariant)
    (place_there ends c.args.ends.now text c.args.text.now (place c) from (text_to c) first (ends_to c) c.utf8.text c.requires))

pub returns : goal.returns
returns c =
    let text = string_bytes c.self.inside.text in
    let ends = c.self.inside.ends.items in
    let places = c.self.inside.places.items in
    let from : c.len-text_from.result ≡ length text = search rules in
    let first : c.len-ends_from.result ≡ length ends = search rules in
    rw (c.in_ok-push.ensures.items, c.in_ok-extend_from_slice.ensures.items, c.in_ok-push_str.ensures.bytes)
    (one_more_list ends c.args.ends.now text c.args.text.now (place c) from (text_to c) first (ends_to c) places c.self.invariant
    ∙ ap (λ (lists : List (List Tag)). lists ++ cut 0 c.args.ends.now c.args.text.now ∷ []) c.self.view_is)
