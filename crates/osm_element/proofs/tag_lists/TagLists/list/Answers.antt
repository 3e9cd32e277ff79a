use Rattle.std.proofs.Common.{◌≡◌, ◌<◌, length, arith, sym, ap, ◌∙◌, subst}
use Rattle.std.proofs.lemmas.List.{length-map}
use Rattle.std.proofs.lemmas.Str.{IsCharBoundary-from_drop}
use Rattle.std.specs.Str.{IsCharBoundary}
use Rattle.std.specs.String.{string_bytes}
use Rattle.osm_element.specs.TagLists.{list_at, IsPlace}
use Rattle.osm_element.proofs.tag_lists.TagLists.list.Goals as goal

at : (c : goal.After-deref) → IsPlace c.self.inside.ends.items (string_bytes c.self.inside.text) c.index-place.result.now
at c =
    let count : length c.args.self.now ≡ length c.self.inside.places.items = sym (ap length c.self.view_is) ∙ length-map c.self.inside.places.items (list_at c.self.inside.ends.items (string_bytes c.self.inside.text)) in
    subst (IsPlace c.self.inside.ends.items (string_bytes c.self.inside.text)) (sym c.index-place.ensures)
    (c.self.invariant c.args.index c.index-place.result.now (subst (λ n. c.args.index < n) count c.requires))

pub range-requires-clause-start_boundary : goal.range-requires-clause-start_boundary
range-requires-clause-start_boundary c =
    λ _. subst (λ text. IsCharBoundary text c.index-place.result.now.text_from) (sym c.deref.ensures)
    (IsCharBoundary-from_drop (string_bytes c.self.inside.text) _ (omega (arith, (at c).rises, (at c).within)) (at c).begins)

pub range-requires-clause-end_boundary : goal.range-requires-clause-end_boundary
range-requires-clause-end_boundary c =
    subst (λ text. IsCharBoundary text c.index-place.result.now.text_to) (sym c.deref.ensures)
    (IsCharBoundary-from_drop (string_bytes c.self.inside.text) _ (at c).within (at c).rest)
