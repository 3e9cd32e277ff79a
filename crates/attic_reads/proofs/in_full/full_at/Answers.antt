use Rattle.std.proofs.Common.{◌≡◌, ◌&&◌, List, map, Ok, inl, sym, ap, ◌∙◌, subst}
use Rattle.std.specs.Prelude.{Result, filter}
use Rattle.osm_base.specs.Outcome.{◌>>=◌}
use Rattle.osm_change.specs.declared.reads.ReadFault.{ReadFault}
use Rattle.osm_change.specs.declared.reads.VersionId.{VersionId}
use Rattle.osm_element.specs.Elements.{keys}
use Rattle.osm_element.specs.declared.elements.Elements.{Elements}
use Rattle.osm_model.specs.Past.{elements_by, is_last_shown, in_full_unmarked, full_unmarked}
use Rattle.osm_model.specs.Reads.{current_shown}
use Rattle.attic_reads.specs.Attic.{AreInOrder}
use Rattle.attic_reads.proofs.in_full.full_at.Goals as goal

pub one-requires : goal.one-requires
one-requires c = let P : Elements → Type 0 = λ E. AreInOrder E in subst P (sym c.store-store.ensures) (λ k. (c.laws.ensures.stamped.each k).rising)

pub with_listed-requires : goal.with_listed-requires
with_listed-requires c = let P : Elements → Type 0 = λ E. AreInOrder E in subst P (sym c.store-store.ensures) (λ k. (c.laws.ensures.stamped.each k).rising)

pub returns : goal.returns
returns c =
    let F : Elements = elements_by c.args.at c.store-store.result.now.elements in
    let all : List VersionId = map (current_shown F) (filter (λ x. in_full_unmarked F c.args.key x && is_last_shown F x) (keys F)) in
    let found : ◌≡◌ {A = Result (List VersionId) ReadFault} (Ok c.in_ok-found.found) (Ok all) = ap (λ (l : List VersionId). Ok l) c.in_ok-found.ensures in
    inl (
    found
    ∙ ap (λ (r : Result VersionId ReadFault). r >>= λ (itself : VersionId). Ok all) c.in_ok-one.ensures
    ∙ ap (λ (E : Elements). full_unmarked (elements_by c.args.at E) c.args.key) c.store-store.ensures
    )
