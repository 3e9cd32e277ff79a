use Rattle.std.proofs.Common.{◌≡◌, ◌+◌, ◌-◌, ◌<◌, ◌≤◌, ℕ, List, length, get_or, map, take, Option, Some, None, sym, ap, ◌∙◌, arith}
use Rattle.std.specs.Option.{option_or}
use Rattle.osm_base.specs.Place.{Position}
use Rattle.osm_element.specs.Version.{Version}
use Rattle.changeset_core.specs.Changeset.{new_position}
use Rattle.indexed_map.specs.Ever.{last_place}
use Rattle.indexed_map.proofs.EverHeld.{place-more}
use Rattle.indexed_map.proofs.moves.last_place.Goals as goal

abbrev place_in : List Version → Option Position
place_in vs = last_place None (map (λ (v : Version). v.content) vs)

-- with the version before a place
place-before :
    (vs : List Version) (n : ℕ) (v : Version) (o : Option Position)
    → 0 < n
    → n ≤ length vs
    → o ≡ new_position (get_or vs (n - 1) v).content
    → place_in (take n vs) ≡ option_or o (place_in (take (n - 1) vs))
place-before vs n v o some within o_is =
    let next : n ≡ n - 1 + 1 = omega arith in
    ap (λ (m : ℕ). place_in (take m vs)) next
    ∙ place-more vs (n - 1) v (omega arith)
    ∙ ap (λ (p : Option Position). option_or p (place_in (take (n - 1) vs))) (sym o_is)

-- the same version has the same position
at : {v w : Version} → v ≡ w → new_position v.content ≡ new_position w.content
at same = ap (λ (v : Version). new_position v.content) same

pub returns-in-Some : goal.returns-in-Some
returns-in-Some c =
    sym (sym c.loop-place.invariant.none_later
    ∙ place-before c.args.versions.now c.loop-place.place c.index-versions-place.result (Some c.in-Some.at) c.loop-place-test.true c.loop-place.invariant.within (c.in-Some.ensures ∙ at c.index-versions-place.is))

pub loop-place-preserved : goal.loop-place-preserved
loop-place-preserved c = record {
  within = omega arith;
  none_later = sym (place-before c.args.versions.now c.loop-place.place c.index-versions-place.result None c.loop-place-test.true c.loop-place.invariant.within (sym c.in_default.is ∙ c.position.ensures ∙ at c.index-versions-place.is))
      ∙ c.loop-place.invariant.none_later;
}
