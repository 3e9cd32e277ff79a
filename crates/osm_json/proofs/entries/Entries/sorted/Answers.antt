use Rattle.std.proofs.Common.{◌≡◌, Bool, List, ℕ, [], map, rules, ap, ◌∙◌, subst}
use Rattle.std.proofs.lemmas.Cmp.{nat_list_cmp_total}
use Rattle.std.proofs.lemmas.Fn.{always_returns_same}
use Rattle.std.proofs.lemmas.List.Sorted.{All-permutation, ranks_by}
use Rattle.std.specs.List.Sorted.{IsSortedBy, IsStableBy}
use Rattle.std.specs.String.{string_bytes}
use Rattle.osm_json.specs.Entries.{Entry, entry_at, IsPlace, AreInOrder, gather}
use Rattle.osm_json.specs.declared.entries.Place.{Place}
use Rattle.osm_json.proofs.Gathered.{before, gather_sorted, in_order}
use Rattle.osm_json.proofs.entries.Entries.sorted.Goals as goal

abbrev old : goal.In_ok-sort_by → List Place
old c = c.self.inside.places.items

abbrev new : goal.In_ok-sort_by → List Place
new c = c.sort_by.new.self.items

abbrev entry : goal.In_ok-sort_by → Place → Entry
entry c = entry_at c.as_str-all.result.now

abbrev less : goal.In_ok-sort_by → Place → Place → Bool
less c = before (entry c)

stable : (c : goal.In_ok-sort_by) → IsStableBy (less c) (old c) (new c)
stable c = c.in_ok-sort_by.ensures.stable (less c) (ranks_by nat_list_cmp_total (λ (p : Place). (entry c p).0)) (always_returns_same _ _ _ (λ a r f k. search rules))

up : (c : goal.In_ok-sort_by) → IsSortedBy (less c) (new c)
up c = c.in_ok-sort_by.ensures.sorted (less c) (ranks_by nat_list_cmp_total (λ (p : Place). (entry c p).0)) (always_returns_same _ _ _ (λ a r f k. search rules))

pub invariant_of-result : goal.invariant_of-result
invariant_of-result c = All-permutation (IsPlace (string_bytes c.self.inside.text)) (old c) (new c) c.in_ok-sort_by.ensures.permutation c.self.invariant

pub returns-clause-same : goal.returns-clause-same
returns-clause-same c =
    let same = gather_sorted (entry c) (old c) (new c) (stable c) in
    subst (λ (t : List ℕ). gather [] (map (entry_at t) (new c)) ≡ gather [] (map (entry_at t) (old c))) c.as_str-all.ensures.value same ∙ ap (gather []) c.self.view_is

pub returns-clause-order : goal.returns-clause-order
returns-clause-order c =
    subst (λ (t : List ℕ). AreInOrder (map (entry_at t) (new c))) c.as_str-all.ensures.value (in_order (entry c) (new c) (up c))
