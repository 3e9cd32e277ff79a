-- Runs that grow.
use Rattle.std.proofs.Common.{◌≡◌, ℕ, ◌+◌, List, [], ◌∷◌, ◌++◌, true, refl, sym, ap, ◌∙◌}
use Rattle.std.proofs.lemmas.List.FromFn.{map-range_with_len_more}
use Rattle.std.proofs.lemmas.List.{append-nil}
use Rattle.std.proofs.lemmas.Grind.{flat_map-append}
use Rattle.osm_base.specs.declared.keys.Kind.{Kind}
use Rattle.osm_base.specs.Key.{kind_eq}
use Rattle.osm_base.proofs.KeyOrder.{kind_eq-same}
use Rattle.changeset_core.specs.Works.{work, run_of, works_of}
use Rattle.changeset_core.specs.declared.records.Work.{Work}

named : (w : Work) (kind : Kind) (version id : ℕ) → kind_eq w.key.kind kind ≡ true → w.version ≡ version → w.key.id ≡ id → work kind version id ≡ w
named w kind version id kinds versions ids =
    ap (λ (k : Kind). work k version id) (sym (kind_eq-same w.key.kind kind kinds))
    ∙ ap (λ (v : ℕ). work w.key.kind v id) (sym versions)
    ∙ ap (λ (i : ℕ). work w.key.kind w.version i) (sym ids)

-- a run with one more, by an id
pub run_steps : (kind : Kind) (version id count : ℕ) → run_of kind version id (count + 1) ≡ run_of kind version id count ++ work kind version (id + count) ∷ []
run_steps kind version id count = map-range_with_len_more (work kind version) id count (id + count) refl

-- a run with the version that continues it
pub run_grows : (w : Work) (kind : Kind) (version id count : ℕ) → kind_eq w.key.kind kind ≡ true → w.version ≡ version → w.key.id ≡ id + count
    → run_of kind version id (count + 1) ≡ run_of kind version id count ++ w ∷ []
run_grows w kind version id count kinds versions ids =
    run_steps kind version id count ∙ ap (λ (x : Work). run_of kind version id count ++ x ∷ []) (named w kind version (id + count) kinds versions ids)

-- runs and one more
pub works_append : (runs : List (List Work)) (run : List Work) → works_of (runs ++ run ∷ []) ≡ works_of runs ++ run
works_append runs run = flat_map-append (λ (r : List Work). r) runs (run ∷ []) ∙ ap (λ (l : List Work). works_of runs ++ l) (append-nil run)
