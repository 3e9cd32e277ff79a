-- The keys that are lent.
use Rattle.std.specs.Prelude.{List, [], ◌∷◌}
use Rattle.osm_base.specs.declared.keys.Key.{Key}
use Rattle.reverse_refs.specs.declared.user_lists.Lent.{Lent}
use Rattle.reverse_refs.specs.declared.user_lists.Lent.TheVariants.{One, Listed}

abbrev pub keys_lent : Lent → List Key
keys_lent (One key) = key ∷ []
keys_lent (Listed keys) = keys.now
