use Rattle.std.proofs.Common.{◌≡◌, take}
use Rattle.std.specs.Prelude.{if◌then◌else◌}
use Rattle.osm_base.specs.Key.{lists_key}
use Rattle.osm_base.specs.declared.keys.Key.{Key}
use Rattle.reverse_refs.specs.Users.{users_in, past_in, free_in}
use Rattle.indexed_map.proofs.promises.forget_uses.Given as goal

abbrev pub invariant-loop-used : goal.invariant-loop-used
invariant-loop-used l = record {
  users : (b : Key) → users_in l.users b ≡ users_in l.fn.users b;
  past : (b : Key) → past_in l.users b ≡ past_in l.fn.users b;
  room : (b : Key) → free_in l.users b ≡ (if lists_key (take l.used-index l.listed) b then 0 else free_in l.fn.users b);
}
