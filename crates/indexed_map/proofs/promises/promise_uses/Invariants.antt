use Rattle.std.proofs.Common.{◌≡◌, ◌+◌, false, take}
use Rattle.osm_base.specs.Key.{lists_key}
use Rattle.osm_base.specs.declared.keys.Key.{Key}
use Rattle.reverse_refs.specs.Users.{users_in, past_in, free_in}
use Rattle.indexed_map.specs.Indexed.{times_unknown}
use Rattle.indexed_map.proofs.promises.promise_uses.Given as goal

abbrev pub invariant-loop-used : goal.invariant-loop-used
invariant-loop-used l = record {
  users : (b : Key) → users_in l.users b ≡ users_in l.fn.users b;
  past : (b : Key) → past_in l.users b ≡ past_in l.fn.users b;
  room : (b : Key) → free_in l.users b ≡ free_in l.fn.users b + times_unknown l.fn.users l.user (take l.used-index l.listed) b;
  noted : (b : Key) → lists_key l.noted.items b ≡ false → (lists_key l.fn.noted.items b ≡ false) × (free_in l.users b ≡ free_in l.fn.users b);
}
