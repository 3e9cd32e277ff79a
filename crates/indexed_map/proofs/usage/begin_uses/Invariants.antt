use Rattle.std.proofs.Common.{◌≡◌, ◌+◌, ◌&&◌, ◌||◌, take}
use Rattle.std.specs.Prelude.{not, if◌then◌else◌}
use Rattle.osm_base.specs.Key.{key_eq, lists_key}
use Rattle.osm_base.specs.declared.keys.Key.{Key}
use Rattle.reverse_refs.specs.Users.{users_in, past_in, knows, free_in}
use Rattle.indexed_map.proofs.usage.begin_uses.Given as goal

abbrev pub invariant-loop-used : goal.invariant-loop-used
invariant-loop-used l = record {
  users : (a b : Key) → lists_key (users_in l.users b) a ≡ (lists_key (take l.used-index l.listed) b && (key_eq l.user a && not (key_eq l.user b))) || lists_key (users_in l.fn.users b) a;
  past : (a b : Key) → lists_key (past_in l.users b) a ≡ lists_key (past_in l.fn.users b) a && not (lists_key (take l.used-index l.listed) b && (key_eq l.user a && not (key_eq l.user b)));
  spent : (b : Key) → free_in l.users b + (if lists_key (take l.used-index l.listed) b && (not (key_eq l.user b) && not (knows l.fn.users b l.user)) then 1 else 0) ≡ free_in l.fn.users b;
}
