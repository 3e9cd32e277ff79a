use Rattle.std.proofs.Common.{◌≡◌, ◌+◌, refl, subst, arith}
use Rattle.std.proofs.lemmas.Result.{on_ok_weaker}
use Rattle.osm_base.specs.declared.keys.Key.{Key}
use Rattle.reverse_refs.specs.Users.{free_in}
use Rattle.indexed_map.specs.Indexed.{Stand, stand, times_new}
use Rattle.indexed_map.proofs.Indexing.{noting}
use Rattle.indexed_map.proofs.Known.{new_unknown}
use Rattle.indexed_map.proofs.maps.IndexedMap.promise.Goals as goal

pub invariant_of-self-2 : goal.invariant_of-self-2
invariant_of-self-2 c =
    noting
    (stand c.self.inside.store c.self.inside.users c.self.inside.grid)
    (stand c.promise_version.new.store c.promise_uses.new.users c.promise_place.new.grid)
    (record { versions = c.self.inside.promised.items; users = c.self.inside.awaited.items; cells = c.self.inside.entered.items })
    (record { versions = c.promise_version.new.noted.items; users = c.promise_uses.new.noted.items; cells = c.promise_place.new.noted.items })
    c.self.invariant
    c.promise_version.ensures.elements
    c.promise_uses.ensures.users
    c.promise_uses.ensures.past
    c.promise_place.ensures.nodes
    c.promise_place.ensures.ever
    c.promise_version.ensures.noted
    c.promise_uses.ensures.noted
    c.promise_place.ensures.noted

pub returns-clause-users : goal.returns-clause-users
returns-clause-users c =
    let P : Stand → Type 0 = λ w. (b : Key) → free_in c.promise_uses.new.users b ≡ free_in w.users b + times_new w.elements c.args.key c.args.listed.now b in
    on_ok_weaker c.promise_place.result
    (λ room. subst P c.self.view_is
    (λ b. let told = new_unknown c.self.inside.store.elements c.self.inside.users c.self.inside.users c.args.key b c.args.listed.now c.self.invariant.indexed refl in
    omega (arith, told, c.in_ok-promise_uses.ensures.room b)))
    c.promise_place.ensures.room
