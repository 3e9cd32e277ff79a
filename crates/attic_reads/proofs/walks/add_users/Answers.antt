use Rattle.std.proofs.Common.{List, ap, ◌∙◌}
use Rattle.osm_base.specs.Key.{lists_key}
use Rattle.osm_base.specs.declared.keys.Key.{Key}
use Rattle.osm_element.proofs.Used.{lists-users}
use Rattle.osm_world.specs.World.{state_of}
use Rattle.attic_reads.proofs.Near.{candidates-added}
use Rattle.attic_reads.proofs.walks.add_users.Goals as goal

pub returns : goal.returns
returns c =
    let E = (state_of c.args.world.now).elements in
    candidates-added E c.args.kind c.args.used c.items.result.now c.items-2.result.now c.args.found.now.items c.add_key.new.found.items c.add_of_kind.new.found.items c.add_of_kind-2.new.found.items
    (λ x. ap (λ (ks : List Key). lists_key ks x) (c.items.ensures.keys ∙ c.users-users.ensures) ∙ lists-users E x c.args.used)
    (λ x. ap (λ (ks : List Key). lists_key ks x) c.items-2.ensures.keys ∙ c.users_past-past.ensures.each x)
    c.in_ok-add_key.ensures
    c.in_ok-add_of_kind.ensures
    c.in_ok-add_of_kind-2.ensures
