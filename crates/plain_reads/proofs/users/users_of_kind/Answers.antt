use Rattle.std.proofs.Common.{◌≡◌, ℕ, ◌+◌, add-one, rules, arith, ap, sym, ◌∙◌, map, length}
use Rattle.std.specs.Prelude.{filter}
use Rattle.osm_element.specs.Elements.{keys_to, uses, histories}
use Rattle.osm_model.specs.Reads.{current_shown}
use Rattle.plain_reads.proofs.Steps.{told_keys_step}
use Rattle.plain_reads.proofs.OfKind.{users_of_one}
use Rattle.plain_reads.proofs.users.users_of_kind.Goals as goal

pub loop-place-preserved : goal.loop-place-preserved
loop-place-preserved c =
    told_keys_step (current_shown c.args.elements.now) (λ a. uses c.args.elements.now a c.args.used) c.args.kind c.loop-place.found.items c.add_user.new.found.items c.loop-place.place (c.loop-place.place + 1) (add-one c.loop-place.place) c.loop-place.invariant (search rules)

pub returns : goal.returns
returns c =
    let E = c.args.elements.now in
    let done : c.loop-place.place ≡ length (histories E c.args.kind) = omega (arith, ap length c.histories-place-end.ensures) in
    c.of.ensures
    ∙ c.loop-place.invariant
    ∙ ap (λ (n : ℕ). map (current_shown E) (filter (λ a. uses E a c.args.used) (keys_to c.args.kind n))) done
    ∙ sym (ap (map (current_shown E)) (users_of_one E c.args.kind c.args.used))
