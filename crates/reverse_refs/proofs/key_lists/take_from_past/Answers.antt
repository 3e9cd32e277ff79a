use Rattle.std.proofs.Common.{◌≡◌, ◌-◌, ◌∙◌, List, length, ap, subst, arith, rules, take, drop}
use Rattle.std.specs.Prelude.{remove}
use Rattle.std.proofs.lemmas.List.{take_rest}
use Rattle.osm_base.specs.Key.{without_key}
use Rattle.osm_base.specs.declared.keys.Key.{Key}
use Rattle.reverse_refs.proofs.Parts.{removed_behind}
use Rattle.reverse_refs.proofs.key_lists.take_from_past.Goals as goal

pub returns-in-Some-clause-past : goal.returns-in-Some-clause-past
returns-in-Some-clause-past c =
    let n = c.args.present in
    let p = c.in-Some.place in
    let all : c.deref.result.now ≡ c.args.keys.now.items = search rules in
    let part : take (length c.deref.result.now - n) (drop n c.deref.result.now) ≡ drop n c.args.keys.now.items
    = take_rest c.deref.result.now n ∙ ap (drop n) all in
    ap (drop n) c.remove-out.ensures.items
    ∙ (removed_behind c.args.keys.now.items n p (omega arith) (omega (arith, ap length part, c.in-Some.ensures.place.0))).back
    ∙ subst (λ (ks : List Key). remove ks p ≡ without_key ks c.args.key) part c.in-Some.ensures.place.1
