use Rattle.std.proofs.Common.{◌≡◌, ◌-◌, ◌∙◌, List, length, ap, subst, arith, rules, take, drop}
use Rattle.std.specs.Prelude.{remove}
use Rattle.osm_base.specs.Key.{without_key}
use Rattle.osm_base.specs.declared.keys.Key.{Key}
use Rattle.reverse_refs.proofs.Parts.{removed_before}
use Rattle.reverse_refs.proofs.key_lists.take_from_present.Goals as goal

pub returns-clause-present : goal.returns-clause-present
returns-clause-present c =
    let n = c.args.present in
    let p = c.in-Some.place in
    let all : c.deref.result.now ≡ c.args.keys.now.items = search rules in
    ap (take (n - 1)) c.remove-out.ensures.items
    ∙ (removed_before c.args.keys.now.items n p (omega arith) (omega (arith, ap (λ (ks : List Key). length (take n ks)) all, c.in-Some.ensures.place.0))).front
    ∙ subst (λ (ks : List Key). remove (take n ks) p ≡ without_key (take n ks) c.args.key) all c.in-Some.ensures.place.1

pub returns-clause-past : goal.returns-clause-past
returns-clause-past c =
    let n = c.args.present in
    let p = c.in-Some.place in
    let all : c.deref.result.now ≡ c.args.keys.now.items = search rules in
    ap (drop (n - 1)) c.remove-out.ensures.items
    ∙ (removed_before c.args.keys.now.items n p (omega arith) (omega (arith, ap (λ (ks : List Key). length (take n ks)) all, c.in-Some.ensures.place.0))).back
