use Rattle.std.proofs.Common.{◌≡◌, ◌+◌, ◌∙◌, List, length, ap, subst, arith, rules, take, drop}
use Rattle.std.specs.Prelude.{insert}
use Rattle.osm_base.specs.Key.{insert_key}
use Rattle.osm_base.specs.declared.keys.Key.{Key}
use Rattle.reverse_refs.proofs.Parts.{inserted_before}
use Rattle.reverse_refs.proofs.key_lists.put_in_present.Goals as goal

pub returns-clause-present : goal.returns-clause-present
returns-clause-present c =
    let n = c.args.present in
    let p = c.place_of-place.result in
    let all : c.deref.result.now ≡ c.args.keys.now.items = search rules in
    let placed : c.insert.new.self.items ≡ insert c.args.keys.now.items p c.args.key = search (rules, arith, c.insert.ensures.succeeds) in
    ap (take (n + 1)) placed
    ∙ (inserted_before c.args.keys.now.items n p c.args.key (omega arith) (omega (arith, ap (λ (ks : List Key). length (take n ks)) all, c.place_of-place.ensures.within))).front
    ∙ subst (λ (ks : List Key). insert (take n ks) p c.args.key ≡ insert_key (take n ks) c.args.key) all c.place_of-place.ensures.place

pub returns-clause-past : goal.returns-clause-past
returns-clause-past c =
    let n = c.args.present in
    let p = c.place_of-place.result in
    let all : c.deref.result.now ≡ c.args.keys.now.items = search rules in
    let placed : c.insert.new.self.items ≡ insert c.args.keys.now.items p c.args.key = search (rules, arith, c.insert.ensures.succeeds) in
    ap (drop (n + 1)) placed
    ∙ (inserted_before c.args.keys.now.items n p c.args.key (omega arith) (omega (arith, ap (λ (ks : List Key). length (take n ks)) all, c.place_of-place.ensures.within))).back
