use Rattle.std.proofs.Common.{◌≡◌, ◌+◌, ◌-◌, ◌∙◌, List, length, ap, subst, arith, rules, take, drop}
use Rattle.std.specs.Prelude.{insert}
use Rattle.std.proofs.lemmas.List.{take_rest}
use Rattle.osm_base.specs.Key.{insert_key}
use Rattle.osm_base.specs.declared.keys.Key.{Key}
use Rattle.reverse_refs.proofs.Parts.{inserted_behind}
use Rattle.reverse_refs.proofs.key_lists.put_in_past.Goals as goal

pub returns-clause-past : goal.returns-clause-past
returns-clause-past c =
    let n = c.args.present in
    let p = c.place_of-place.result in
    let all : c.deref.result.now ≡ c.args.keys.now.items = search rules in
    let part : take (length c.deref.result.now - n) (drop n c.deref.result.now) ≡ drop n c.args.keys.now.items
    = take_rest c.deref.result.now n ∙ ap (drop n) all in
    let placed : c.insert.new.self.items ≡ insert c.args.keys.now.items (n + p) c.args.key = search (rules, arith, c.insert.ensures.succeeds) in
    ap (drop n) placed
    ∙ (inserted_behind c.args.keys.now.items n p c.args.key (omega arith) (omega (arith, ap length part, c.place_of-place.ensures.within))).back
    ∙ subst (λ (ks : List Key). insert ks p c.args.key ≡ insert_key ks c.args.key) part c.place_of-place.ensures.place
