use Rattle.std.proofs.Common.{ap, arith, get_or, rules, sym, ◌∙◌}
use Rattle.std.proofs.lemmas.List.Sorted.{IsPartitionPoint-from_clause}
use Rattle.osm_base.specs.Key.{key_lt, without_key}
use Rattle.osm_base.specs.declared.keys.Kind.TheVariants.{Node}
use Rattle.osm_base.specs.declared.keys.Key.{Key}
use Rattle.osm_base.proofs.KeyOrder.{key_eq-same}
use Rattle.osm_base.proofs.Halves.{IsBetween, found_at, not_found}
use Rattle.reverse_refs.proofs.Rows.{parted_before, removed_at, without_absent}
use Rattle.reverse_refs.proofs.key_lists.find.Goals as goal
use Rattle.reverse_refs.proofs.key_lists.find.Goals.{else-place-sorted-via-then-place-sorted+else-is, else-place-sorted-via-else-place-sorted}

abbrev no_key : Key
no_key = record { kind = Node; id = 0 }

pub returns-then-is-clause-place : goal.returns-then-is-clause-place
returns-then-is-clause-place c = (
  c.if-place-sorted.true,
  removed_at c.args.sorted.now c.partition_point-place.result no_key c.requires c.if-place-sorted.true
      ∙ ap (without_key c.args.sorted.now)
      (key_eq-same (get_or c.args.sorted.now c.partition_point-place.result no_key) c.args.key (sym c.is.ensures ∙ c.if-is.true)),
)

pub returns-else-place-sorted-clause-absent : goal.returns-else-place-sorted-clause-absent
returns-else-place-sorted-clause-absent c = λ nothing.
    let point
    = IsPartitionPoint-from_clause (λ x. key_lt x c.args.key) _ _ c.partition_point-place.ensures.partitioned (parted_before c.args.sorted.now c.args.key c.requires) (λ a r q k. search rules) in
    let between : IsBetween c.args.sorted.now c.args.key c.partition_point-place.result c.partition_point-place.result
    = record {
      before = λ i d low inside. point.0 i d (omega (arith, inside)) low;
      after = λ i d high inside. point.1 i d high inside;
    } in
    elim c.else-place-sorted.branch [
      | else-place-sorted-via-then-place-sorted+else-is w ↦ sym (found_at c.args.sorted.now c.args.key c.partition_point-place.result no_key c.requires between w.if-place-sorted.true)
          ∙ sym w.is.ensures
          ∙ w.if-is.false
      | else-place-sorted-via-else-place-sorted w ↦ not_found c.args.sorted.now c.args.key c.partition_point-place.result c.requires between (omega arith)
    ]

pub returns-else-place-sorted-clause-none : goal.returns-else-place-sorted-clause-none
returns-else-place-sorted-clause-none c = λ nothing. without_absent c.args.sorted.now c.args.key (returns-else-place-sorted-clause-absent c nothing)
