use Rattle.std.proofs.Common.{◌≡◌, ◌+◌, ◌-◌, ◌/◌, ◌<◌, ℕ, false, length, subst, sym, ◌∙◌, arith}
use Rattle.std.specs.Prelude.{nat_lt}
use Rattle.std.proofs.lemmas.Bool.Decides.{nat_tests}
use Rattle.osm_base.specs.declared.keys.Kind.TheVariants.{Node}
use Rattle.osm_base.specs.declared.keys.Key.{Key}
use Rattle.osm_base.proofs.Halves.{IsBetween, upper_half, lower_half, found_at, not_found}
use Rattle.osm_base.proofs.key_lists.is_listed.Goals as goal

abbrev no_key : Key
no_key = record { kind = Node; id = 0 }

pub halving-preserved-then-is_before : goal.halving-preserved-then-is_before
halving-preserved-then-is_before c =
    let inside : c.halving.low + (c.halving.high - c.halving.low) / 2 < length c.args.sorted.now = omega arith in
    record {
      order = omega arith;
      within = omega arith;
      between = upper_half c.args.sorted.now c.args.key c.halving.low c.halving.high (c.halving.low + (c.halving.high - c.halving.low) / 2) no_key
          c.requires
          inside
          c.halving.invariant.between
          (sym c.if-is_before.ensures);
    }

pub halving-preserved : goal.halving-preserved
halving-preserved c =
    let inside : c.halving.low + (c.halving.high - c.halving.low) / 2 < length c.args.sorted.now = omega arith in
    record {
      order = omega arith;
      within = omega arith;
      between = lower_half c.args.sorted.now c.args.key c.halving.low c.halving.high (c.halving.low + (c.halving.high - c.halving.low) / 2) no_key
          c.requires
          inside
          c.halving.invariant.between
          (sym c.if-is_before.ensures);
    }

pub returns-then-low-sorted : goal.returns-then-low-sorted
returns-then-low-sorted c =
    let same : c.halving.high ≡ c.halving.low = omega arith in
    let here : IsBetween c.args.sorted.now c.args.key c.halving.low c.halving.low
    = subst (λ (n : ℕ). IsBetween c.args.sorted.now c.args.key c.halving.low n) same c.halving.invariant.between in
    c.is.ensures ∙ found_at c.args.sorted.now c.args.key c.halving.low no_key c.requires here c.if-low-sorted.true

pub returns-else-low-sorted : goal.returns-else-low-sorted
returns-else-low-sorted c =
    let same : c.halving.high ≡ c.halving.low = omega arith in
    let here : IsBetween c.args.sorted.now c.args.key c.halving.low c.halving.low
    = subst (λ (n : ℕ). IsBetween c.args.sorted.now c.args.key c.halving.low n) same c.halving.invariant.between in
    let none : nat_lt c.halving.low (length c.args.sorted.now) ≡ false = grind (arith, nat_tests) in
    none ∙ sym (not_found c.args.sorted.now c.args.key c.halving.low c.requires here (omega arith))
