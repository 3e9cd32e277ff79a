use Rattle.std.proofs.Common.{◌≡◌, ◌+◌, ◌-◌, ◌/◌, ◌<◌, ℕ, length, subst, arith}
use Rattle.std.specs.Prelude.{slice_index_or}
use Rattle.std.proofs.lemmas.Option.{slice_get-get_or}
use Rattle.upload_check.proofs.Older.{IsBetween, upper_half, lower_half, not_there, no_entry, at_place}
use Rattle.upload_check.proofs.older_standings.place_of.Goals as goal

pub returns-then-other-id : goal.returns-then-other-id
returns-then-other-id c =
    let inside : c.halving.low + (c.halving.high - c.halving.low) / 2 < length c.args.rising.now = omega arith in
    at_place c.args.rising.now (c.halving.low + (c.halving.high - c.halving.low) / 2) c.args.id inside c.if-other-id.true

pub halving-preserved-then-other-id-2 : goal.halving-preserved-then-other-id-2
halving-preserved-then-other-id-2 c =
    let inside : c.halving.low + (c.halving.high - c.halving.low) / 2 < length c.args.rising.now = omega arith in
    record {
      order = omega arith;
      within = omega arith;
      between = upper_half c.args.rising.now c.args.id c.halving.low c.halving.high (c.halving.low + (c.halving.high - c.halving.low) / 2) _
          c.requires c.halving.invariant.between
          (slice_get-get_or c.args.rising.now (c.halving.low + (c.halving.high - c.halving.low) / 2) no_entry inside)
          c.if-other-id-2.true;
    }

pub halving-preserved : goal.halving-preserved
halving-preserved c =
    let inside : c.halving.low + (c.halving.high - c.halving.low) / 2 < length c.args.rising.now = omega arith in
    let more : c.args.id < (slice_index_or c.args.rising.now (c.halving.low + (c.halving.high - c.halving.low) / 2) no_entry).0 = omega (arith, c.if-other-id.false, c.if-other-id-2.false) in
    record {
      order = omega arith;
      within = omega arith;
      between = lower_half c.args.rising.now c.args.id c.halving.low c.halving.high (c.halving.low + (c.halving.high - c.halving.low) / 2) _
          c.requires c.halving.invariant.between
          (slice_get-get_or c.args.rising.now (c.halving.low + (c.halving.high - c.halving.low) / 2) no_entry inside)
          more;
    }

pub returns : goal.returns
returns c =
    let same : c.halving.high ≡ c.halving.low = omega arith in
    not_there c.args.rising.now c.args.id c.halving.low
    (subst (λ (n : ℕ). IsBetween c.args.rising.now c.args.id c.halving.low n) same c.halving.invariant.between)
