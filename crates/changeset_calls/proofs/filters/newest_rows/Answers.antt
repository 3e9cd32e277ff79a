use Rattle.std.proofs.Common.{◌≡◌, ℕ, suc, ◌-◌, ◌<◌, ◌++◌, ◌∷◌, [], ◌⊎◌, inl, inr, Bool, length, rules, arith, sym, ap, ◌∙◌}
use Rattle.std.specs.Prelude.{filter, filter_map}
use Rattle.osm_base.specs.declared.limits.TheConstants.{QUERY_LIMIT}
use Rattle.changeset_core.specs.declared.records.ChangesetRecord.{ChangesetRecord}
use Rattle.osm_model.specs.ChangesetReads.{passes, passes_at, row_at}
use Rattle.osm_world.specs.World.{state_of}
use Rattle.changeset_calls.proofs.Newest.{older, looked, none_left, row_there}
use Rattle.changeset_calls.proofs.filters.newest_rows.Goals as goal
use Rattle.changeset_calls.proofs.filters.newest_rows.Goals.{then-loop-id-test+else-len-lt-QUERY_LIMIT, else-loop-id-test}

pub loop-id-preserved : goal.loop-id-preserved
loop-id-preserved c =
    let P = state_of c.args.world.now in
    let t = c.args.at in
    let f = c.args.filters.now in
    let pass : ChangesetRecord → Bool = passes f.user f.only_open f.only_closed f.within t in
    let rows = c.loop-id.rows.items in
    let m = c.loop-id.id - 1 in
    let last : c.loop-id.id ≡ suc m = omega arith in
    let few : length rows < QUERY_LIMIT = search rules in
    let step
    = looked (row_at P t) (passes_at P pass) (row_there P t pass) QUERY_LIMIT m rows c.add_row.new.rows.items few
    (c.in_ok-add_row.ensures ∙ ap (λ (i : ℕ). rows ++ filter_map (row_at P t) (filter (passes_at P pass) (i ∷ []))) last) in
    record {
      few = step.0;
      within = omega (arith, c.loop-id.invariant.within);
      rows = step.1
          ∙ ap (λ (i : ℕ). rows ++ older (row_at P t) (passes_at P pass) (row_there P t pass) (QUERY_LIMIT - length rows) i) (sym last)
          ∙ c.loop-id.invariant.rows;
    }

pub returns : goal.returns
returns c =
    let P = state_of c.args.world.now in
    let t = c.args.at in
    let f = c.args.filters.now in
    let pass : ChangesetRecord → Bool = passes f.user f.only_open f.only_closed f.within t in
    let rows = c.loop-id.rows.items in
    let ended : (c.loop-id.id ≡ 0) ⊎ (QUERY_LIMIT - length rows ≡ 0)
    = elim c.loop-id-test.branch [ then-loop-id-test+else-len-lt-QUERY_LIMIT w ↦ inr (omega arith) | else-loop-id-test w ↦ inl (omega arith) ] in
    c.of.ensures
    ∙ sym (none_left (row_at P t) (passes_at P pass) (row_there P t pass) (QUERY_LIMIT - length rows) c.loop-id.id rows ended)
    ∙ c.loop-id.invariant.rows
