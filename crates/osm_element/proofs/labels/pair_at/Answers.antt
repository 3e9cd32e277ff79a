use Rattle.std.proofs.lemmas.Str.{IsCharBoundary-start, IsCharBoundary-from_drop}
use Rattle.osm_element.specs.declared.labels.Ends.{Ends}
use Rattle.osm_element.proofs.Cut.{pair_at}
use Rattle.osm_element.proofs.labels.pair_at.Goals as goal

abbrev no_ends : Ends
no_ends = record { key = 0; value = 0 }

pub range-requires-clause-start_le_end : goal.range-requires-clause-start_le_end
range-requires-clause-start_le_end c =
    let at = pair_at 0 c.args.ends.now c.args.text.now c.args.index no_ends (IsCharBoundary-start c.args.text.now c.utf8.text) c.requires.cut c.requires.there in
    rw c.start-start.ensures at.key.rises

pub range-requires-clause-start_boundary : goal.range-requires-clause-start_boundary
range-requires-clause-start_boundary c =
    let at = pair_at 0 c.args.ends.now c.args.text.now c.args.index no_ends (IsCharBoundary-start c.args.text.now c.utf8.text) c.requires.cut c.requires.there in
    λ _. rw c.start-start.ensures at.begins

pub range-requires-clause-end_boundary : goal.range-requires-clause-end_boundary
range-requires-clause-end_boundary c =
    let at = pair_at 0 c.args.ends.now c.args.text.now c.args.index no_ends (IsCharBoundary-start c.args.text.now c.utf8.text) c.requires.cut c.requires.there in
    IsCharBoundary-from_drop c.args.text.now _ at.key.within at.key.rest

pub range-requires-2-clause-start_le_end : goal.range-requires-2-clause-start_le_end
range-requires-2-clause-start_le_end c =
    let at = pair_at 0 c.args.ends.now c.args.text.now c.args.index no_ends (IsCharBoundary-start c.args.text.now c.utf8.text) c.requires.cut c.requires.there in
    at.value.rises

pub range-requires-2-clause-start_boundary : goal.range-requires-2-clause-start_boundary
range-requires-2-clause-start_boundary c =
    let at = pair_at 0 c.args.ends.now c.args.text.now c.args.index no_ends (IsCharBoundary-start c.args.text.now c.utf8.text) c.requires.cut c.requires.there in
    λ _. IsCharBoundary-from_drop c.args.text.now _ at.key.within at.key.rest

pub range-requires-2-clause-end_boundary : goal.range-requires-2-clause-end_boundary
range-requires-2-clause-end_boundary c =
    let at = pair_at 0 c.args.ends.now c.args.text.now c.args.index no_ends (IsCharBoundary-start c.args.text.now c.utf8.text) c.requires.cut c.requires.there in
    IsCharBoundary-from_drop c.args.text.now _ at.value.within at.value.rest

pub returns : goal.returns
returns c =
    let at = pair_at 0 c.args.ends.now c.args.text.now c.args.index no_ends (IsCharBoundary-start c.args.text.now c.utf8.text) c.requires.cut c.requires.there in
    rw (c.range.ensures.value, c.range-2.ensures.value, c.start-start.ensures) at.pair
