use Rattle.std.proofs.Common.{◌≤◌, length, arith}
use Rattle.std.proofs.lemmas.Str.{IsCharBoundary-from_drop}
use Rattle.osm_json.proofs.entries.name_at.Goals as goal

pub range-requires-clause-start_boundary : goal.range-requires-clause-start_boundary
range-requires-clause-start_boundary c =
    let within : c.args.place.now.start ≤ length c.args.text.now = omega (arith, c.requires.name.rises, c.requires.name.within) in
    λ _. IsCharBoundary-from_drop c.args.text.now _ within c.requires.begins

pub range-requires-clause-end_boundary : goal.range-requires-clause-end_boundary
range-requires-clause-end_boundary c = IsCharBoundary-from_drop c.args.text.now _ c.requires.name.within c.requires.name.rest
