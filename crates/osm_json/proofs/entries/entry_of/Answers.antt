use Rattle.std.proofs.lemmas.Str.{IsCharBoundary-from_drop}
use Rattle.osm_json.proofs.entries.entry_of.Goals as goal

pub range-value-requires-clause-start_boundary : goal.range-value-requires-clause-start_boundary
range-value-requires-clause-start_boundary c = λ _. IsCharBoundary-from_drop c.args.text.now _ c.requires.name.within c.requires.name.rest

pub range-value-requires-clause-end_boundary : goal.range-value-requires-clause-end_boundary
range-value-requires-clause-end_boundary c = IsCharBoundary-from_drop c.args.text.now _ c.requires.value.within c.requires.value.rest
