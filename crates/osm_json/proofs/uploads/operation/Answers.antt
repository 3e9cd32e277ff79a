use Rattle.std.proofs.Common.{[]}
use Rattle.std.proofs.lemmas.List.Elements.{All-head, All-tail}
use Rattle.osm_change.specs.Change.{kind_of, named, names_listed}
use Rattle.osm_change.specs.Said.{IsSaid}
use Rattle.osm_change.specs.declared.operations.Named.{Named}
use Rattle.osm_json.proofs.uploads.operation.Goals as goal

pub said-requires : goal.said-requires
said-requires c =
    let h = rw c.in-Modify.is at c.requires in
    All-head (λ (given : Named). IsSaid c.args.change.now given.name) (named (kind_of c.in-Modify.content) c.in-Modify.name) (names_listed c.in-Modify.content) h

pub kept-requires-in-Modify : goal.kept-requires-in-Modify
kept-requires-in-Modify c =
    let h = rw c.in-Modify.is at c.requires in
    All-tail (λ (given : Named). IsSaid c.args.change.now given.name) (named (kind_of c.in-Modify.content) c.in-Modify.name) (names_listed c.in-Modify.content) h

pub said-requires-in-Delete : goal.said-requires-in-Delete
said-requires-in-Delete c =
    let h = rw c.in-Delete.is at c.requires in
    All-head (λ (given : Named). IsSaid c.args.change.now given.name) (named c.in-Delete.kind c.in-Delete.name) [] h
