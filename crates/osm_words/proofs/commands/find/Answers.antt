use Rattle.std.proofs.Common.{map, string_bytes}
use Rattle.std.proofs.lemmas.Bool.{and_parts}
use Rattle.clap.specs.Words.{app_of, built, fault_of, found_of, is_simple, kind_of, matches_of, rows_of}
use Rattle.clap.specs.Faults.{is_free_app}
use Rattle.osm_words.proofs.Finding.{matched, refused}
use Rattle.osm_words.proofs.commands.find.Goals as goal

pub returns-in-Ok : goal.returns-in-Ok
returns-in-Ok c =
    let fails = c.in-Ok.ensures.kinds c.requires in
    let simple = (and_parts (is_simple (app_of c.args.command)) (is_free_app (built (app_of c.args.command))) c.requires).0 in
    let has = c.in-Ok.ensures.matches simple in
    matched
    (fault_of (app_of c.args.command) (map string_bytes c.args.words.now))
    (matches_of (app_of c.args.command) (map string_bytes c.args.words.now))
    (rows_of (found_of c.in-Ok.matches)) fails has.0

pub returns-in-Err : goal.returns-in-Err
returns-in-Err c =
    refused
    (fault_of (app_of c.args.command) (map string_bytes c.args.words.now))
    (matches_of (app_of c.args.command) (map string_bytes c.args.words.now))
    (kind_of c.in-Err.error) c.fault_of.result (c.in-Err.ensures.kinds c.requires) c.fault_of.ensures
