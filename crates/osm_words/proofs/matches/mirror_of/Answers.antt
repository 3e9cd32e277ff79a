use Rattle.std.proofs.Common.{rules, ◌≡◌, Some, None, option_map, codes, sym, ◌∙◌}
use Rattle.std.specs.Option.{option_and_then}
use Rattle.clap.specs.Words.{first_of, found_of, rows_of}
use Rattle.osm_words.specs.Values.{text_of}
use Rattle.osm_words.specs.Words.{level_by}
use Rattle.osm_words.proofs.Mirrors.{listening}
use Rattle.osm_words.proofs.matches.mirror_of.Goals as goal

pub returns-in-None-Some-Some-default-clause-value : goal.returns-in-None-Some-Some-default-clause-value
returns-in-None-Some-Some-default-clause-value c =
    let rows = rows_of (found_of c.args.matches.now) in
    let w = c.in-None-Some-Some-default in
    let users : option_and_then text_of (first_of (codes "users") rows) ≡ Some c.in_ok-users.users.now = search rules in
    let level : level_by (first_of (codes "until-level") rows) ≡ Some c.in_ok-until_level.until_level = search rules in
    let at : first_of (codes "at") rows ≡ None = search rules in
    let listen : first_of (codes "listen") rows ≡ Some w.listen.now = search rules in
    let count : first_of (codes "workers") rows ≡ Some w.count.now = search rules in
    c.listen_at.ensures.value ∙ sym (listening rows c.in_ok-users.users.now w.listen.now w.count.now _ c.in_ok-until_level.until_level users level at listen count (sym c.value_of-journal.ensures))
