use Rattle.std.proofs.Common.{sym, ◌∙◌}
use Rattle.std.specs.List.{position_or_len}
use Rattle.std.proofs.lemmas.Str.{IsAscii-take}
use Rattle.osm_base.specs.Parts.{is_byte}
use Rattle.route_table.specs.Targets.{question_mark}
use Rattle.route_table.proofs.TargetLemmas.{ascii_from_test, ascii_without_json}
use Rattle.route_table.proofs.targets.path_of.Goals as goal

pub ascii_str-requires : goal.ascii_str-requires
ascii_str-requires c =
    let target = c.args.target.now in
    let ascii = ascii_from_test target (sym c.is_ascii.ensures ∙ c.if-not-is_ascii.false) in
    rw (c.without_json.ensures, c.before_query.ensures)
    (ascii_without_json _ (IsAscii-take target (position_or_len (is_byte question_mark) target) ascii))
