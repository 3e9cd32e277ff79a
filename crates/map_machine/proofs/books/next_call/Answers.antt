use Rattle.std.proofs.Common.{length, ap, arith}
use Rattle.osm_model.specs.declared.commands.Entry.{Entry}
use Rattle.std.proofs.Common.{List}
use Rattle.map_machine.proofs.Journals.{calls_within}
use Rattle.map_machine.proofs.books.next_call.Goals as goal

pub one_more-requires : goal.one_more-requires
one_more-requires c =
    omega (arith, calls_within c.args.session c.args.book.now, c.calls.ensures, ap (λ (es : List Entry). length es) c.journal.ensures.journal)
