use Rattle.std.specs.declared.num.ParseIntError.{ParseIntError}
use Rattle.osm_base.proofs.Parsed.{number_read, number_unread}
use Rattle.osm_base.proofs.numbers.parsed.Goals as goal

pub returns-in-Ok : goal.returns-in-Ok
returns-in-Ok c = number_read ParseIntError c.args.text.now c.in-Ok.number c.in-Ok.ensures.value.0 c.requires

pub returns-in-Err : goal.returns-in-Err
returns-in-Err c = number_unread _ c.args.text.now c.in-Err.field-0 c.in-Err.ensures.value.0 c.requires
