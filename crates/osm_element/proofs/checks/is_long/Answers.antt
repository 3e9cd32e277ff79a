use Rattle.std.proofs.Common.{refl}
use Rattle.osm_element.proofs.Characters.{is_long-few}
use Rattle.osm_element.proofs.checks.is_long.Goals as goal

pub returns-else-text-gt-CHARACTER_LIMIT : goal.returns-else-text-gt-CHARACTER_LIMIT
returns-else-text-gt-CHARACTER_LIMIT c =
    is_long-few c.args.text.now c.args.text.now refl c.utf8.text c.if-text-gt-CHARACTER_LIMIT.false
