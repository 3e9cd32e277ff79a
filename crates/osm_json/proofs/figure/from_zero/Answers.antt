use Rattle.osm_json.proofs.Plain.{plain_number}
use Rattle.osm_json.proofs.figure.from_zero.Goals as goal

pub returns-in-Some : goal.returns-in-Some
returns-in-Some c = plain_number c.args.digits.now c.in-Some.number c.in-Some.ensures
