use Rattle.std.proofs.Common.{◌≡◌, ℕ, Bool, true, false, Option, Some, None, refl}
use Rattle.std.specs.Prelude.{is_some, is_none, not}
use Rattle.osm_json.specs.Rows.{open_fields}
use Rattle.osm_json.proofs.changesets.open.Goals as goal

none_is : (o : Option ℕ) (none : Bool) → is_some o ≡ not none → none ≡ is_none o
none_is None true e = refl
none_is None false e = cc
none_is (Some x) true e = cc
none_is (Some x) false e = refl

pub returns : goal.returns
unfolding open_fields
returns c = rw (none_is c.args.row.now.closes c.is_none.result c.is_none.ensures) at c.members.ensures
