use Rattle.std.proofs.Common.{◌≡◌, length}
use Rattle.api_desk.specs.Desk.{entries_of, users_of}
use Rattle.osm_serve.proofs.SentLemmas.{IsAt}
use Rattle.osm_serve.proofs.sending.send_each.Given as goal

abbrev pub invariant-requests : goal.invariant-requests
invariant-requests l = record {
  users : users_of l.desk ≡ users_of l.fn.desk;
  at : IsAt (users_of l.fn.desk) l.fn.load (entries_of l.fn.desk) l.load (entries_of l.desk) l.replies;
}

abbrev pub decreases-requests : goal.decreases-requests
decreases-requests l = length l.load
