use Rattle.std.proofs.Common.{refl}
use Rattle.std.proofs.lemmas.Bool.{false≢true}
use Rattle.packed_entry.proofs.Rising.{tags_there, no_tags}
use Rattle.packed_entry.proofs.tags.some_tags.Goals as goal

pub returns-in-Some : goal.returns-in-Some
returns-in-Some c =
    let rise = rw c.in-Some.is at c.in_ok-tags.ensures.rising in
    let same = rw c.in-Some.is at c.in_ok-tags.ensures.value in
    tags_there c.args.count c.args.reader.now _ _ c.in_ok-room.room c.in_ok-table.table c.in-Some.tags c.in_ok-room.ensures c.in_ok-table.ensures (rise.0 refl) same

pub returns-in-None : goal.returns-in-None
returns-in-None c =
    let fall = rw c.in-None.is at c.in_ok-tags.ensures.rising in
    no_tags c.args.count c.args.reader.now _ _ c.in_ok-room.room c.in_ok-table.table c.in_ok-room.ensures c.in_ok-table.ensures (λ h. false≢true (fall.1 h))
