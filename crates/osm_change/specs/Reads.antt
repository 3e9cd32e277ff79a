-- What a read is answered that shows no element.
use Rattle.std.specs.Prelude.{ℕ, ◌==◌, if◌then◌else◌, None}
use Rattle.osm_base.specs.declared.keys.Key.{Key}
use Rattle.osm_change.specs.declared.reads.ReadFault.{ReadFault}
use Rattle.osm_change.specs.declared.reads.ReadFault.TheVariants as unread
use Rattle.osm_change.specs.declared.refusals.Refusal.{Refusal}
use Rattle.osm_change.specs.declared.refusals.Refusal.TheVariants as refused
use Rattle.osm_change.specs.declared.refusals.Said.TheVariants.{Id}

-- an element that never existed has version 0
abbrev pub not_found : Key → ℕ → Refusal
not_found k n = if n == 0 then refused.NoElement (Id k.id) None k.kind else refused.NoSuchVersion (Id k.id) k.kind n

-- No definition gives want of memory.
abbrev pub read_refusal : ReadFault → Refusal
read_refusal (unread.NotFound k n) = not_found k n
read_refusal (unread.Gone k n) = refused.Gone (Id k.id) None k.kind n
read_refusal (unread.Redacted k n r) = refused.Redacted (Id k.id) r k.kind n
read_refusal unread.Memory = refused.NoPath
