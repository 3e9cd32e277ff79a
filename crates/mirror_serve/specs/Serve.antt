-- What serving one link by a new mirror does.
use Rattle.std.specs.Prelude.{List, []}
use Rattle.osm_base.specs.declared.limits.TheConstants.{PIECE_LIMIT}
use Rattle.osm_outside.specs.Told.{Told}
use Rattle.osm_model.specs.declared.commands.Entry.{Entry}
use Rattle.osm_model.specs.Journal.{IsLegal}
use Rattle.http_link.specs.declared.end.LinkEnd.{LinkEnd}
use Rattle.http_link.specs.Exchange.{Exchange}
use Rattle.http_link.specs.Link.{TellsAll}
use Rattle.mirror_desk.specs.Desk.{MirrorHasServed}
use Rattle.mirror_desk.specs.declared.setting.MirrorSetting.{MirrorSetting}
use Rattle.server_frame.specs.OnLink.{OnLinkWithin}

-- The link was served to that end by a mirror that had no entries at first.
pub record ServesMirror (setting : MirrorSetting) (before after : Told) (end : LinkEnd) : Type 0 where
  -- the messages that were answered, with their moments and replies
  pub exchanges : List Exchange
  pub link : OnLinkWithin PIECE_LIMIT before after exchanges end
  -- no reply was withheld
  pub tells : TellsAll end
  -- the entries that the mirror has at last: they replay as one thread's
  pub entries : List Entry
  pub legal : IsLegal entries
  -- each message was answered on the entries that the ones before it left; only a piece that is folded adds its entry
  pub served : MirrorHasServed setting [] exchanges entries
