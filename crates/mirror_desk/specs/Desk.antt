-- A desk over a follower, and what it answers.
use Rattle.std.specs.Prelude.{◌≡◌, ℕ, List, ◌++◌}
use Rattle.osm_model.specs.declared.commands.Entry.{Entry}
use Rattle.osm_model.specs.Journal.{IsLegal}
use Rattle.http_wire.specs.declared.message.Message.{Message}
use Rattle.http_link.specs.declared.desk.Reply.{Reply}
use Rattle.http_link.specs.Exchange.{Exchange, Chain}
use Rattle.mirror_desk.specs.Answers.{MirrorAnswers}
use Rattle.mirror_desk.specs.declared.setting.MirrorSetting.{MirrorSetting}

-- what a desk works with: the users and how the mirror was begun, and the entries that its follower has
pub record AtMirror : Type 0 where
  pub setting : MirrorSetting
  pub entries : List Entry

-- What the desk may answer, from what it was to what it is then.
pub record Allows (old : AtMirror) (message : Message) (moment : ℕ) (reply : Reply) (new : AtMirror) : Type 0 where
  pub setting : new.setting ≡ old.setting
  pub answers : MirrorAnswers old.setting old.entries message moment reply new.entries

-- The messages were answered one after another, each on the entries that the ones before it left. Entries are only added, at the end.
pub record MirrorHasServed (setting : MirrorSetting) (old : List Entry) (exchanges : List Exchange) (new : List Entry) : Type 0 where
  pub answered : Chain (MirrorAnswers setting) old exchanges new
  pub more : List Entry
  pub grown : new ≡ old ++ more
  pub legal : IsLegal old → IsLegal new
