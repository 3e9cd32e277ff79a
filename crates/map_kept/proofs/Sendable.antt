-- A desk that keeps before it tells may go to another thread. The toolchain derives no such fact of it, as it derives none of the desk
-- that it answers by; so it is shown field by field.
use denote.RattleType.{RattleType}
use denote.Ref.{NamedLft}
use denote.Model.{View}
use base.Stored.{Coded}
use denote.Struct.Declared as S
use denote.Param.Send.{IsSend, IsSync, view_send}
use denote.Param.SendFields.{FieldsHave, declared_send, as_row_send}
use Rattle.api_desk.proofs.Sendable.{desk_send}
use Rattle.journal_file.specs.declared.device.Device.{Ghosts as DeviceGhosts}
use Rattle.kept_desk.proofs.keeper.Keeper.TheSendSync as OfKeeper
use Rattle.shared_front.specs.declared.front.HubName.{Ghosts}
use Rattle.map_kept.specs.contracts.desk.MapKeptDesk as MapKeptDesk
use Rattle.map_kept.specs.contracts.desk.MapKeptDesk.TheInside as Inside

step : (T : S.Declared) (D : Type 0) (c : Coded D) (v : (S.row T).Denot → D) (h : (S.row T).Denot → Type 0) → FieldsHave IsSend T.parts → IsSend (View (S.row T) D c v h)
step T D c v h s = view_send (S.row T) D c v h (declared_send T s)

fields : (κ : NamedLft) (N K V Q R : RattleType) (g : Ghosts N.Denot) (h : Ghosts K.Denot) (d : DeviceGhosts V.Denot)
    → IsSend N → IsSync N → IsSend V → IsSend Q → IsSync Q → IsSync R → FieldsHave IsSend (Inside.struct κ N K V Q R g h d).parts
fields κ N K V Q R g h d sn yn sv sq yq yr = (
  search (desk_send κ N Q R g sn yn sq yq yr) depth 20,
  (search (OfKeeper.the_send, sv, yr) depth 20, tt),
)

pub kept_desk_send : (κ : NamedLft) (N K V Q R : RattleType) (g : Ghosts N.Denot) (h : Ghosts K.Denot) (d : DeviceGhosts V.Denot)
    → IsSend N → IsSync N → IsSend V → IsSend Q → IsSync Q → IsSync R → IsSend (MapKeptDesk.the_row κ N K V Q R g h d)
kept_desk_send κ N K V Q R g h d sn yn sv sq yq yr = search (step, fields κ N K V Q R g h d sn yn sv sq yq yr)
