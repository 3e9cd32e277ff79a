-- A desk of a hub may go to another thread. The toolchain derives no such fact of it, since the router of the table of routes that it
-- borrows is a tree of boxed nodes; so it is shown field by field.
use denote.RattleType.{RattleType}
use denote.Ref.{NamedLft}
use denote.Model.{View}
use base.Stored.{Coded}
use denote.Struct.Field.{shr_ref_field}
use denote.Struct.Declared as S
use denote.Param.Send.{IsSend, IsSync, view_send, shr_send}
use denote.Param.SendFields.{FieldsHave, declared_send, as_row_send}
use Rattle.std.specs.contracts.alloc.Global as Global
use Rattle.std.specs.contracts.collections.LinkedList as LinkedList
use Rattle.std.specs.contracts.impls.GlobalAllocator.TheImpl as allocator
use Rattle.osm_outside.specs.contracts.gate.NoGate as NoGate
use Rattle.osm_outside.proofs.gate.NoGate.TheSendSync as OfNoGate
use Rattle.osm_later.specs.contracts.looks.Look as Look
use Rattle.osm_model.specs.contracts.commands.Entry as Entry
use Rattle.osm_model.specs.contracts.queries.Query as Query
use Rattle.osm_model.specs.contracts.states.State as State
use Rattle.osm_model.proofs.commands.Entry.TheSendSync as OfEntry
use Rattle.packed_entry.specs.contracts.packed.PackedEntry as PackedEntry
use Rattle.packed_entry.proofs.packed.PackedEntry.TheSendSync as OfPackedEntry
use Rattle.route_table.proofs.Sendable.{routes_sync}
use Rattle.shared_front.specs.declared.front.HubName.{Ghosts}
use Rattle.snapshot_hub.specs.contracts.hub.Hub as Hub
use Rattle.snapshot_hub.specs.contracts.shown.Shown as Shown
use Rattle.snapshot_hub.specs.contracts.shown.ShownAbsorbStep.TheImpl as absorb
use Rattle.snapshot_hub.specs.contracts.shown.ShownSnapshot.TheImpl as snapshot
use Rattle.snapshot_hub.proofs.hub.Hub.TheSendSync as OfHub
use Rattle.snapshot_hub.proofs.session.Session.TheSendSync as OfSession
use Rattle.snapshot_hub.proofs.shown.Shown.TheSendSync as OfShown
use Rattle.user_table.proofs.tables.UserTable.TheSendSync as OfUserTable
use Rattle.map_machine.specs.contracts.found.Found as Found
use Rattle.map_machine.specs.contracts.machine.MapMachine as MapMachine
use Rattle.map_machine.specs.contracts.machine.MapMachineMachine.TheImpl as machine
use Rattle.map_machine.specs.contracts.machine.MapWorld as MapWorld
use Rattle.map_machine.specs.contracts.plans.MapPlan as MapPlan
use Rattle.map_machine.specs.contracts.plans.Asked as Asked
use Rattle.api_desk.specs.contracts.hub_desk.HubDesk as HubDesk
use Rattle.api_desk.specs.contracts.hub_desk.HubDesk.TheInside as Inside
use Rattle.map_machine.proofs.machine.MapWorld.TheSendSync as OfMapWorld

step : (T : S.Declared) (D : Type 0) (c : Coded D) (v : (S.row T).Denot → D) (h : (S.row T).Denot → Type 0) → FieldsHave IsSend T.parts → IsSend (View (S.row T) D c v h)
step T D c v h s = view_send (S.row T) D c v h (declared_send T s)

-- what the journal keeps of an entry
abbrev pub kept_row : RattleType
kept_row = PackedEntry.the_row

abbrev pub shown_row : (N : RattleType) (g : Ghosts N.Denot) → RattleType
shown_row N g = Shown.the_row N MapMachine.the_row MapWorld.the_row Asked.the_row Query.the_row Found.the_row MapPlan.the_row Entry.the_row kept_row Look.the_row State.the_row g machine.ghosts

abbrev pub hub_row : (N Q : RattleType) (g : Ghosts N.Denot) → RattleType
hub_row N Q g =
    Hub.the_row N MapMachine.the_row (shown_row N g) NoGate.the_row Q MapWorld.the_row Asked.the_row Query.the_row Found.the_row MapPlan.the_row Entry.the_row kept_row Look.the_row State.the_row
    (LinkedList.the_row Entry.the_row Global.the_row allocator.ghosts) g machine.ghosts
    (snapshot.ghosts N MapMachine.the_row MapWorld.the_row Asked.the_row Query.the_row Found.the_row MapPlan.the_row Entry.the_row kept_row Look.the_row State.the_row g snapshot.no_dict machine.ghosts snapshot.no_dict snapshot.no_dict snapshot.no_dict snapshot.no_dict snapshot.no_dict snapshot.no_dict snapshot.no_dict snapshot.no_dict snapshot.no_dict)
    (absorb.ghosts N MapMachine.the_row MapWorld.the_row Asked.the_row Query.the_row Found.the_row MapPlan.the_row Entry.the_row kept_row Look.the_row State.the_row g absorb.no_dict machine.ghosts absorb.no_dict absorb.no_dict absorb.no_dict absorb.no_dict absorb.no_dict absorb.no_dict absorb.no_dict absorb.no_dict absorb.no_dict)

pub hub_sync : (N Q : RattleType) (g : Ghosts N.Denot) → IsSend Q → IsSync (hub_row N Q g)
hub_sync N Q g sq =
    OfHub.the_sync N MapMachine.the_row (shown_row N g) NoGate.the_row Q MapWorld.the_row Asked.the_row Query.the_row Found.the_row MapPlan.the_row Entry.the_row kept_row Look.the_row State.the_row
    (LinkedList.the_row Entry.the_row Global.the_row allocator.ghosts) g machine.ghosts
    (snapshot.ghosts N MapMachine.the_row MapWorld.the_row Asked.the_row Query.the_row Found.the_row MapPlan.the_row Entry.the_row kept_row Look.the_row State.the_row g snapshot.no_dict machine.ghosts snapshot.no_dict snapshot.no_dict snapshot.no_dict snapshot.no_dict snapshot.no_dict snapshot.no_dict snapshot.no_dict snapshot.no_dict snapshot.no_dict)
    (absorb.ghosts N MapMachine.the_row MapWorld.the_row Asked.the_row Query.the_row Found.the_row MapPlan.the_row Entry.the_row kept_row Look.the_row State.the_row g absorb.no_dict machine.ghosts absorb.no_dict absorb.no_dict absorb.no_dict absorb.no_dict absorb.no_dict absorb.no_dict absorb.no_dict absorb.no_dict absorb.no_dict)
    (OfShown.the_send N MapMachine.the_row MapWorld.the_row Asked.the_row Query.the_row Found.the_row MapPlan.the_row Entry.the_row kept_row Look.the_row State.the_row g machine.ghosts OfMapWorld.the_send)
    sq OfEntry.the_send OfPackedEntry.the_send
    (OfShown.the_sync N MapMachine.the_row MapWorld.the_row Asked.the_row Query.the_row Found.the_row MapPlan.the_row Entry.the_row kept_row Look.the_row State.the_row g machine.ghosts OfMapWorld.the_sync)
    OfNoGate.the_sync

fields : (κ : NamedLft) (N Q R : RattleType) (g : Ghosts N.Denot) → IsSend N → IsSync N → IsSend Q → IsSync Q → IsSync R → FieldsHave IsSend (Inside.struct κ N NoGate.the_row Q R g).parts
fields κ N Q R g sn yn sq yq yr = (
  search (yr, shr_send),
  (
    as_row_send (shr_ref_field κ (hub_row N Q g) tt) (shr_send κ.mir κ.lft (hub_row N Q g) (hub_sync N Q g sq)),
    (
      search (OfSession.the_send, OfShown.the_sync, OfMapWorld.the_sync, as_row_send) depth 20,
      (search (OfUserTable.the_sync, shr_send, as_row_send) depth 20, (search (routes_sync, shr_send, as_row_send) depth 20, tt)),
    ),
  ),
)

pub desk_send : (κ : NamedLft) (N Q R : RattleType) (g : Ghosts N.Denot) → IsSend N → IsSync N → IsSend Q → IsSync Q → IsSync R → IsSend (HubDesk.the_row κ N NoGate.the_row Q R g)
desk_send κ N Q R g sn yn sq yq yr = search (step, fields κ N Q R g sn yn sq yq yr)
