-- What a world stands for, and the room that it has.
use Rattle.std.specs.Prelude.{◌≡◌, ⊤, ℕ, false, ◌+◌, ◌-◌, ◌≤◌, ◌<◌, ◌==◌, ◌^◌, List, [], ◌++◌, length, slice_index, Option, Ok}
use Rattle.osm_base.specs.Place.{Area, Position}
use Rattle.osm_base.specs.declared.keys.Key.{Key}
use Rattle.osm_change.specs.declared.operations.Op.{Op}
use Rattle.osm_element.specs.Elements.{IsConsistent}
use Rattle.osm_element.specs.Later.{IsBegun}
use Rattle.osm_element.specs.declared.elements.Elements.{Elements}
use Rattle.changeset_core.specs.declared.records.ChangesetRecord.{ChangesetRecord}
use Rattle.osm_model.specs.Attributed.{IsAttributed}
use Rattle.osm_model.specs.Fold.{start, task, works}
use Rattle.osm_model.specs.Operation.{operate_all}
use Rattle.osm_model.specs.Stamped.{IsStamped}
use Rattle.osm_model.specs.Timely.{IsTimely}
use Rattle.osm_model.specs.declared.commands.Command.{Command}
use Rattle.osm_model.specs.declared.commands.Command.TheVariants as command
use Rattle.osm_model.specs.declared.states.State.{State}
use Rattle.osm_model.specs.declared.uploads.Progress.{Progress}
use Rattle.history_store.specs.Store.{free}
use Rattle.reverse_refs.specs.Users.{free_in}
use Rattle.tile_grid.specs.Grid.{free_at}
use Rattle.indexed_map.specs.Indexed.{IsBare}
use Rattle.osm_world.specs.Records.{records, rooms, AreNumbered}
use Rattle.osm_world.specs.Beds.{first_ids, AreBedsOf, made, begun, entered}
use Rattle.osm_world.specs.declared.beds.Laid.{Laid}
use Rattle.osm_world.specs.declared.stores.Stores.{Stores}

-- the stores, and what was laid by
pub record Parts : Type 0 where
  pub stores : Stores
  pub laid : Laid

-- the map that stores stand for
abbrev pub stored_state : Stores → State
stored_state s = record {
  elements = s.map.elements;
  changesets = records s.changesets.items;
  redactions = s.redactions.items;
  last = s.last;
}

-- the map that a world stands for
abbrev pub state_of : Parts → State
state_of w = stored_state w.stores

-- what every map has that entries make
pub record IsKept (P : State) : Type 0 where
  -- whatever a visible element lists is visible
  pub consistent : IsConsistent P.elements
  pub begun : IsBegun P.elements
  pub timely : IsTimely P
  pub attributed : IsAttributed P
  -- the stamps of a history never go back
  pub stamped : IsStamped P

-- besides, only the changeset `busy` is promised room for work
pub record IsSound (s : Stores) (busy : ℕ) : Type 0 where
  pub kept : IsKept (stored_state s)
  pub numbered : AreNumbered s.changesets.items
  pub work : (i : ℕ) → (i + 1 == busy) ≡ false → slice_index (rooms s.changesets.items) i ≡ 0

-- the operations of an upload need no memory
pub record HasUploadRoom (s : Stores) (laid : Laid) (c : ℕ) (ops : List Op) : Type 0 where
  pub beds : AreBedsOf [] (first_ids s.map.elements) ops laid.beds
  pub unused : laid.keys.items ≡ []
  pub keys : length ops ≤ laid.keys.free
  pub versions : (k : Key) → made laid.beds k ≤ free s.map.versions k
  pub users : (b : Key) → begun s.map.elements laid.beds b ≤ free_in s.map.users b
  pub cells : (p : Position) → entered ops p ≤ free_at s.map.cells p
  pub work : length ops ≤ slice_index (rooms s.changesets.items) (c - 1)
  -- a version has room for its number
  pub short : c < 2 ^ 32

-- a command needs no memory
abbrev pub HasRoomFor : Stores → Laid → Command → Type 0
HasRoomFor s laid (command.CreateChangeset tags large_from) = 0 < s.changesets.free
HasRoomFor s laid (command.Retag c tags) = ⊤
HasRoomFor s laid (command.CloseChangeset c) = ⊤
HasRoomFor s laid (command.Upload c ops) = HasUploadRoom s laid c ops
HasRoomFor s laid (command.Single c ops) = HasUploadRoom s laid c ops
HasRoomFor s laid (command.MakeRedaction title) = 0 < s.redactions.free
HasRoomFor s laid (command.Redact k n redaction) = redaction < 2 ^ 32
HasRoomFor s laid (command.Unredact k n) = ⊤

abbrev pub HasRoom : Parts → Command → Type 0
HasRoom w c = HasRoomFor w.stores w.laid c

-- no room is promised any more
pub record HasNothingPromised (w : Parts) : Type 0 where
  pub map : IsBare w.stores.map
  pub changesets : w.stores.changesets.free ≡ 0
  pub redactions : w.stores.redactions.free ≡ 0
  pub work : (i : ℕ) → slice_index (rooms w.stores.changesets.items) i ≡ 0
  pub beds : w.laid.beds ≡ []

-- -- an upload

-- the operations run through, from these elements
abbrev pub Runs : Elements → ℕ → ℕ → List Op → Progress → Type 0
Runs E c t ops final = operate_all (task E c t ops) (start E) ops ≡ Ok final

-- what is left after the operations: the elements, the changeset's record without its activity and
-- its box, and the box of what they touched
pub record IsDone (F : Elements) (r s : ChangesetRecord) (area : Option Area) (final : Progress) : Type 0 where
  pub elements : final.elements ≡ F
  pub entered : s ≡ record r { did = r.did ++ works final.keys final.done }
  pub touched : final.touched ≡ area
