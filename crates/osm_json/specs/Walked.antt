-- Walking through the elements of an upload as they stand in its text.
use Rattle.std.specs.Prelude.{◌≡◌, ℕ, ◌+◌, List, [], ◌∷◌, ◌++◌, length, map, take, drop, Bool, true, false, cond, Option, Some, None, option_map, codes, is_some, Result, Ok, Err}
use Rattle.serde_json.specs.Data.{Data, Items, no_items, item, Members}
use Rattle.serde_json.specs.Find.{get_member, as_array, as_bool}
use Rattle.osm_change.specs.declared.raw.Action.{Action}
use Rattle.osm_change.specs.declared.raw.Action.TheVariants.{Create, Modify, Delete}
use Rattle.osm_change.specs.declared.raw.RawOp.{RawOp}
use Rattle.osm_json.specs.declared.fault.BodyFault.{BodyFault}
use Rattle.osm_json.specs.declared.fault.BodyFault.TheVariants.{Shape}
use Rattle.osm_json.specs.Reading.{◌>>=◌, operation_of, block_of}
use Rattle.osm_json.specs.declared.blocks.Progress.{Progress}
use Rattle.osm_json.specs.declared.blocks.Lists.{Lists}
use Rattle.osm_json.specs.declared.names.Entry.{Entry}
use Rattle.osm_json.specs.declared.names.Entry.TheVariants as entries

-- the operations that were read, and the number of the first that is malformed
abbrev pub Sight : Type 0
Sight = List RawOp × Option ℕ

abbrev pub sight : Progress → Sight
sight p = (p.ops.items, p.fault)

abbrev pub with_next : List RawOp → Option RawOp → Sight
with_next ops None = (ops, Some (length ops + 1))
with_next ops (Some op) = (ops ++ op ∷ [], None)

abbrev pub walk_from : Action → Data → List RawOp → Option ℕ → Sight
walk_from action d ops (Some n) = (ops, Some n)
walk_from action d ops None = with_next ops (operation_of action d)

-- after one element: none is read after the first that is malformed
abbrev pub walk_one : Action → Data → Sight → Sight
walk_one action d s = walk_from action d s.0 s.1

abbrev pub walk_all : Action → Items → Sight → Sight
walk_all action no_items s = s
walk_all action (item d more) s = walk_all action more (walk_one action d s)

-- whether there is a list, and what its elements lead to
abbrev pub walk_list : Action → Sight → Option Items → Bool × Sight
walk_list action s None = (false, s)
walk_list action s (Some elements) = (true, walk_all action elements s)

-- ---- a block

-- what was found of a block, and what the last of its lists led to, each from the same base
abbrev pub Found : Type 0
Found = Lists × Sight

abbrev pub put_entry : Entry → Data → Sight → Found → Found
put_entry entries.Create d base f = (record f.0 { create = true; is_list = (walk_list Create base (as_array d)).0 }, (walk_list Create base (as_array d)).1)
put_entry entries.Modify d base f = (record f.0 { modify = true; is_list = (walk_list Modify base (as_array d)).0 }, (walk_list Modify base (as_array d)).1)
put_entry entries.Delete d base f = (record f.0 { delete = true; is_list = (walk_list (Delete false) base (as_array d)).0 }, (walk_list (Delete false) base (as_array d)).1)
put_entry entries.IfUnused d base f = (record f.0 { if_unused = Some (as_bool d) }, f.1)
put_entry entries.Other d base f = f

-- where just one of the three is there, its last value was walked through
abbrev pub IsLast : Option Data → Option Data → Option Data → Sight → Found → Type 0
IsLast (Some d) None None base f = (f.0.is_list, f.1) ≡ walk_list Create base (as_array d)
IsLast None (Some d) None base f = (f.0.is_list, f.1) ≡ walk_list Modify base (as_array d)
IsLast None None (Some d) base f = (f.0.is_list, f.1) ≡ walk_list (Delete false) base (as_array d)
IsLast create modify delete base f = Unit {0}

pub record Sees (create modify delete if_unused : Option Data) (base : Sight) (f : Found) : Type 0 where
  pub has_create : f.0.create ≡ is_some create
  pub has_modify : f.0.modify ≡ is_some modify
  pub has_delete : f.0.delete ≡ is_some delete
  pub unused : f.0.if_unused ≡ option_map as_bool if_unused
  pub last : IsLast create modify delete base f

abbrev pub SeesMembers : Members → Sight → Found → Type 0
SeesMembers ms base f = Sees (get_member (codes "create") ms) (get_member (codes "modify") ms) (get_member (codes "delete") ms) (get_member (codes "if-unused") ms) base f

-- the deletions from there on are made only where nothing uses the element
abbrev pub only_unused : RawOp → RawOp
only_unused op = record op { action = Delete true }

abbrev pub mark_ops : ℕ → List RawOp → List RawOp
mark_ops start ops = take start ops ++ map only_unused (drop start ops)

abbrev pub mark : ℕ → Sight → Sight
mark start s = (mark_ops start s.0, s.1)

abbrev pub finish_delete : ℕ → Bool → Option (Option Bool) → Sight → Bool × Sight
finish_delete start false unused s = (false, s)
finish_delete start true None s = (true, s)
finish_delete start true (Some None) s = (false, s)
finish_delete start true (Some (Some false)) s = (true, s)
finish_delete start true (Some (Some true)) s = (true, mark start s)

abbrev pub finish_block : ℕ → Bool → Bool → Bool → Lists → Sight → Bool × Sight
finish_block start true false false f s = (f.is_list, s)
finish_block start false true false f s = (f.is_list, s)
finish_block start false false true f s = finish_delete start f.is_list f.if_unused s
finish_block start create modify delete f s = (false, s)

-- ---- the blocks

-- what is told of a block: where it is one, what its elements lead to
abbrev pub told : Bool → Sight → Option Sight
told b s = cond b (Some s) None

abbrev pub walk_block : Sight → Data → Option Sight
walk_block s d = option_map (λ block. walk_all block.action block.elements s) (block_of d)

abbrev pub walk_blocks : Items → Sight → Option Sight
walk_blocks no_items s = Some s
walk_blocks (item d more) s = walk_block s d >>= walk_blocks more

abbrev pub walk_value : Option Items → Option Sight
walk_value None = None
walk_value (Some blocks) = walk_blocks blocks ([], None)

abbrev pub walk_document : Option Data → Option Sight
walk_document None = None
walk_document (Some d) = walk_value (as_array d)

abbrev pub outcome : Option Sight → Result (List RawOp) BodyFault
outcome None = Err (Shape 0)
outcome (Some (ops, None)) = Ok ops
outcome (Some (ops, Some n)) = Err (Shape n)
