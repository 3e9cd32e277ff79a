-- Worked rows: small runs of the rules, computed.
use Rattle.std.specs.Prelude.{◌≡◌, refl, ℕ, true, false, List, [], ◌∷◌, fold, map, replicate, Option, Some, None, option_and_then, pos, negsuc}
use Rattle.osm_base.specs.Place.{Area}
use Rattle.osm_base.specs.declared.keys.Kind.TheVariants as kind
use Rattle.osm_base.specs.declared.keys.Key.{Key}
use Rattle.osm_base.specs.declared.people.User.{User}
use Rattle.osm_element.specs.declared.contents.Content.{Content}
use Rattle.osm_element.specs.declared.contents.Member.{Member}
use Rattle.osm_element.specs.declared.contents.Content.TheVariants as content
use Rattle.osm_change.specs.declared.operations.Name.{Name}
use Rattle.osm_change.specs.declared.operations.Referent.TheVariants.{Old, New}
use Rattle.osm_change.specs.declared.operations.Op.{Op}
use Rattle.osm_change.specs.declared.operations.Op.TheVariants.{Create, Modify, Delete}
use Rattle.osm_change.specs.declared.answers.Answer.{Answer}
use Rattle.osm_change.specs.declared.answers.Answer.TheVariants as answer
use Rattle.osm_change.specs.declared.answers.DiffRow.{DiffRow}
use Rattle.osm_change.specs.declared.refusals.Refusal.TheVariants as refused
use Rattle.osm_change.specs.declared.refusals.Said.TheVariants.{Id, Placeholder}
use Rattle.osm_model.specs.declared.commands.Command.{Command}
use Rattle.osm_model.specs.declared.commands.Command.TheVariants as command
use Rattle.osm_model.specs.declared.states.State.{State}
use Rattle.changeset_core.specs.declared.records.ChangesetRecord.{ChangesetRecord}
use Rattle.osm_model.specs.State.{empty, changeset}
use Rattle.osm_model.specs.Act.{act}

abbrev alice : User
alice = record { id = 1; name = []; moderator = false; limit = None }

abbrev run : State → List Command → State
run P cs = fold (λ P c. (act P alice 1700000000 c).0) P cs

abbrev last_answer : State → List Command → Command → Answer
last_answer P cs c = (act (run P cs) alice 1700000000 c).1

abbrev node : ℕ → ℕ → Content Name
node lat lon = content.Node (record { lat7 = pos lat; lon7 = pos lon })

abbrev up : List Op → Command
up ops = command.Upload 1 ops

abbrev made : Command
made = command.CreateChangeset [] None

abbrev row_of : Option ℕ → Option ℕ → DiffRow
row_of id version = record { kind = kind.Node; old_id = pos 1; new_id = id; new_version = version }

abbrev one_node : Command
one_node = up (Create (negsuc 0) (node 1 2) [] ∷ [])

abbrev first_node : Command
first_node = up (Create (negsuc 0) (node 481400000 115400000) [] ∷ [])

create_a_node :
    last_answer empty (made ∷ []) first_node
    ≡ answer.Diff (record { kind = kind.Node; old_id = negsuc 0; new_id = Some 1; new_version = Some 1 } ∷ [])
create_a_node = refl

modify_twice :
    last_answer empty (made ∷ first_node ∷ up (Modify (Old 1) 1 (node 5 6) [] ∷ []) ∷ []) (up (Modify (Old 1) 1 (node 5 6) [] ∷ []))
    ≡ answer.Refused (refused.WrongVersion 2 (Id 1) (Some 1) 1 kind.Node)
modify_twice = refl

-- a node that a way of the same upload uses
abbrev with_way : Command
with_way = up (Create (negsuc 0) (node 481400000 115400000) [] ∷ Create (negsuc 0) (content.Way (New 0 ∷ [])) [] ∷ [])

delete_used :
    last_answer empty (made ∷ with_way ∷ []) (up (Delete kind.Node (Old 1) 1 false ∷ []))
    ≡ answer.Refused (refused.Used (Id 1) (Some 1) kind.Node (Id 1) kind.Way 1)
delete_used = refl

delete_if_unused :
    last_answer empty (made ∷ with_way ∷ []) (up (Delete kind.Node (Old 1) 1 true ∷ []))
    ≡ answer.Diff (row_of (Some 1) (Some 1) ∷ [])
delete_if_unused = refl

delete_if_unused_wrong :
    last_answer empty (made ∷ with_way ∷ []) (up (Delete kind.Node (Old 1) 2 true ∷ []))
    ≡ answer.Refused (refused.WrongVersion 1 (Id 1) (Some 1) 2 kind.Node)
delete_if_unused_wrong = refl

no_element :
    last_answer empty (made ∷ []) (up (Create (negsuc 0) (node 1 2) [] ∷ Modify (Old 1) 1 (node 5 6) [] ∷ []))
    ≡ answer.Refused (refused.NoElement (Id 1) (Some 2) kind.Node)
no_element = refl

missing_node :
    last_answer empty (made ∷ []) (up (Create (negsuc 0) (content.Way (Old 9 ∷ [])) [] ∷ []))
    ≡ answer.Refused (refused.Missing (Id 9) (Some 1) kind.Node 0)
missing_node = refl

-- one upload of a node and a way over it, a change of the node and the way's deletion
all_kinds_of_operation :
    last_answer empty (made ∷ []) (up (Create (negsuc 0) (node 481400000 115400000) [] ∷ Create (negsuc 0) (content.Way (New 0 ∷ [])) [] ∷ Modify (New 0) 1 (node 5 6) [] ∷ Delete kind.Way (New 1) 1 false ∷ []))
    ≡ answer.Diff (
    record { kind = kind.Node; old_id = negsuc 0; new_id = Some 1; new_version = Some 1 }
    ∷ record { kind = kind.Way; old_id = negsuc 0; new_id = Some 1; new_version = Some 1 }
    ∷ record { kind = kind.Node; old_id = negsuc 0; new_id = Some 1; new_version = Some 2 }
    ∷ record { kind = kind.Way; old_id = negsuc 0; new_id = None; new_version = None }
    ∷ [])
all_kinds_of_operation = refl

-- gone before version before used
gone_with_a_wrong_version :
    last_answer empty (made ∷ one_node ∷ up (Delete kind.Node (Old 1) 1 false ∷ []) ∷ []) (up (Delete kind.Node (Old 1) 7 false ∷ []))
    ≡ answer.Refused (refused.Gone (Id 1) (Some 1) kind.Node 2)
gone_with_a_wrong_version = refl

gone_if_unused :
    last_answer empty (made ∷ one_node ∷ up (Delete kind.Node (Old 1) 1 false ∷ []) ∷ []) (up (Delete kind.Node (Old 1) 1 true ∷ []))
    ≡ answer.Diff (row_of (Some 1) (Some 2) ∷ [])
gone_if_unused = refl

brought_back :
    last_answer empty (made ∷ one_node ∷ up (Delete kind.Node (Old 1) 1 false ∷ []) ∷ []) (up (Modify (Old 1) 2 (node 5 6) [] ∷ []))
    ≡ answer.Diff (row_of (Some 1) (Some 3) ∷ [])
brought_back = refl

abbrev member_of : Name → Member Name
member_of name = record { kind = kind.Node; name = name; role = [] }

abbrev itself : Member Name
itself = record { kind = kind.Relation; name = Old 1; role = [] }

-- the relation was made first, but ways come before relations
least_user :
    last_answer empty
    (made
    ∷ up (Create (negsuc 0) (node 1 2) [] ∷ Create (negsuc 0) (content.Relation (member_of (New 0) ∷ [])) [] ∷ [])
    ∷ up (Create (negsuc 0) (content.Way (Old 1 ∷ [])) [] ∷ [])
    ∷ [])
    (up (Delete kind.Node (Old 1) 1 false ∷ []))
    ≡ answer.Refused (refused.Used (Id 1) (Some 1) kind.Node (Id 1) kind.Way 1)
least_user = refl

-- a refusal names what the same upload created by its placeholder
used_by_what_is_created :
    last_answer empty (made ∷ one_node ∷ [])
    (up (Create (negsuc 4) (content.Way (Old 1 ∷ [])) [] ∷ Delete kind.Node (Old 1) 1 false ∷ []))
    ≡ answer.Refused (refused.Used (Id 1) (Some 2) kind.Node (Placeholder (negsuc 4)) kind.Way 1)
used_by_what_is_created = refl

-- an id that a create of the same upload gets isn't known before it
id_of_a_create :
    last_answer empty (made ∷ []) (up (Create (negsuc 0) (node 1 2) [] ∷ Create (negsuc 0) (content.Way (Old 1 ∷ [])) [] ∷ []))
    ≡ answer.Refused (refused.Missing (Id 1) (Some 2) kind.Node 0)
id_of_a_create = refl

-- a relation that lists itself isn't used by itself
relation_of_itself_deleted :
    last_answer empty
    (made ∷ up (Create (negsuc 0) (content.Relation []) [] ∷ []) ∷ up (Modify (Old 1) 1 (content.Relation (itself ∷ [])) [] ∷ []) ∷ [])
    (up (Delete kind.Relation (Old 1) 2 false ∷ []))
    ≡ answer.Diff (record { kind = kind.Relation; old_id = pos 1; new_id = None; new_version = None } ∷ [])
relation_of_itself_deleted = refl

relation_of_itself_brought_back :
    last_answer empty
    (made
    ∷ up (Create (negsuc 0) (content.Relation []) [] ∷ [])
    ∷ up (Modify (Old 1) 1 (content.Relation (itself ∷ [])) [] ∷ [])
    ∷ up (Delete kind.Relation (Old 1) 2 false ∷ [])
    ∷ [])
    (up (Modify (Old 1) 3 (content.Relation (itself ∷ [])) [] ∷ []))
    ≡ answer.Refused (refused.Missing (Id 1) (Some 1) kind.Relation 3)
relation_of_itself_brought_back = refl

-- marks: the version that isn't current, the current one, and one that isn't there
redact_an_old_version :
    last_answer empty
    (made ∷ one_node ∷ up (Modify (Old 1) 1 (node 5 6) [] ∷ []) ∷ command.MakeRedaction [] ∷ [])
    (command.Redact (record { kind = kind.Node; id = 1 }) 1 1)
    ≡ answer.Nothing
redact_an_old_version = refl

redact_the_current_version :
    last_answer empty (made ∷ one_node ∷ command.MakeRedaction [] ∷ []) (command.Redact (record { kind = kind.Node; id = 1 }) 1 1)
    ≡ answer.Refused (refused.RedactCurrent (Id 1) kind.Node 1)
redact_the_current_version = refl

redact_without_a_redaction :
    last_answer empty (made ∷ one_node ∷ []) (command.Redact (record { kind = kind.Node; id = 1 }) 1 1)
    ≡ answer.Refused (refused.NoRedaction 1)
redact_without_a_redaction = refl

abbrev node_1 : Key
node_1 = record { kind = kind.Node; id = 1 }

redact_what_never_was :
    last_answer empty (made ∷ command.MakeRedaction [] ∷ []) (command.Redact node_1 1 1)
    ≡ answer.Refused (refused.NoElement (Id 1) None kind.Node)
redact_what_never_was = refl

-- taking off a mark that isn't there is accepted
unredact_without_a_mark : last_answer empty (made ∷ one_node ∷ []) (command.Unredact node_1 1) ≡ answer.Nothing
unredact_without_a_mark = refl

-- ---- ids

-- the id of what was created and deleted isn't given again
created_after_a_delete :
    last_answer empty (made ∷ [])
    (up (Create (negsuc 2) (node 1 2) [] ∷ Delete kind.Node (New 0) 1 false ∷ Create (negsuc 3) (node 1 2) [] ∷ []))
    ≡ answer.Diff (
    record { kind = kind.Node; old_id = negsuc 2; new_id = Some 1; new_version = Some 1 }
    ∷ record { kind = kind.Node; old_id = negsuc 2; new_id = None; new_version = None }
    ∷ record { kind = kind.Node; old_id = negsuc 3; new_id = Some 2; new_version = Some 1 }
    ∷ [])
created_after_a_delete = refl

-- ---- boxes

abbrev box_of : State → ℕ → Option Area
box_of P c = option_and_then (λ r. r.touched) (changeset P c)

abbrev two_nodes : Command
two_nodes = up (Create (negsuc 0) (node 1 1) [] ∷ Create (negsuc 1) (node 9 9) [] ∷ [])

abbrev way_of : List Name → Content Name
way_of names = content.Way names

-- the nodes that a way listed before are in the box
box_of_a_modified_way :
    box_of
    (run empty
    (made
    ∷ two_nodes
    ∷ up (Create (negsuc 0) (way_of (Old 1 ∷ Old 2 ∷ [])) [] ∷ [])
    ∷ made
    ∷ command.Upload 2 (Modify (Old 1) 1 (way_of (Old 2 ∷ [])) [] ∷ [])
    ∷ []))
    2
    ≡ Some (record { left = pos 1; bottom = pos 1; right = pos 9; top = pos 9 })
box_of_a_modified_way = refl

-- a node of a relation is in the box, a way isn't
abbrev members : List (Member Name) → Command
members ms = command.Upload 2 (Create (negsuc 0) (content.Relation ms) [] ∷ [])

box_of_a_relation :
    box_of (run empty (made ∷ two_nodes ∷ made ∷ members (member_of (Old 2) ∷ []) ∷ [])) 2
    ≡ Some (record { left = pos 9; bottom = pos 9; right = pos 9; top = pos 9 })
box_of_a_relation = refl

no_box_of_a_relation_of_a_way :
    box_of (run empty (made ∷ with_way ∷ made ∷ members (record { kind = kind.Way; name = Old 1; role = [] } ∷ []) ∷ [])) 2
    ≡ None
no_box_of_a_relation_of_a_way = refl

-- ---- a full changeset

abbrev full_record : ChangesetRecord → ChangesetRecord
full_record r = record r { did = replicate 10000 (record { key = node_1; version = 1 }) }

abbrev full : State → State
full P = record P { changesets = map full_record P.changesets }

-- a skipped delete is no change
skipped_in_a_full_changeset :
    (act (full (run empty (made ∷ with_way ∷ []))) alice 1700000000 (up (Delete kind.Node (Old 1) 1 true ∷ []))).1
    ≡ answer.Diff (row_of (Some 1) (Some 1) ∷ [])
skipped_in_a_full_changeset = refl

one_more_in_a_full_changeset :
    (act (full (run empty (made ∷ with_way ∷ []))) alice 1700000000 (up (Create (negsuc 0) (node 1 1) [] ∷ []))).1
    ≡ answer.Refused (refused.Full 1 1 10000 10000)
one_more_in_a_full_changeset = refl

-- ---- a limit on the box

abbrev limited : User
limited = record { id = 1; name = []; moderator = false; limit = Some 1000000 }

abbrev corner : ℕ → Command
corner lon = up (Create (negsuc 0) (node 481400000 115400000) [] ∷ Create (negsuc 1) (node 481401000 lon) [] ∷ [])

box_at_the_limit :
    (act (run empty (made ∷ [])) limited 1700000000 (corner 115401000)).1
    ≡ answer.Diff (
    record { kind = kind.Node; old_id = negsuc 0; new_id = Some 1; new_version = Some 1 }
    ∷ record { kind = kind.Node; old_id = negsuc 1; new_id = Some 2; new_version = Some 1 }
    ∷ [])
box_at_the_limit = refl

box_past_the_limit :
    (act (run empty (made ∷ [])) limited 1700000000 (corner 115401001)).1
    ≡ answer.Refused (refused.BoxTooLarge 1001000 1 1000000)
box_past_the_limit = refl

-- a box that is too large already and stays as it is
same_box_past_the_limit :
    (act (run empty (made ∷ corner 115401001 ∷ [])) limited 1700000000 (up (Modify (Old 1) 1 (node 481400000 115400000) [] ∷ []))).1
    ≡ answer.Diff (row_of (Some 1) (Some 2) ∷ [])
same_box_past_the_limit = refl

-- ---- limits by the creation

abbrev limit_of_first : State → Option ℕ
limit_of_first P = option_and_then (λ r. Some r.limit) (changeset P 1)

created_at_the_moment : limit_of_first (run empty (command.CreateChangeset [] (Some 1700000000) ∷ [])) ≡ Some 50000
created_at_the_moment = refl

created_before_the_moment : limit_of_first (run empty (command.CreateChangeset [] (Some 1700000001) ∷ [])) ≡ Some 10000
created_before_the_moment = refl
