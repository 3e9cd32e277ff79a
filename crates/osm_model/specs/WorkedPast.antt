-- A small journal: a changeset, a node, its modification, and a redaction of its first version.
use Rattle.std.specs.Prelude.{ℕ, false, true, List, [], ◌∷◌, ◌++◌, None, pos, negsuc}
use Rattle.osm_base.specs.Place.{Area, at_position}
use Rattle.osm_base.specs.declared.keys.Kind.TheVariants.{Node}
use Rattle.osm_base.specs.declared.people.User.{User}
use Rattle.osm_element.specs.Elements.{key}
use Rattle.osm_element.specs.declared.contents.Content.TheVariants as content
use Rattle.osm_change.specs.declared.operations.Referent.TheVariants.{Old}
use Rattle.osm_change.specs.declared.operations.Op.TheVariants.{Create, Modify}
use Rattle.osm_model.specs.declared.commands.Command.{Command}
use Rattle.osm_model.specs.declared.commands.Command.TheVariants as command
use Rattle.osm_model.specs.declared.commands.Entry.{Entry}

abbrev pub alice : User
alice = record { id = 1; name = 97 ∷ 108 ∷ 105 ∷ 99 ∷ 101 ∷ []; moderator = false; limit = None }

abbrev pub bob : User
bob = record { id = 2; name = 98 ∷ 111 ∷ 98 ∷ []; moderator = true; limit = None }

abbrev pub entry : ℕ → User → ℕ → ℕ → Command → Entry
entry session user call stamp c = record { session = session; call = call; user = user; stamp = stamp; command = c }

-- made at 1700000010, moved at 1700000020
abbrev pub node_moved : List Entry
node_moved =
    entry 0 alice 1 1700000000 (command.CreateChangeset [] None)
    ∷ entry 0 alice 2 1700000010 (command.Upload 1 (Create (negsuc 0) (content.Node (record { lat7 = pos 481400000; lon7 = pos 115400000 })) [] ∷ []))
    ∷ entry 0 alice 3 1700000020 (command.Upload 1 (Modify (Old 1) 1 (content.Node (record { lat7 = pos 5; lon7 = pos 6 })) [] ∷ []))
    ∷ []

abbrev pub then_redacted : List Entry
then_redacted =
    node_moved
    ++ entry 1 bob 1 1700000030 (command.MakeRedaction (99 ∷ []))
    ∷ entry 1 bob 2 1700000030 (command.Redact (key Node 1) 1 1)
    ∷ []

-- where it was made, and nothing else
abbrev pub made_there : Area
made_there = at_position (record { lat7 = pos 481400000; lon7 = pos 115400000 })
