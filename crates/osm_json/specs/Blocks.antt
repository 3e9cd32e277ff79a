-- For private clauses: the tokens of blocks, as they are written one operation after another.
use Rattle.std.specs.Prelude.{if◌then◌else◌, List, [], ◌∷◌, ◌++◌, Option, Some, None}
use Rattle.json.specs.Token.{Token, begin_object, end_object, begin_array, end_array}
use Rattle.osm_change.specs.declared.raw.Action.{Action}
use Rattle.osm_json.specs.Reading.{Step}
use Rattle.osm_json.specs.Sent.{tokens_of, field_tokens}
use Rattle.osm_json.specs.Uploads.{action_eq, name_of_action, if_unused_field}

abbrev pub opened : Action → List Token
opened a = begin_object ∷ Token.key (name_of_action a) ∷ begin_array ∷ []

abbrev pub closed : Action → List Token
closed a = end_array ∷ (field_tokens (if_unused_field a) ++ end_object ∷ [])

-- to an operation of an action, from the block that is open
abbrev pub turned : Option Action → Action → List Token
turned None a = opened a
turned (Some last) a = if action_eq last a then [] else closed last ++ opened a

-- what is still to be written
abbrev pub left : Option Action → List Step → List Token
left None [] = []
left (Some last) [] = closed last
left last (s ∷ more) = turned last s.0 ++ (tokens_of s.1 ++ left (Some s.0) more)
