-- For private clauses: what has been added to a body.
use Rattle.std.specs.Prelude.{◌≡◌, ℕ, ℤ, List, [], ◌∷◌, ◌++◌, flat_map, Bool, Option, Some, None, Result, OnOk, codes}
use Rattle.std.specs.Fmt.{decimal, signed_decimal}
use Rattle.json.specs.Print.{quoted}
use Rattle.serde_json.specs.Data.{Data, boolean, string}
use Rattle.serde_json.specs.Written.{compact_text}
use Rattle.osm_base.specs.Place.{Area}
use Rattle.osm_base.specs.declared.keys.Kind.{Kind}
use Rattle.osm_base.specs.declared.people.Owner.{Owner}
use Rattle.osm_change.specs.declared.answers.Answer.{Answer}
use Rattle.osm_change.specs.declared.answers.Answer.TheVariants as answers
use Rattle.osm_change.specs.declared.answers.ElementRow.{ElementRow}
use Rattle.osm_json.specs.Shown.{Field, field, natural, kind}
use Rattle.osm_json.specs.Rows.{stamp_field, bounds, action_name}

-- these bytes are appended
pub record Grows (old new xs : List ℕ) : Type 0 where
  pub bytes : new ≡ old ++ xs

-- the same where memory lasts
abbrev pub Adds : {E : Type 0} → Result (Unit {0}) E → List ℕ → List ℕ → List ℕ → Type 0
Adds result old new xs = OnOk result (Grows old new xs)

-- a member behind others
unfoldable pub field_text : Field → List ℕ
field_text None = []
field_text (Some m) = 44 ∷ (quoted m.0 ++ 58 ∷ compact_text m.1)

-- these members are appended behind others
abbrev pub AddsFields : {E : Type 0} → Result (Unit {0}) E → List ℕ → List ℕ → List Field → Type 0
AddsFields result old new fs = Adds result old new (flat_map field_text fs)

-- a value behind others in an array
abbrev pub later_text : Data → List ℕ
later_text d = 44 ∷ compact_text d

-- what rows of one moment, one kind and one owner share
abbrev pub Origin : Type 0
Origin = ℕ × (Kind × Owner)

abbrev pub origin_of : ElementRow → Origin
origin_of r = (r.version.stamp, (r.key.kind, r.owner))

abbrev pub shared_fields : Origin → List Field
shared_fields (stamp, (kind_of, owner)) =
    stamp_field stamp
    ∷ field (codes "type") (kind kind_of)
    ∷ field (codes "uid") (natural owner.id)
    ∷ field (codes "user") (string owner.name) ∷ []

-- these members, and the name of the next
unfoldable pub origin_text : Origin → List ℕ
origin_text o = flat_map field_text (shared_fields o) ++ codes ",\"version\":"

-- the last member of a row, and its end
abbrev pub ending_text : Bool → List ℕ
ending_text b = field_text (field (codes "visible") (boolean b)) ++ 125 ∷ []

-- the items of an array, with commas between them
abbrev pub joined : {A : Type 0} → (A → Data) → List A → List ℕ
joined shown [] = []
joined shown (x ∷ xs) = compact_text (shown x) ++ flat_map (λ y. later_text (shown y)) xs

-- what stands before the rows
abbrev pub opening_text : Option Area → List ℕ
opening_text None = codes "{\"elements\":["
opening_text (Some b) = 123 ∷ (quoted (codes "bounds") ++ 58 ∷ (compact_text (bounds b) ++ codes ",\"elements\":["))

-- what stands before the row of a block
abbrev pub block_opening_text : ElementRow → List ℕ
block_opening_text r = 123 ∷ (quoted (action_name r) ++ 58 ∷ 91 ∷ [])

-- the old id in a row of a diff result, and what stands before it
abbrev pub later_said : Option ℕ → ℤ → List ℕ
later_said None old_id = codes ",\"old_id\":" ++ signed_decimal old_id
later_said (Some version) old_id = (codes ",\"new_version\":" ++ decimal version) ++ (codes ",\"old_id\":" ++ signed_decimal old_id)

-- the same where it begins the row
abbrev pub first_said : Option ℕ → ℤ → List ℕ
first_said None old_id = codes "{\"old_id\":" ++ signed_decimal old_id
first_said (Some version) old_id = (codes "{\"new_version\":" ++ decimal version) ++ (codes ",\"old_id\":" ++ signed_decimal old_id)

abbrev pub said_text : Option ℕ → Option ℕ → ℤ → List ℕ
said_text None version old_id = first_said version old_id
said_text (Some id) version old_id = (codes "{\"new_id\":" ++ decimal id) ++ later_said version old_id

-- ---- the answers that are written as tokens

abbrev pub IsOfFewRows : Answer → Type 0
IsOfFewRows (answers.Diff rows) = ⊥
IsOfFewRows (answers.Elements bounds rows) = ⊥
IsOfFewRows (answers.Change rows) = ⊥
IsOfFewRows _ = Unit {0}
