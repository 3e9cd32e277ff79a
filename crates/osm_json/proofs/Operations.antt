-- The members of an operation.
use Rattle.std.proofs.Common.{◌≡◌, ℕ, ℤ, List, codes, Bool, true, false, cond, nat_lt, ◌==◌, Option, Some, None, option_map, bytes_eq, unwrap_or, [], refl, sym, ap, ◌∙◌}
use Rattle.std.proofs.lemmas.Bool.{false≢true}
use Rattle.serde_json.specs.Data.{Data, null, boolean, number, string, array, object, Members, put}
use Rattle.serde_json.specs.Find.{get_member, as_object}
use Rattle.std.specs.Ordering.{int_eq}
use Rattle.osm_base.specs.Key.{kind_eq}
use Rattle.osm_base.specs.declared.keys.Kind.{Kind}
use Rattle.osm_base.specs.declared.keys.Kind.TheVariants as kinds
use Rattle.osm_change.specs.declared.raw.Action.{Action}
use Rattle.osm_change.specs.declared.raw.Action.TheVariants.{Create, Modify, Delete}
use Rattle.osm_json.specs.Reading.{◌>>=◌, if_there, integer_of, id_of, count_of, kind_of, tags_of, list_of, reference_of, content_of, version_of, given_tags, operation_of, needed, optional, only_if, repeated, tags_among, single_id, single_of, data_of, in_json, or_shape, single_in}
use Rattle.osm_json.specs.Reading as reading
use Rattle.osm_json.specs.Found.{allowed, put_field, fields_of, content_in, version_in, tags_in, given_content, operation_in, tags_wanted, same_kind, single_id_in, single_of_fields}
use Rattle.osm_json.specs.Bodies.{IsOf}
use Rattle.osm_json.specs.Names.{name_in}
use Rattle.osm_json.specs.declared.operation.Fields.{Fields}
use Rattle.osm_json.specs.declared.names.Name.{Name}
use Rattle.osm_json.specs.declared.names.Name.TheVariants as names
use Rattle.osm_json.proofs.Objects.{chosen, member_put, IsAt, test_at}
use Rattle.osm_json.proofs.Members.{given_is, allowed_is, bind_same}

abbrev rank : Name → ℕ
rank names.Type = 0
rank names.Id = 1
rank names.Version = 2
rank names.Changeset = 3
rank names.Lat7 = 4
rank names.Lon7 = 5
rank names.Nodes = 6
rank names.Members = 7
rank names.Tags = 8
rank names.Other = 9

abbrev text_at : ℕ → List ℕ
text_at r =
    cond (r == 0) (codes "type") (cond (r == 1) (codes "id") (cond (r == 2) (codes "version") (cond (r == 3) (codes "changeset") (cond (r == 4) (codes "lat7") (cond (r == 5) (codes "lon7")
    (cond (r == 6) (codes "nodes") (cond (r == 7) (codes "members") (codes "tags"))))))))

abbrev name_number : List ℕ → ℕ
name_number key = rank (name_in key)

abbrev Sound : List ℕ → Name → Type 0
Sound key n = IsAt 9 text_at name_number key (rank n)

sound : (key : List ℕ) → Sound key (name_in key)
sound key =
    chosen (Sound key) (bytes_eq key (codes "type")) _ _ (λ e h. e)
    (chosen (Sound key) (bytes_eq key (codes "id")) _ _ (λ e h. e)
    (chosen (Sound key) (bytes_eq key (codes "version")) _ _ (λ e h. e)
    (chosen (Sound key) (bytes_eq key (codes "changeset")) _ _ (λ e h. e)
    (chosen (Sound key) (bytes_eq key (codes "lat7")) _ _ (λ e h. e)
    (chosen (Sound key) (bytes_eq key (codes "lon7")) _ _ (λ e h. e)
    (chosen (Sound key) (bytes_eq key (codes "nodes")) _ _ (λ e h. e)
    (chosen (Sound key) (bytes_eq key (codes "members")) _ _ (λ e h. e)
    (chosen (Sound key) (bytes_eq key (codes "tags")) _ _ (λ e h. e) (λ h. absurd (false≢true h))))))))))

abbrev chosen_field : ℕ → Data → Fields → Fields
chosen_field n d f = record {
  kind = cond (0 == n) (Some (kind_of d)) f.kind;
  id = cond (1 == n) (Some (id_of d)) f.id;
  version = cond (2 == n) (Some (count_of d)) f.version;
  changeset = cond (3 == n) (Some (count_of d)) f.changeset;
  lat7 = cond (4 == n) (Some (integer_of d)) f.lat7;
  lon7 = cond (5 == n) (Some (integer_of d)) f.lon7;
  nodes = cond (6 == n) (Some (list_of id_of d)) f.nodes;
  members = cond (7 == n) (Some (list_of reference_of d)) f.members;
  tags = cond (8 == n) (Some (tags_of d)) f.tags;
}

by_rank : (n : Name) (d : Data) (f : Fields) → put_field n d f ≡ chosen_field (rank n) d f
by_rank names.Type d f = refl
by_rank names.Id d f = refl
by_rank names.Version d f = refl
by_rank names.Changeset d f = refl
by_rank names.Lat7 d f = refl
by_rank names.Lon7 d f = refl
by_rank names.Nodes d f = refl
by_rank names.Members d f = refl
by_rank names.Tags d f = refl
by_rank names.Other d f = refl

one : {A : Type 0} (read : Data → A) (r : ℕ) (key : List ℕ) (d : Data) (ms : Members) → nat_lt r 9 ≡ true → name_number (text_at r) ≡ r
    → cond (r == name_number key) (Some (read d)) (option_map read (get_member (text_at r) ms)) ≡ option_map read (get_member (text_at r) (put key d ms))
one read r key d ms small back = ap (λ b. cond b (Some (read d)) (option_map read (get_member (text_at r) ms))) (sym (test_at 9 text_at name_number r key small back (sound key))) ∙ sym (member_put read (text_at r) key d ms)

pub fields_put : (key : List ℕ) (d : Data) (ms : Members) → put_field (name_in key) d (fields_of ms) ≡ fields_of (put key d ms)
fields_put key d ms = by_rank (name_in key) d (fields_of ms) ∙ (λ i. record {
  kind = one kind_of 0 key d ms refl refl i;
  id = one id_of 1 key d ms refl refl i;
  version = one count_of 2 key d ms refl refl i;
  changeset = one count_of 3 key d ms refl refl i;
  lat7 = one integer_of 4 key d ms refl refl i;
  lon7 = one integer_of 5 key d ms refl refl i;
  nodes = one (list_of id_of) 6 key d ms refl refl i;
  members = one (list_of reference_of) 7 key d ms refl refl i;
  tags = one tags_of 8 key d ms refl refl i;
})

-- ---- the operation

content_same : (kind : Kind) (ms : Members) → content_in kind (fields_of ms) ≡ content_of kind (object ms)
unfolding content_of
content_same kinds.Node ms = bind_same _ _ _ _ (given_is integer_of (get_member (codes "lat7") ms)) (λ lat7. bind_same _ _ _ _ (given_is integer_of (get_member (codes "lon7") ms)) (λ lon7. refl))
content_same kinds.Way ms = bind_same _ _ _ _ (given_is (list_of id_of) (get_member (codes "nodes") ms)) (λ nodes. refl)
content_same kinds.Relation ms = bind_same _ _ _ _ (given_is (list_of reference_of) (get_member (codes "members") ms)) (λ references. refl)

version_same : (action : Action) (ms : Members) → version_in action (option_map count_of (get_member (codes "version") ms)) ≡ version_of action (object ms)
version_same Create ms = refl
version_same Modify ms = allowed_is count_of (get_member (codes "version") ms)
version_same (Delete if_unused) ms = allowed_is count_of (get_member (codes "version") ms)

tags_same : (action : Action) (ms : Members) → tags_in action (option_map tags_of (get_member (codes "tags") ms)) ≡ given_tags action (object ms)
tags_same Create ms = ap (option_map (λ tags. unwrap_or tags [])) (allowed_is tags_of (get_member (codes "tags") ms))
tags_same Modify ms = ap (option_map (λ tags. unwrap_or tags [])) (allowed_is tags_of (get_member (codes "tags") ms))
tags_same (Delete if_unused) ms = refl

given_same : (action : Action) (kind : Kind) (ms : Members) → given_content action kind (fields_of ms) ≡ reading.given_content action kind (object ms)
given_same Create kind ms = ap (option_map Some) (content_same kind ms)
given_same Modify kind ms = ap (option_map Some) (content_same kind ms)
given_same (Delete if_unused) kind ms = refl

pub operation_same : (action : Action) (ms : Members) → operation_in action (fields_of ms) ≡ operation_of action (object ms)
unfolding operation_in operation_of
operation_same action ms =
    bind_same _ _ _ _ (given_is kind_of (get_member (codes "type") ms)) (λ kind.
    bind_same _ _ _ _ (given_is id_of (get_member (codes "id") ms)) (λ id.
    bind_same _ _ _ _ (version_same action ms) (λ version.
    bind_same _ _ _ _ (allowed_is count_of (get_member (codes "changeset") ms)) (λ changeset.
    bind_same _ _ _ _ (tags_same action ms) (λ tags.
    bind_same _ _ _ _ (given_same action kind ms) (λ content. refl))))))

-- ---- a changeset, and a single element

pub tags_found : (needs : Bool) (ms : Members) → tags_wanted needs (fields_of ms).tags ≡ tags_among needs (object ms)
tags_found true ms = given_is tags_of (get_member (codes "tags") ms)
tags_found false ms = ap (option_map (λ tags. unwrap_or tags [])) (allowed_is tags_of (get_member (codes "tags") ms))

pub tags_nowhere : (needs : Bool) (d : Data) → as_object d ≡ None → tags_among needs d ≡ None
tags_nowhere true null e = refl
tags_nowhere true (boolean b) e = refl
tags_nowhere true (number n) e = refl
tags_nowhere true (string s) e = refl
tags_nowhere true (array ds) e = refl
tags_nowhere true (object ms) e = absurd (cc)
tags_nowhere false d e = ap (λ o. o >>= λ _. option_map (λ tags. unwrap_or tags []) (optional (codes "tags") tags_of d)) e

kind_repeated : (kind : Kind) (o : Option (Option Kind)) → only_if (same_kind kind o) kind ≡ (allowed o >>= repeated kind_eq kind)
kind_repeated kind None = refl
kind_repeated kind (Some None) = refl
kind_repeated kind (Some (Some said)) = refl

same_kind_found : (kind : Kind) (ms : Members) → only_if (same_kind kind (option_map kind_of (get_member (codes "type") ms))) kind ≡ (optional (codes "type") kind_of (object ms) >>= repeated kind_eq kind)
same_kind_found kind ms = kind_repeated kind (option_map kind_of (get_member (codes "type") ms)) ∙ ap (λ o. o >>= repeated kind_eq kind) (allowed_is kind_of (get_member (codes "type") ms))

single_id_found : (action : Action) (id : ℤ) (ms : Members) → single_id_in action id (option_map id_of (get_member (codes "id") ms)) ≡ single_id action id (object ms)
single_id_found Create id ms = refl
single_id_found Modify id ms = ap (λ o. o >>= repeated int_eq id) (allowed_is id_of (get_member (codes "id") ms))
single_id_found (Delete if_unused) id ms = ap (λ o. o >>= repeated int_eq id) (allowed_is id_of (get_member (codes "id") ms))

pub single_same : (action : Action) (kind : Kind) (id : ℤ) (ms : Members) → single_of_fields action kind id (fields_of ms) ≡ single_of action kind id (object ms)
unfolding single_of_fields single_of
single_same action kind id ms =
    bind_same _ _ _ _ (same_kind_found kind ms) (λ same.
    bind_same _ _ _ _ (single_id_found action id ms) (λ named.
    bind_same _ _ _ _ (version_same action ms) (λ version.
    bind_same _ _ _ _ (given_is count_of (get_member (codes "changeset") ms)) (λ changeset.
    bind_same _ _ _ _ (tags_same action ms) (λ tags.
    bind_same _ _ _ _ (given_same action kind ms) (λ content. refl))))))

-- a single element's body that is no object has no changeset, which is needed
single_none : (action : Action) (kind : Kind) (id : ℤ) (d : Data) → as_object d ≡ None → single_of action kind id d ≡ None
unfolding single_of
single_none Create kind id null e = refl
single_none Create kind id (boolean b) e = refl
single_none Create kind id (number n) e = refl
single_none Create kind id (string s) e = refl
single_none Create kind id (array ds) e = refl
single_none Create kind id (object ms) e = absurd (cc)
single_none Modify kind id null e = refl
single_none Modify kind id (boolean b) e = refl
single_none Modify kind id (number n) e = refl
single_none Modify kind id (string s) e = refl
single_none Modify kind id (array ds) e = refl
single_none Modify kind id (object ms) e = absurd (cc)
single_none (Delete if_unused) kind id null e = refl
single_none (Delete if_unused) kind id (boolean b) e = refl
single_none (Delete if_unused) kind id (number n) e = refl
single_none (Delete if_unused) kind id (string s) e = refl
single_none (Delete if_unused) kind id (array ds) e = refl
single_none (Delete if_unused) kind id (object ms) e = absurd (cc)

pub object_single : (action : Action) (kind : Kind) (id : ℤ) (d : Data) → single_of action kind id d ≡ (option_map fields_of (as_object d) >>= single_of_fields action kind id)
object_single action kind id null = single_none action kind id null refl
object_single action kind id (boolean b) = single_none action kind id (boolean b) refl
object_single action kind id (number n) = single_none action kind id (number n) refl
object_single action kind id (string s) = single_none action kind id (string s) refl
object_single action kind id (array ds) = single_none action kind id (array ds) refl
object_single action kind id (object ms) = sym (single_same action kind id ms)

pub object_tags : (needs : Bool) (d : Data) → tags_among needs d ≡ (option_map fields_of (as_object d) >>= λ f. tags_wanted needs f.tags)
object_tags needs null = tags_nowhere needs null refl
object_tags needs (boolean b) = tags_nowhere needs (boolean b) refl
object_tags needs (number n) = tags_nowhere needs (number n) refl
object_tags needs (string s) = tags_nowhere needs (string s) refl
object_tags needs (array ds) = tags_nowhere needs (array ds) refl
object_tags needs (object ms) = sym (tags_found needs ms)

pub single_read : (action : Action) (kind : Kind) (id : ℤ) (body : List ℕ) (o : Option Fields) → IsOf o (data_of body) → single_in action kind id body ≡ or_shape 1 (o >>= single_of_fields action kind id)
single_read action kind id body o h =
    ap (in_json (λ d. or_shape 1 (single_of action kind id d))) h.there ∙ ap (or_shape 1) (object_single action kind id h.source) ∙ ap (λ p. or_shape 1 (p >>= single_of_fields action kind id)) (sym h.members)

pub tags_read : (needs : Bool) (body : List ℕ) (o : Option Fields) → IsOf o (data_of body) → in_json (λ d. or_shape 0 (tags_among needs d)) (data_of body) ≡ or_shape 0 (o >>= λ f. tags_wanted needs f.tags)
tags_read needs body o h =
    ap (in_json (λ d. or_shape 0 (tags_among needs d))) h.there ∙ ap (or_shape 0) (object_tags needs h.source) ∙ ap (λ p. or_shape 0 (p >>= λ f. tags_wanted needs f.tags)) (sym h.members)

pub operation_none : (action : Action) (d : Data) → as_object d ≡ None → operation_of action d ≡ None
unfolding operation_of
operation_none action null e = refl
operation_none action (boolean b) e = refl
operation_none action (number n) e = refl
operation_none action (string s) e = refl
operation_none action (array ds) e = refl
operation_none action (object ms) e = absurd (cc)
