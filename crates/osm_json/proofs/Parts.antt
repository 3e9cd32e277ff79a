-- The parts of a relation's member.
use Rattle.std.proofs.Common.{◌≡◌, ℕ, List, codes, true, cond, nat_lt, ◌==◌, Some, None, option_map, bytes_eq, refl, sym, ap, ◌∙◌}
use Rattle.std.proofs.lemmas.Bool.{false≢true}
use Rattle.serde_json.specs.Data.{Data, null, boolean, number, string, array, object, Members, put}
use Rattle.serde_json.specs.Find.{get_member, as_str, as_object}
use Rattle.osm_json.specs.Reading.{id_of, kind_of, reference_of}
use Rattle.osm_json.specs.Found.{PartsFound, put_part, parts_of, reference_in}
use Rattle.osm_json.specs.Names.{part_in}
use Rattle.osm_json.specs.declared.names.Part.{Part}
use Rattle.osm_json.specs.declared.names.Part.TheVariants as parts
use Rattle.osm_json.proofs.Objects.{chosen, member_put, IsAt, test_at}
use Rattle.osm_json.proofs.Members.{given_is, allowed_is, bind_same}

abbrev rank : Part → ℕ
rank parts.Type = 0
rank parts.Ref = 1
rank parts.Role = 2
rank parts.Other = 3

abbrev text_at : ℕ → List ℕ
text_at r = cond (r == 0) (codes "type") (cond (r == 1) (codes "ref") (codes "role"))

abbrev part_number : List ℕ → ℕ
part_number key = rank (part_in key)

sound : (key : List ℕ) → IsAt 3 text_at part_number key (part_number key)
sound key =
    chosen (λ p. IsAt 3 text_at part_number key (rank p)) (bytes_eq key (codes "type")) _ _ (λ e h. e)
    (chosen (λ p. IsAt 3 text_at part_number key (rank p)) (bytes_eq key (codes "ref")) _ _ (λ e h. e)
    (chosen (λ p. IsAt 3 text_at part_number key (rank p)) (bytes_eq key (codes "role")) _ _ (λ e h. e) (λ h. absurd (false≢true h))))

abbrev chosen_part : ℕ → Data → PartsFound → PartsFound
chosen_part n d s = record { kind = cond (0 == n) (Some (kind_of d)) s.kind; name = cond (1 == n) (Some (id_of d)) s.name; role = cond (2 == n) (Some (as_str d)) s.role }

by_rank : (p : Part) (d : Data) (s : PartsFound) → put_part p d s ≡ chosen_part (rank p) d s
by_rank parts.Type d s = refl
by_rank parts.Ref d s = refl
by_rank parts.Role d s = refl
by_rank parts.Other d s = refl

one : {A : Type 0} (reading : Data → A) (r : ℕ) (key : List ℕ) (d : Data) (ms : Members) → nat_lt r 3 ≡ true → part_number (text_at r) ≡ r
    → cond (r == part_number key) (Some (reading d)) (option_map reading (get_member (text_at r) ms)) ≡ option_map reading (get_member (text_at r) (put key d ms))
one reading r key d ms small back = ap (λ b. cond b (Some (reading d)) (option_map reading (get_member (text_at r) ms))) (sym (test_at 3 text_at part_number r key small back (sound key))) ∙ sym (member_put reading (text_at r) key d ms)

pub parts_put : (key : List ℕ) (d : Data) (ms : Members) → put_part (part_in key) d (parts_of ms) ≡ parts_of (put key d ms)
parts_put key d ms = by_rank (part_in key) d (parts_of ms) ∙ (λ i. record { kind = one kind_of 0 key d ms refl refl i; name = one id_of 1 key d ms refl refl i; role = one as_str 2 key d ms refl refl i })

pub reference_same : (ms : Members) → reference_in (parts_of ms) ≡ reference_of (object ms)
unfolding reference_of
reference_same ms =
    bind_same _ _ _ _ (given_is kind_of (get_member (codes "type") ms)) (λ kind. bind_same _ _ _ _ (given_is id_of (get_member (codes "ref") ms)) (λ id. bind_same _ _ _ _ (allowed_is as_str (get_member (codes "role") ms)) (λ role. refl)))

pub reference_none : (d : Data) → as_object d ≡ None → reference_of d ≡ None
unfolding reference_of
reference_none null e = refl
reference_none (boolean b) e = refl
reference_none (number n) e = refl
reference_none (string s) e = refl
reference_none (array ds) e = refl
reference_none (object ms) e = absurd (cc)
