-- An overlay in which each element stands alike stands for the same.
use Rattle.std.proofs.Common.{◌≡◌, List, length, take, refl, sym, ap, ◌∙◌, subst, Ok, Err}
use Rattle.std.specs.Prelude.{Result, OnErr, slice_get, option_and_then}
use Rattle.osm_base.specs.Key.{lists_key}
use Rattle.osm_base.specs.declared.keys.Key.{Key}
use Rattle.osm_base.specs.declared.memory.Memory.{Memory}
use Rattle.osm_element.specs.declared.elements.Elements.{Elements}
use Rattle.osm_change.specs.declared.operations.Op.{Op}
use Rattle.osm_model.specs.declared.uploads.Progress.{Progress}
use Rattle.osm_world.specs.Beds.{content_of_op}
use Rattle.upload_check.specs.Overlay.{Overlaid, sight, standing_in, content_by, IsEarlier, StandsAlike, StandsFor}
use Rattle.upload_check.specs.declared.judged.Judged.{Judged}
use Rattle.upload_check.specs.declared.standings.Standing.{Standing}
use Rattle.upload_check.specs.declared.standings.Holds.{Holds}
use Rattle.upload_check.specs.declared.standings.Holds.TheVariants.{AsBefore, Nothing, FromOperation}

pub all_alike : (E : Elements) (o : Overlaid) → StandsAlike E o o
all_alike E o = record { keys = refl; next = refl; standings = λ k. refl; touched = refl }

pub alike_stands : (E : Elements) (ops : List Op) (old new : Overlaid) → StandsAlike E old new → (g : Progress) → StandsFor (sight E ops old) g → StandsFor (sight E ops new) g
alike_stands E ops old new alike g st = record {
  keys = alike.keys ∙ st.keys;
  next = alike.next ∙ st.next;
  versions = λ k. ap (λ (x : Standing). x.versions) (alike.standings k) ∙ st.versions k;
  content = λ k.
      ap (λ (x : Standing). content_by (sight E ops new) k x.holds) (alike.standings k)
      ∙ same k (standing_in E old.notes k).holds
      ∙ st.content k;
  users = λ k. ap (λ (x : Standing). x.users) (alike.standings k) ∙ st.users k;
  changed = λ k unlisted.
      ap (λ (x : Standing). x.holds) (alike.standings k)
      ∙ st.changed k (ap (λ (ks : List Key). lists_key ks k) (sym alike.keys) ∙ unlisted);
  earlier = λ k.
      subst (λ (x : Standing). IsEarlier (length new.keys) x.holds) (sym (alike.standings k))
      (subst (λ (ks : List Key). IsEarlier (length ks) (standing_in E old.notes k).holds) (sym alike.keys) (st.earlier k));
  given = λ place k found. st.given place k (ap (λ (ks : List Key). slice_get ks place) (sym alike.keys) ∙ found);
  grown = st.grown;
  touched = alike.touched ∙ st.touched;
}
  where
    same : (k : Key) (h : Holds) → content_by (sight E ops new) k h ≡ content_by (sight E ops old) k h
    same k AsBefore = refl
    same k Nothing = refl
    same k (FromOperation place) = ap (λ (ks : List Key). option_and_then (content_of_op (take place ks)) (slice_get ops place)) alike.keys

-- whatever is answered
pub still_stands :
    (r : Result Judged Memory) (E : Elements) (ops : List Op) (old new : Overlaid)
    → StandsAlike E old new
    → OnErr r ((g : Progress) → StandsFor (sight E ops old) g → StandsFor (sight E ops new) g)
still_stands (Ok j) E ops old new alike = tt
still_stands (Err e) E ops old new alike = alike_stands E ops old new alike
