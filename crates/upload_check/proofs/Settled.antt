-- What a plan that stands settles to is what its upload comes to.
use Rattle.std.proofs.Common.{◌≡◌, ℕ, List, length, Ok, Err, refl, sym, ap, ◌∙◌, subst}
use Rattle.std.specs.Prelude.{Result, is_ok}
use Rattle.osm_base.specs.declared.keys.Kind.{Kind}
use Rattle.osm_base.specs.declared.people.User.{User}
use Rattle.osm_base.specs.declared.keys.Kind.TheVariants as kind
use Rattle.osm_element.specs.Elements.{next_id}
use Rattle.osm_element.specs.declared.elements.Elements.{Elements}
use Rattle.osm_change.specs.Keys.{next_of}
use Rattle.osm_change.specs.Moments.{RefusalHasShownEnd}
use Rattle.osm_change.specs.declared.operations.FirstIds.{FirstIds}
use Rattle.osm_change.specs.declared.operations.Op.{Op}
use Rattle.osm_change.specs.declared.operations.OpDone.{OpDone}
use Rattle.osm_change.specs.declared.refusals.Refusal.{Refusal}
use Rattle.diff_result.specs.Counted.{HasNumbers}
use Rattle.osm_later.specs.Settle.{IsSettled}
use Rattle.osm_model.specs.Fold.{upload}
use Rattle.osm_model.specs.declared.states.State.{State}
use Rattle.osm_model.specs.declared.uploads.Progress.{Progress}
use Rattle.osm_world.specs.Beds.{first_ids}
use Rattle.upload_check.specs.Asked.{AskedUpload, IsAccepted, IsRefused}

-- the ids that come next, kind by kind
pub next-ids : (E : Elements) (first : FirstIds) → first ≡ first_ids E → (kind : Kind) → next_of first kind ≡ next_id E kind
next-ids E first is k = ap (λ (ids : FirstIds). next_of ids k) is ∙ by k
  where
    by : (k : Kind) → next_of (first_ids E) k ≡ next_id E k
    by kind.Node = refl
    by kind.Way = refl
    by kind.Relation = refl

pub accepted :
    (T : State) (a : AskedUpload) (t : ℕ) (first : FirstIds) (settled : Result (List OpDone) Refusal) (rows : List OpDone)
    → IsSettled T a.user t a.changeset a.change first settled
    → settled ≡ Ok rows
    → first ≡ first_ids T.elements
    → HasNumbers first (length a.change)
    → IsAccepted T a t first rows
accepted T a t first settled rows is came next numbers =
    let done = subst (λ (r : Result (List OpDone) Refusal). IsSettled T a.user t a.changeset a.change first r) came is in
    record {
      progress = done.progress;
      judged = done.judged;
      rows = sym done.done;
      each = done.each;
      first = next;
      keys = done.keys;
      numbers = numbers;
    }

pub refused :
    (T : State) (a : AskedUpload) (t : ℕ) (first : FirstIds) (settled : Result (List OpDone) Refusal) (r : Refusal)
    → IsSettled T a.user t a.changeset a.change first settled
    → settled ≡ Err r
    → RefusalHasShownEnd r
    → IsRefused T a t r
refused T a t first settled r is came shown = record {
  judged = subst (λ (s : Result (List OpDone) Refusal). IsSettled T a.user t a.changeset a.change first s) came is;
  shown = shown;
}

-- it is accepted exactly where that is
pub accepted-as-settled :
    (T : State) (user : User) (t c : ℕ) (ops : List Op) (first : FirstIds) (settled : Result (List OpDone) Refusal)
    → IsSettled T user t c ops first settled
    → is_ok (upload T user t c ops) ≡ is_ok settled
accepted-as-settled T user t c ops first (Ok ds) is = ap (λ (r : Result Progress Refusal). is_ok r) is.judged
accepted-as-settled T user t c ops first (Err r) is = ap (λ (r : Result Progress Refusal). is_ok r) is
