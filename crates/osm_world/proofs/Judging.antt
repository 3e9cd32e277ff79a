-- What each accepted command leaves.
use Rattle.std.proofs.Common.{◌≡◌, ℕ, zero, suc, ◌-◌, ◌<◌, ◌≤◌, Bool, true, false, List, [], ◌∷◌, length, Some, None, Ok, Err, refl, sym, ap, ◌∙◌, subst, arith}
use Rattle.std.specs.Prelude.{Option, Result, IsOk, slice_get, not, is_some, ◌==◌, if◌then◌else◌}
use Rattle.std.specs.Option.{option_map_or}
use Rattle.std.proofs.lemmas.Bool.Decides.{nat_tests}
use Rattle.osm_base.specs.Outcome.{◌>>=◌, refuse_if}
use Rattle.osm_base.specs.declared.keys.Key.{Key}
use Rattle.osm_base.specs.declared.people.User.{User}
use Rattle.osm_element.specs.Elements.{count, history, version, version_in}
use Rattle.osm_element.specs.Tags.{Tag}
use Rattle.osm_element.specs.Version.{Version}
use Rattle.osm_change.specs.Rows.{rows}
use Rattle.osm_change.specs.declared.answers.Answer.TheVariants as answer
use Rattle.osm_change.specs.declared.operations.Op.{Op}
use Rattle.osm_change.specs.declared.refusals.Refusal.{Refusal}
use Rattle.osm_change.specs.declared.refusals.Refusal.TheVariants as refused
use Rattle.osm_change.specs.declared.refusals.Said.TheVariants.{Id}
use Rattle.changeset_core.specs.Changeset.{closes, ended_at, is_open, retagged}
use Rattle.changeset_core.specs.declared.records.ChangesetRecord.{ChangesetRecord}
use Rattle.osm_model.specs.Act.{Effect, judge, create_changeset, single_number, make_redaction, known_version, known_redaction, old_version, marked}
use Rattle.osm_model.specs.Changeset.{changeset_row, new_changeset, open_record, own_record}
use Rattle.osm_model.specs.Fold.{start, task, upload, upload_own, upload_tested, uploaded}
use Rattle.osm_model.specs.Operation.{operate_all}
use Rattle.osm_model.specs.State.{HasChangeset, changeset, own_changeset, with_changeset, with_end, with_mark, with_record, with_redaction, with_tags}
use Rattle.osm_model.specs.declared.commands.Command.{Command}
use Rattle.osm_model.specs.declared.commands.Command.TheVariants as command
use Rattle.osm_model.specs.declared.states.State.{State}
use Rattle.osm_model.specs.declared.uploads.Progress.{Progress}
use Rattle.osm_model.proofs.Underway.{tested-same}
use Rattle.osm_world.specs.World.{Runs}
use Rattle.osm_world.proofs.Operations.{bind-Ok}

pub accepted : {X : Type 0} (r : Result X Refusal) → IsOk r → (x : X) × (r ≡ Ok x)
accepted (Ok x) ok = (x, refl)
accepted (Err e) ok = cc

state-of : (a done : Effect) → ◌≡◌ {A = Result Effect Refusal} (Ok a) (Ok done) → done.state ≡ a.state
state-of a done e = let same : a ≡ done = cc in ap (λ (x : Effect). x.state) (sym same)

same-progress : (g h : Progress) → ◌≡◌ {A = Result Progress Refusal} (Ok g) (Ok h) → g ≡ h
same-progress g h e = cc

-- -- a changeset

-- the record of a changeset that may be worked on
pub record IsOwn (P : State) (t c : ℕ) (r : ChangesetRecord) : Type 0 where
  pub known : changeset P c ≡ Some r
  pub found : slice_get P.changesets (c - 1) ≡ Some r
  pub there : HasChangeset P c
  pub opened : is_open r t ≡ true

pub own : (P : State) (user : User) (t c : ℕ) (r : ChangesetRecord) → own_changeset P user t c ≡ Ok r → IsOwn P t c r
own P user t c r passed = let is = by (changeset P c) passed in record {
  known = is.0;
  found = found (c == 0) is.0;
  there = numbered (c == 0) refl is.0;
  opened = is.1;
}
  where
    same : (s : ChangesetRecord) → ◌≡◌ {A = Result ChangesetRecord Refusal} (Ok s) (Ok r) → s ≡ r
    same s e = cc

    opened : (s : ChangesetRecord) (b : Bool) (x : Refusal) → is_open s t ≡ b → (if b then Ok s else Err x) ≡ Ok r → (s ≡ r) × (is_open r t ≡ true)
    opened s true x is e = (same s e, ap (λ (y : ChangesetRecord). is_open y t) (sym (same s e)) ∙ is)
    opened s false x is e = cc

    own_of : (s : ChangesetRecord) (b : Bool) (x : Refusal) → (if b then open_record t c s else Err x) ≡ Ok r → (s ≡ r) × (is_open r t ≡ true)
    own_of s true x e = opened s (is_open s t) (refused.Closed c (closes s)) refl e
    own_of s false x e = cc

    by : (o : Option ChangesetRecord) → option_map_or (own_record user t c) o (Err (refused.NoChangeset c)) ≡ Ok r → (o ≡ Some r) × (is_open r t ≡ true)
    by None e = cc
    by (Some s) e = let is = own_of s (s.owner.id == user.id) (refused.NotOwner c s.owner.id) e in (ap (λ (x : ChangesetRecord). Some x) is.0, is.1)

    found : (b : Bool) → (if b then None else slice_get P.changesets (c - 1)) ≡ Some r → slice_get P.changesets (c - 1) ≡ Some r
    found true e = cc
    found false e = e

    within : {X : Type 0} (xs : List X) (i : ℕ) (x : X) → slice_get xs i ≡ Some x → i < length xs
    within [] i x e = cc
    within (y ∷ ys) zero x e = omega arith
    within (y ∷ ys) (suc i) x e = let h = within ys i x e in omega (arith, h)

    some : (n : ℕ) → (n == 0) ≡ false → 0 < n
    some n f = grind (arith, nat_tests)

    numbered : (b : Bool) → (c == 0) ≡ b → (if b then None else slice_get P.changesets (c - 1)) ≡ Some r → HasChangeset P c
    numbered true is e = cc
    numbered false is e = (some c is, omega (arith, some c is, within P.changesets (c - 1) r e))

-- whichever record is found there is open
pub open_there : (P : State) (t c : ℕ) (r s : ChangesetRecord) → IsOwn P t c r → slice_get P.changesets (c - 1) ≡ Some s → is_open s t ≡ true
open_there P t c r s is at = ap (λ (x : ChangesetRecord). is_open x t) (same r s (sym is.found ∙ at)) ∙ is.opened
  where
    same : (a b : ChangesetRecord) → ◌≡◌ {A = Option ChangesetRecord} (Some a) (Some b) → b ≡ a
    same a b e = cc

-- its record changes
pub record IsChanged (P : State) (t c : ℕ) (f : ChangesetRecord → ChangesetRecord) (done : Effect) : Type 0 where
  pub was : ChangesetRecord
  pub own : IsOwn P t c was
  pub state : done.state ≡ with_record P c (f was)

changed-is : (P : State) (t c : ℕ) (r : ChangesetRecord) (f : ChangesetRecord → ChangesetRecord) → IsOwn P t c r → option_map_or (λ r. with_record P c (f r)) (changeset P c) P ≡ with_record P c (f r)
changed-is P t c r f is = ap (λ (o : Option ChangesetRecord). option_map_or (λ r. with_record P c (f r)) o P) is.known

pub created :
    (P : State) (user : User) (t : ℕ) (tags : List Tag) (large_from : Option ℕ) (done : Effect)
    → judge P user t (command.CreateChangeset tags large_from) ≡ Ok done
    → done.state ≡ with_changeset P (new_changeset user t tags large_from)
created P user t tags large_from done passed = state-of (create_changeset P user t tags large_from) done passed

pub retagging : (P : State) (user : User) (t c : ℕ) (tags : List Tag) (done : Effect) → judge P user t (command.Retag c tags) ≡ Ok done → IsChanged P t c (λ r. retagged r tags t) done
retagging P user t c tags done passed =
    let step = bind-Ok (own_changeset P user t c) (λ (r : ChangesetRecord). Ok (record { state = with_tags P c tags t; answer = answer.Changeset (changeset_row c (retagged r tags t) t) })) done passed in
    let is = own P user t c step.0 step.1 in
    record {
      was = step.0;
      own = is;
      state = state-of (record { state = with_tags P c tags t; answer = answer.Changeset (changeset_row c (retagged step.0 tags t) t) }) done step.2
          ∙ changed-is P t c step.0 (λ (r : ChangesetRecord). retagged r tags t) is;
    }

pub closing : (P : State) (user : User) (t c : ℕ) (done : Effect) → judge P user t (command.CloseChangeset c) ≡ Ok done → IsChanged P t c (λ r. ended_at r t) done
closing P user t c done passed =
    let step = bind-Ok (own_changeset P user t c) (λ (r : ChangesetRecord). Ok (record { state = with_end P c t; answer = answer.Nothing })) done passed in
    let is = own P user t c step.0 step.1 in
    record {
      was = step.0;
      own = is;
      state = state-of (record { state = with_end P c t; answer = answer.Nothing }) done step.2
          ∙ changed-is P t c step.0 (λ (r : ChangesetRecord). ended_at r t) is;
    }

-- -- an upload

pub record IsUploaded (P : State) (t c : ℕ) (ops : List Op) (done : Effect) : Type 0 where
  pub final : Progress
  pub runs : Runs P.elements c t ops final
  pub there : HasChangeset P c
  pub state : done.state ≡ uploaded P t c final

record IsPassed (P : State) (t c : ℕ) (ops : List Op) (g : Progress) : Type 0 where
  runs : Runs P.elements c t ops g
  there : HasChangeset P c

passed-upload : (P : State) (user : User) (t c : ℕ) (ops : List Op) (g : Progress) → upload P user t c ops ≡ Ok g → IsPassed P t c ops g
passed-upload P user t c ops g e =
    let u = task P.elements c t ops in
    let mine = bind-Ok (own_changeset P user t c) (λ (r : ChangesetRecord). upload_own user u r) g e in
    let fold = bind-Ok (operate_all u (start P.elements) ops) (λ (h : Progress). upload_tested user u mine.0 h) g mine.2 in
    record {
      runs = tested-same user u mine.0 (operate_all u (start P.elements) ops) fold.0 g fold.1 fold.2;
      there = (own P user t c mine.0 mine.1).there;
    }

pub uploading : (P : State) (user : User) (t c : ℕ) (ops : List Op) (done : Effect) → judge P user t (command.Upload c ops) ≡ Ok done → IsUploaded P t c ops done
uploading P user t c ops done passed =
    let up = bind-Ok (upload P user t c ops) (λ (g : Progress). Ok (record { state = uploaded P t c g; answer = answer.Diff (rows ops g.keys g.done) })) done passed in
    let is = passed-upload P user t c ops up.0 up.1 in
    record {
      final = up.0;
      runs = is.runs;
      there = is.there;
      state = state-of (record { state = uploaded P t c up.0; answer = answer.Diff (rows ops up.0.keys up.0.done) }) done up.2;
    }

pub singling : (P : State) (user : User) (t c : ℕ) (ops : List Op) (done : Effect) → judge P user t (command.Single c ops) ≡ Ok done → IsUploaded P t c ops done
singling P user t c ops done passed =
    let up = bind-Ok (upload P user t c ops) (λ (g : Progress). Ok (record { state = uploaded P t c g; answer = answer.Number (single_number ops g.keys g.done) })) done passed in
    let is = passed-upload P user t c ops up.0 up.1 in
    record {
      final = up.0;
      runs = is.runs;
      there = is.there;
      state = state-of (record { state = uploaded P t c up.0; answer = answer.Number (single_number ops up.0.keys up.0.done) }) done up.2;
    }

-- -- redactions

pub titled : (P : State) (user : User) (t : ℕ) (title : List ℕ) (done : Effect) → judge P user t (command.MakeRedaction title) ≡ Ok done → done.state ≡ with_redaction P title
titled P user t title done passed = state-of (make_redaction P title) done passed

pub record IsMarked (P : State) (k : Key) (n : ℕ) (redaction : Option ℕ) (done : Effect) : Type 0 where
  pub counted : 0 < n
  pub within : n ≤ count P.elements k
  pub state : done.state ≡ with_mark P k n redaction

not-refused : (b : Bool) (r : Refusal) (a : Unit {0}) → refuse_if b r ≡ Ok a → b ≡ false
not-refused true r a e = cc
not-refused false r a e = refl

there : (vs : List Version) (n : ℕ) → not (is_some (version_in vs n)) ≡ false → (0 < n) × (n ≤ length vs)
there vs n some = along (n == 0) refl some
  where
    within : (vs : List Version) (i : ℕ) → not (is_some (slice_get vs i)) ≡ false → i < length vs
    within [] i e = cc
    within (v ∷ vs) zero e = omega arith
    within (v ∷ vs) (suc i) e = let h = within vs i e in omega (arith, h)

    more : (n : ℕ) → (n == 0) ≡ false → 0 < n
    more n f = grind (arith, nat_tests)

    along : (b : Bool) → (n == 0) ≡ b → not (is_some (if b then None else slice_get vs (n - 1))) ≡ false → (0 < n) × (n ≤ length vs)
    along true is e = cc
    along false is e = (more n is, omega (arith, more n is, within vs (n - 1) e))

marked-by : (P : State) (k : Key) (n : ℕ) (redaction : Option ℕ) (a : Unit {0}) (done : Effect)
    → known_version P k n ≡ Ok a
    → done.state ≡ (marked P k n redaction).state
    → IsMarked P k n redaction done
marked-by P k n redaction a done known is =
    let some = bind-Ok
    (refuse_if (count P.elements k == 0) (refused.NoElement (Id k.id) None k.kind))
    (λ (there : Unit {0}). refuse_if (not (is_some (version P.elements k n))) (refused.NoSuchVersion (Id k.id) k.kind n))
    a
    known
    in
    let h = there (history P.elements k) n (not-refused (not (is_some (version P.elements k n))) (refused.NoSuchVersion (Id k.id) k.kind n) a some.2) in
    record { counted = h.0; within = h.1; state = is }

pub redacting : (P : State) (user : User) (t : ℕ) (k : Key) (n redaction : ℕ) (done : Effect) → judge P user t (command.Redact k n redaction) ≡ Ok done → IsMarked P k n (Some redaction) done
redacting P user t k n redaction done passed =
    let there = bind-Ok
    (known_version P k n)
    (λ (there : Unit {0}). known_redaction P redaction >>= λ (known : Unit {0}). old_version P k n >>= λ (old : Unit {0}). Ok (marked P k n (Some redaction)))
    done
    passed
    in
    let known = bind-Ok (known_redaction P redaction) (λ (known : Unit {0}). old_version P k n >>= λ (old : Unit {0}). Ok (marked P k n (Some redaction))) done there.2 in
    let old = bind-Ok (old_version P k n) (λ (old : Unit {0}). Ok (marked P k n (Some redaction))) done known.2 in
    marked-by P k n (Some redaction) there.0 done there.1 (state-of (marked P k n (Some redaction)) done old.2)

pub unredacting : (P : State) (user : User) (t : ℕ) (k : Key) (n : ℕ) (done : Effect) → judge P user t (command.Unredact k n) ≡ Ok done → IsMarked P k n None done
unredacting P user t k n done passed =
    let there = bind-Ok (known_version P k n) (λ (there : Unit {0}). Ok (marked P k n None)) done passed in
    marked-by P k n None there.0 done there.1 (state-of (marked P k n None) done there.2)

-- -- what an accepted command may count on

along : (P : State) (user : User) (t : ℕ) (d e : Command) → IsOk (judge P user t d) → d ≡ e → (done : Effect) × (judge P user t e ≡ Ok done)
along P user t d e ok is = accepted (judge P user t e) (subst (λ (x : Command). IsOk (judge P user t x)) is ok)

pub may_retag : (P : State) (user : User) (t : ℕ) (d : Command) (c : ℕ) (tags : List Tag) → IsOk (judge P user t d) → d ≡ command.Retag c tags → (r : ChangesetRecord) × IsOwn P t c r
may_retag P user t d c tags ok is =
    let step = along P user t d (command.Retag c tags) ok is in
    let change = retagging P user t c tags step.0 step.1 in
    (change.was, change.own)

pub may_close : (P : State) (user : User) (t : ℕ) (d : Command) (c : ℕ) → IsOk (judge P user t d) → d ≡ command.CloseChangeset c → (r : ChangesetRecord) × IsOwn P t c r
may_close P user t d c ok is =
    let step = along P user t d (command.CloseChangeset c) ok is in
    let change = closing P user t c step.0 step.1 in
    (change.was, change.own)

pub record MayUpload (P : State) (t c : ℕ) (ops : List Op) : Type 0 where
  pub runs : (final : Progress) × Runs P.elements c t ops final
  pub there : HasChangeset P c

pub may_upload : (P : State) (user : User) (t : ℕ) (d : Command) (c : ℕ) (change ops : List Op) → IsOk (judge P user t d) → d ≡ command.Upload c change → ops ≡ change → MayUpload P t c ops
may_upload P user t d c change ops ok is same =
    let step = along P user t d (command.Upload c change) ok is in
    let up = uploading P user t c change step.0 step.1 in
    subst (λ (os : List Op). MayUpload P t c os) (sym same) (record { runs = (up.final, up.runs); there = up.there })

pub may_single : (P : State) (user : User) (t : ℕ) (d : Command) (c : ℕ) (change ops : List Op) → IsOk (judge P user t d) → d ≡ command.Single c change → ops ≡ change → MayUpload P t c ops
may_single P user t d c change ops ok is same =
    let step = along P user t d (command.Single c change) ok is in
    let up = singling P user t c change step.0 step.1 in
    subst (λ (os : List Op). MayUpload P t c os) (sym same) (record { runs = (up.final, up.runs); there = up.there })

pub may_redact : (P : State) (user : User) (t : ℕ) (d : Command) (k : Key) (n redaction : ℕ) → IsOk (judge P user t d) → d ≡ command.Redact k n redaction → (0 < n) × (n ≤ count P.elements k)
may_redact P user t d k n redaction ok is =
    let step = along P user t d (command.Redact k n redaction) ok is in
    let mark = redacting P user t k n redaction step.0 step.1 in
    (mark.counted, mark.within)

pub may_unredact : (P : State) (user : User) (t : ℕ) (d : Command) (k : Key) (n : ℕ) → IsOk (judge P user t d) → d ≡ command.Unredact k n → (0 < n) × (n ≤ count P.elements k)
may_unredact P user t d k n ok is =
    let step = along P user t d (command.Unredact k n) ok is in
    let mark = unredacting P user t k n step.0 step.1 in
    (mark.counted, mark.within)
