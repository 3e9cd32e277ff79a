-- Every moment that is told of a timely map has a text.
use Rattle.std.proofs.Common.{◌≡◌, ℕ, ◌+◌, Bool, true, false, List, [], ◌∷◌, length, Some, None, Ok, Err, refl, sym, subst, arith}
use Rattle.std.specs.Prelude.{Option, Result, MatchResult, All, not, is_some, find, nat_lt, ◌||◌, ◌==◌, if◌then◌else◌}
use Rattle.std.specs.Option.{option_map_or, ForSome}
use Rattle.osm_base.specs.Outcome.{◌>>=◌, refuse_if}
use Rattle.osm_base.specs.Place.{Area}
use Rattle.osm_base.specs.Stamp.{stamp_after}
use Rattle.osm_base.specs.declared.keys.Kind.{Kind}
use Rattle.osm_base.specs.declared.keys.Key.{Key}
use Rattle.osm_base.specs.declared.people.User.{User}
use Rattle.osm_element.specs.Elements.{count, version, is_visible, first_user}
use Rattle.osm_element.specs.Tags.{Tag}
use Rattle.osm_element.specs.declared.contents.Content.{Content}
use Rattle.osm_change.specs.Change.{kind_of, names_listed}
use Rattle.osm_change.specs.Moments.{IsShownMoment, HasShownLife, RefusalHasShownEnd, HasShownMoments}
use Rattle.osm_change.specs.Rows.{rows}
use Rattle.osm_change.specs.Names.{said}
use Rattle.osm_change.specs.declared.answers.Answer.TheVariants as answer
use Rattle.osm_change.specs.declared.operations.Name.{Name}
use Rattle.osm_change.specs.declared.operations.Named.{Named}
use Rattle.osm_change.specs.declared.operations.Op.{Op}
use Rattle.osm_change.specs.declared.operations.Op.TheVariants.{Create, Modify, Delete}
use Rattle.osm_change.specs.declared.refusals.Refusal.{Refusal}
use Rattle.osm_change.specs.declared.refusals.Refusal.TheVariants as refused
use Rattle.osm_change.specs.declared.refusals.Said.TheVariants.{Id}
use Rattle.changeset_core.specs.Changeset.{closes_by, closes, is_open, join_areas, limit_of, past_limit, retagged}
use Rattle.changeset_core.specs.Timely.{IsTimelyMoment, IsTimelyRecord}
use Rattle.changeset_core.specs.declared.records.ChangesetRecord.{ChangesetRecord}
use Rattle.osm_model.specs.declared.states.State.{State}
use Rattle.osm_model.specs.declared.commands.Command.{Command}
use Rattle.osm_model.specs.declared.commands.Command.TheVariants as command
use Rattle.osm_model.specs.declared.uploads.Progress.{Progress}
use Rattle.osm_model.specs.Changeset.{changeset_row, open_record, own_record}
use Rattle.osm_model.specs.State.{changeset, own_changeset, with_tags, with_end}
use Rattle.osm_model.specs.Timely.{IsTimely}
use Rattle.osm_model.specs.Upload.{Upload}
use Rattle.osm_model.specs.Names.{known_key}
use Rattle.osm_model.specs.Operation.{number, named_key, named_version, is_missing, missing, references_visible, created, modified, modify_known, modify_current, or_skipped, delete_unless_used, delete_visible, delete_known, used, gone, operate, operate_all}
use Rattle.osm_model.specs.Fold.{start, applied_count, task, upload, upload_own, upload_counted, upload_tested, box_allowed, uploaded}
use Rattle.osm_model.specs.Act.{Effect, judge, settle, act, single_number, known_version, known_redaction, old_version, marked}
use Rattle.osm_model.proofs.Advances.{changeset-all}

-- ---- steps that may be refused

-- what holds of both ends of a step and of the one after it holds of both in a row
bind_ends :
    {A B : Type 0} (r : Result A Refusal) (f : A → Result B Refusal) (P : A → Type 0) (S : B → Type 0)
    → MatchResult r P RefusalHasShownEnd
    → ((a : A) → P a → MatchResult (f a) S RefusalHasShownEnd)
    → MatchResult (r >>= f) S RefusalHasShownEnd
bind_ends (Ok a) f P S first then_on = then_on a first
bind_ends (Err x) f P S first then_on = first

-- where it is refused, a moment that is told has a text
abbrev Told : {A : Type 0} → Result A Refusal → Type 0
Told {A} r = MatchResult r (λ (a : A). Unit {0}) RefusalHasShownEnd

told-bind : {A B : Type 0} (r : Result A Refusal) (f : A → Result B Refusal) → Told r → ((a : A) → Told (f a)) → Told (r >>= f)
told-bind (Ok a) f first then_on = then_on a
told-bind (Err x) f first then_on = first

told-refuse_if : (b : Bool) (r : Refusal) → RefusalHasShownEnd r → Told (refuse_if b r)
told-refuse_if true r shown = shown
told-refuse_if false r shown = tt

-- ---- one operation: no refusal tells a moment

told-missing : (u : Upload) (g : Progress) (o : Option Named) → Told {A = Unit {0}} (option_map_or (λ r. Err (missing u g r)) o (Ok tt))
told-missing u g None = tt
told-missing u g (Some r) = tt

told-references : (u : Upload) (g : Progress) (content : Content Name) → Told (references_visible u g content)
told-references u g content = told-missing u g (find (is_missing u g) (names_listed content))

told-named : (o : Option Key) (r : Refusal) → RefusalHasShownEnd r → Told (option_map_or Ok o (Err r))
told-named None r shown = shown
told-named (Some k) r shown = tt

told-named_version : (u : Upload) (g : Progress) (kind : Kind) (name : Name) (k : Key) (version : ℕ) → Told (named_version u g kind name k version)
told-named_version u g kind name k version =
    told-refuse_if
    (not (count g.elements k == version))
    (refused.WrongVersion (count g.elements k) (said u.operations name) (number g) version kind)
    tt

told-or_skipped : (g : Progress) (k : Key) (b : Bool) (r : Refusal) → RefusalHasShownEnd r → Told (or_skipped g k b r)
told-or_skipped g k true r shown = tt
told-or_skipped g k false r shown = shown

told-delete_unless_used : (u : Upload) (g : Progress) (kind : Kind) (name : Name) (k : Key) (b : Bool) (user : Option Key) → Told (delete_unless_used u g kind name k b user)
told-delete_unless_used u g kind name k b None = tt
told-delete_unless_used u g kind name k b (Some x) = told-or_skipped g k b (used u g kind name x) tt

told-delete_visible : (u : Upload) (g : Progress) (kind : Kind) (name : Name) (version : ℕ) (b seen : Bool) (k : Key) → Told (delete_visible u g kind name version b k seen)
told-delete_visible u g kind name version b false k = told-or_skipped g k b (gone u g kind name k) tt
told-delete_visible u g kind name version b true k =
    told-bind
    (named_version u g kind name k version)
    (λ (fine : Unit {0}). delete_unless_used u g kind name k b (first_user g.elements k))
    (told-named_version u g kind name k version)
    (λ fine. told-delete_unless_used u g kind name k b (first_user g.elements k))

told-modify_known : (u : Upload) (g : Progress) (name : Name) (k : Key) (version : ℕ) (content : Content Name) (tags : List Tag) → Told (modify_known u g name k version content tags)
told-modify_known u g name k version content tags =
    told-bind
    (named_version u g (kind_of content) name k version)
    (λ (fine : Unit {0}). modify_current u g k content tags)
    (told-named_version u g (kind_of content) name k version)
    (λ fine.
    told-bind
    (references_visible u g content)
    (λ (fine : Unit {0}). Ok (modified u g k content tags))
    (told-references u g content)
    (λ fine. tt))

told-operate : (u : Upload) (g : Progress) (o : Op) → Told (operate u g o)
told-operate u g (Create placeholder content tags) =
    told-bind (references_visible u g content) (λ (fine : Unit {0}). Ok (created u g content tags)) (told-references u g content) (λ fine. tt)
told-operate u g (Modify name version content tags) =
    told-bind
    (named_key u g (kind_of content) name)
    (λ (k : Key). modify_known u g name k version content tags)
    (told-named (known_key u g (kind_of content) name) (refused.NoElement (said u.operations name) (number g) (kind_of content)) tt)
    (λ k. told-modify_known u g name k version content tags)
told-operate u g (Delete kind name version if_unused) =
    told-bind
    (named_key u g kind name)
    (λ (k : Key). delete_known u g kind name version if_unused k)
    (told-named (known_key u g kind name) (refused.NoElement (said u.operations name) (number g) kind) tt)
    (λ k. told-delete_visible u g kind name version if_unused (is_visible g.elements k) k)

told-operate_all : (u : Upload) (g : Progress) (ops : List Op) → Told (operate_all u g ops)
told-operate_all u g [] = tt
told-operate_all u g (o ∷ ops) =
    told-bind (operate u g o) (λ (next : Progress). operate_all u next ops) (told-operate u g o) (λ next. told-operate_all u next ops)

-- ---- changesets

-- it closes a day after the last moment at the latest
closes_shown :
    (created activity : ℕ) (ended : Option ℕ)
    → IsTimelyMoment created
    → IsTimelyMoment activity
    → ForSome ended IsTimelyMoment
    → IsShownMoment (closes_by created activity ended)
closes_shown created activity None made active ends = omega arith
closes_shown created activity (Some t) made active ends = omega (arith, ends t refl)

open_shown : (b : Bool) (c : ℕ) (r : ChangesetRecord) → IsTimelyRecord r → MatchResult (if b then Ok r else Err (refused.Closed c (closes r))) IsTimelyRecord RefusalHasShownEnd
open_shown true c r timely = timely
open_shown false c r timely = closes_shown r.created r.activity r.ended timely.created timely.activity timely.ended

own_record_shown :
    (b : Bool) (t c : ℕ) (r : ChangesetRecord)
    → IsTimelyRecord r
    → MatchResult (if b then open_record t c r else Err (refused.NotOwner c r.owner.id)) IsTimelyRecord RefusalHasShownEnd
own_record_shown true t c r timely = open_shown (is_open r t) c r timely
own_record_shown false t c r timely = tt

-- the changeset that is worked on, and the one refusal that tells a moment
own_changeset_shown :
    (P : State) (user : User) (t c : ℕ)
    → All IsTimelyRecord P.changesets
    → MatchResult (own_changeset P user t c) IsTimelyRecord RefusalHasShownEnd
own_changeset_shown P user t c all = along (changeset P c) refl
  where
    along : (o : Option ChangesetRecord) → changeset P c ≡ o → MatchResult (option_map_or (own_record user t c) o (Err (refused.NoChangeset c))) IsTimelyRecord RefusalHasShownEnd
    along None found = tt
    along (Some r) found = own_record_shown (r.owner.id == user.id) t c r (changeset-all IsTimelyRecord P c r all found)

closed_shown : (b : Bool) (t : ℕ) → IsShownMoment t → ForSome (if b then None else Some t) IsShownMoment
closed_shown true t shown = λ x none. cc
closed_shown false t shown = λ x same. let e : t ≡ x = cc in omega (arith, e, shown)

pub row_shown : (c t : ℕ) (r : ChangesetRecord) → IsTimelyRecord r → HasShownLife (changeset_row c r t)
row_shown c t r timely = record {
  created = omega (arith, timely.created);
  closes = closed_shown (is_open r t) (closes r) (closes_shown r.created r.activity r.ended timely.created timely.activity timely.ended);
}

retagged_shown : (c t : ℕ) (tags : List Tag) (r : ChangesetRecord) → IsTimelyMoment t → IsTimelyRecord r → HasShownLife (changeset_row c (retagged r tags t) t)
retagged_shown c t tags r at timely = row_shown c t (retagged r tags t) (record { created = timely.created; activity = at; ended = timely.ended })

-- ---- a command

-- the box of a changeset tells no moment
pub told-past : (limit c : ℕ) (o : Option ℕ) → Told {A = Unit {0}} (option_map_or (λ area. Err (refused.BoxTooLarge area c limit)) o (Ok tt))
told-past limit c None = tt
told-past limit c (Some area) = tt

pub told-box : (limit : Option ℕ) (c : ℕ) (before after : Option Area) → Told (box_allowed limit c before after)
told-box None c before after = tt
told-box (Some limit) c before after = told-past limit c (past_limit limit before after)

told-tested : (user : User) (u : Upload) (r : ChangesetRecord) (g : Progress) → Told (upload_tested user u r g)
told-tested user u r g =
    let boxed : Result (Unit {0}) Refusal = box_allowed user.limit u.changeset r.touched (join_areas r.touched g.touched) in
    told-bind
    (upload_counted u r g)
    (λ (fine : Unit {0}). boxed >>= λ (fine : Unit {0}). Ok g)
    (told-refuse_if (nat_lt (limit_of r) (length r.did + applied_count g)) (refused.Full (applied_count g) u.changeset (length r.did) (limit_of r)) tt)
    (λ fine. told-bind boxed (λ (fine : Unit {0}). Ok g) (told-box user.limit u.changeset r.touched (join_areas r.touched g.touched)) (λ fine. tt))

told-upload : (P : State) (user : User) (t c : ℕ) (ops : List Op) → All IsTimelyRecord P.changesets → Told (upload P user t c ops)
told-upload P user t c ops all =
    let u : Upload = task P.elements c t ops in
    bind_ends
    (own_changeset P user t c)
    (λ (r : ChangesetRecord). upload_own user u r)
    IsTimelyRecord
    (λ (g : Progress). Unit {0})
    (own_changeset_shown P user t c all)
    (λ r own.
    told-bind
    (operate_all u (start P.elements) ops)
    (λ (g : Progress). upload_tested user u r g)
    (told-operate_all u (start P.elements) ops)
    (λ g. told-tested user u r g))

told-known_version : (P : State) (k : Key) (n : ℕ) → Told (known_version P k n)
told-known_version P k n =
    told-bind
    (refuse_if (count P.elements k == 0) (refused.NoElement (Id k.id) None k.kind))
    (λ (there : Unit {0}). refuse_if (not (is_some (version P.elements k n))) (refused.NoSuchVersion (Id k.id) k.kind n))
    (told-refuse_if (count P.elements k == 0) (refused.NoElement (Id k.id) None k.kind) tt)
    (λ there. told-refuse_if (not (is_some (version P.elements k n))) (refused.NoSuchVersion (Id k.id) k.kind n) tt)

abbrev Shown : Effect → Type 0
Shown done = HasShownMoments done.answer

-- both ends of a command
judge_shown :
    (P : State) (user : User) (t : ℕ) (c : Command)
    → IsTimelyMoment t
    → All IsTimelyRecord P.changesets
    → MatchResult (judge P user t c) Shown RefusalHasShownEnd
judge_shown P user t (command.CreateChangeset tags large_from) at all = tt
judge_shown P user t (command.Retag c tags) at all =
    bind_ends
    (own_changeset P user t c)
    (λ (r : ChangesetRecord). Ok (record { state = with_tags P c tags t; answer = answer.Changeset (changeset_row c (retagged r tags t) t) }))
    IsTimelyRecord
    Shown
    (own_changeset_shown P user t c all)
    (λ r own. retagged_shown c t tags r at own)
judge_shown P user t (command.CloseChangeset c) at all =
    bind_ends
    (own_changeset P user t c)
    (λ (r : ChangesetRecord). Ok (record { state = with_end P c t; answer = answer.Nothing }))
    IsTimelyRecord
    Shown
    (own_changeset_shown P user t c all)
    (λ r own. tt)
judge_shown P user t (command.Upload c ops) at all =
    bind_ends
    (upload P user t c ops)
    (λ (g : Progress). Ok (record { state = uploaded P t c g; answer = answer.Diff (rows ops g.keys g.done) }))
    (λ (g : Progress). Unit {0})
    Shown
    (told-upload P user t c ops all)
    (λ g on. tt)
judge_shown P user t (command.Single c ops) at all =
    bind_ends
    (upload P user t c ops)
    (λ (g : Progress). Ok (record { state = uploaded P t c g; answer = answer.Number (single_number ops g.keys g.done) }))
    (λ (g : Progress). Unit {0})
    Shown
    (told-upload P user t c ops all)
    (λ g on. tt)
judge_shown P user t (command.MakeRedaction title) at all = tt
judge_shown P user t (command.Redact k n redaction) at all =
    bind_ends
    (known_version P k n)
    (λ (there : Unit {0}). known_redaction P redaction >>= λ (known : Unit {0}). old_version P k n >>= λ (old : Unit {0}). Ok (marked P k n (Some redaction)))
    (λ (fine : Unit {0}). Unit {0})
    Shown
    (told-known_version P k n)
    (λ there done.
    bind_ends
    (known_redaction P redaction)
    (λ (known : Unit {0}). old_version P k n >>= λ (old : Unit {0}). Ok (marked P k n (Some redaction)))
    (λ (fine : Unit {0}). Unit {0})
    Shown
    (told-refuse_if ((redaction == 0) || nat_lt (length P.redactions) redaction) (refused.NoRedaction redaction) tt)
    (λ known done.
    bind_ends
    (old_version P k n)
    (λ (old : Unit {0}). Ok (marked P k n (Some redaction)))
    (λ (fine : Unit {0}). Unit {0})
    Shown
    (told-refuse_if (n == count P.elements k) (refused.RedactCurrent (Id k.id) k.kind n) tt)
    (λ old done. tt)))
judge_shown P user t (command.Unredact k n) at all =
    bind_ends
    (known_version P k n)
    (λ (there : Unit {0}). Ok (marked P k n None))
    (λ (fine : Unit {0}). Unit {0})
    Shown
    (told-known_version P k n)
    (λ there done. tt)

settled_shown : (P : State) (t : ℕ) (judged : Result Effect Refusal) → MatchResult judged Shown RefusalHasShownEnd → HasShownMoments (settle P t judged).1
settled_shown P t (Ok done) shown = shown
settled_shown P t (Err r) shown = shown

-- a stamp is capped
pub stamp_timely : (last moment : ℕ) → IsTimelyMoment last → IsTimelyMoment (stamp_after last moment)
stamp_timely last moment timely = omega arith

pub act_shown : (P : State) (user : User) (m : ℕ) (c : Command) → IsTimely P → HasShownMoments (act P user m c).1
act_shown P user m c timely =
    let t : ℕ = stamp_after P.last m in
    settled_shown P t (judge P user t c) (judge_shown P user t c (stamp_timely P.last m timely.last) timely.changesets)

-- ---- what was judged

module _
    (P : State) (user : User) (m t : ℕ) (c : Command) (timely : IsTimely P) (at : t ≡ stamp_after P.last m)
  where
    both_shown : (r : Result Effect Refusal) → judge P user t c ≡ r → MatchResult r Shown RefusalHasShownEnd
    both_shown r judged =
        subst
        (λ (r : Result Effect Refusal). MatchResult r Shown RefusalHasShownEnd)
        judged
        (judge_shown P user t c (subst (λ (n : ℕ). IsTimelyMoment n) (sym at) (stamp_timely P.last m timely.last)) timely.changesets)

    -- the answer of an accepted command
    pub answer_shown : (done : Effect) → judge P user t c ≡ Ok done → HasShownMoments done.answer
    answer_shown done judged = both_shown (Ok done) judged

    -- and the refusal of another
    pub refusal_shown : (r : Refusal) → judge P user t c ≡ Err r → RefusalHasShownEnd r
    refusal_shown r judged = both_shown (Err r) judged
