-- The tests on an overlay are the rules' own, on whatever it stands for.
use Rattle.std.proofs.Common.{◌≡◌, ℕ, ◌+◌, ◌<◌, Bool, true, false, cond, ◌&&◌, List, [], ◌∷◌, length, Some, None, Ok, Err, refl, sym, ap, ◌∙◌, ⊎_elim, arith}
use Rattle.std.specs.Prelude.{Option, Result, ℤ, not, is_some, find, slice_get, option_and_then, ◌==◌, if◌then◌else◌}
use Rattle.std.specs.Option.{option_map_or}
use Rattle.std.proofs.lemmas.Bool.{cases_Bool}
use Rattle.std.proofs.lemmas.Bool.Decides.{nat_tests}
use Rattle.osm_base.specs.Key.{key_eq, lists_key}
use Rattle.osm_base.specs.Outcome.{◌>>=◌, refuse_if}
use Rattle.osm_base.specs.declared.keys.Kind.{Kind}
use Rattle.osm_base.specs.declared.keys.Kind.TheVariants as kind
use Rattle.osm_base.specs.declared.keys.Key.{Key}
use Rattle.osm_element.specs.Elements as elements
use Rattle.osm_element.specs.Elements.{key, next_id, count, refs_in, users, first_user}
use Rattle.osm_element.specs.Tags.{Tag}
use Rattle.osm_element.specs.declared.contents.Content.{Content}
use Rattle.osm_element.specs.declared.elements.Elements.{Elements}
use Rattle.osm_change.specs.Change.{kind_of, names_listed}
use Rattle.osm_change.specs.Keys.{next_of}
use Rattle.osm_change.specs.Names.{said, said_made}
use Rattle.osm_change.specs.declared.operations.FirstIds.{FirstIds}
use Rattle.osm_change.specs.declared.operations.Name.{Name}
use Rattle.osm_change.specs.declared.operations.Referent.TheVariants.{Old, New}
use Rattle.osm_change.specs.declared.operations.Named.{Named}
use Rattle.osm_change.specs.declared.operations.Op.{Op}
use Rattle.osm_change.specs.declared.operations.Op.TheVariants.{Create, Modify, Delete}
use Rattle.osm_change.specs.declared.refusals.Refusal.{Refusal}
use Rattle.osm_change.specs.declared.refusals.Refusal.TheVariants as refused
use Rattle.osm_change.specs.declared.refusals.Said.{Said}
use Rattle.osm_change.specs.declared.refusals.Said.TheVariants.{Id}
use Rattle.osm_model.specs.Fold.{task}
use Rattle.osm_model.specs.Names.{of_kind, known_key, said_key, with_ids}
use Rattle.osm_model.specs.Operation as model
use Rattle.osm_model.specs.Operation.{number, named_key, named_version, references_visible, applied, skipped, created, modified, or_skipped, delete_unless_used, delete_visible, delete_known, operate}
use Rattle.osm_model.specs.Upload.{Upload}
use Rattle.osm_model.specs.declared.uploads.Progress.{Progress}
use Rattle.osm_world.specs.Beds.{first_ids, content_of_op, tags_of_op}
use Rattle.upload_check.specs.Overlay.{Sight, standing, content_by, is_visible, uses, StandsFor}
use Rattle.upload_check.specs.Checks.{task_of, named_in, place_of, known, element, current_version, is_missing, missing, references, gone, used, least_user, makes, next_key, check_create, check_current, check_known, check_modify, or_left, refuse_used, check_used, check_unused, check_visible, check_delete, check}
use Rattle.upload_check.specs.declared.checks.Step.{Step}
use Rattle.upload_check.proofs.Users.{no-first, some-first}
use Rattle.upload_check.proofs.FirstUser.{first-folded}

-- ---- steps in a row

pub bind-then :
    {A B C : Type 0} (r : Result A Refusal) (f : A → Result B Refusal) (h : B → Result C Refusal)
    → ((r >>= f) >>= h) ≡ (r >>= λ a. f a >>= h)
bind-then (Ok a) f h = refl
bind-then (Err x) f h = refl

bind-same :
    {A B : Type 0} (r q : Result A Refusal) (f h : A → Result B Refusal)
    → r ≡ q
    → ((a : A) → f a ≡ h a)
    → (r >>= f) ≡ (q >>= h)
bind-same {A} {B} r q f h same each = ap (λ (x : Result A Refusal). x >>= f) same ∙ by q
  where
    by : (q : Result A Refusal) → (q >>= f) ≡ (q >>= h)
    by (Ok a) = each a
    by (Err x) = refl

-- two in a row against three
bind-both :
    {A B C : Type 0} (r q : Result A Refusal) (f : A → Result C Refusal) (h : A → Result B Refusal) (after : B → Result C Refusal)
    → q ≡ r
    → ((a : A) → f a ≡ (h a >>= after))
    → (r >>= f) ≡ ((q >>= h) >>= after)
bind-both {A} {B} {C} r q f h after same each =
    bind-same r q f (λ (a : A). h a >>= after) (sym same) each ∙ sym (bind-then q h after)

-- ---- names

pub number-same : (s : Sight) (g : Progress) → StandsFor s g → place_of s ≡ number g
number-same s g st = ap (λ (ks : List Key). Some (length ks + 1)) st.keys

pub known-same : (s : Sight) (g : Progress) (c t : ℕ) (q : Kind) (name : Name) → StandsFor s g → known s q name ≡ known_key (task s.before c t s.operations) g q name
known-same s g c t q (Old id) st = refl
known-same s g c t q (New place) st = ap (λ (ks : List Key). option_and_then (of_kind q) (slice_get ks place)) st.keys

named-same : (s : Sight) (g : Progress) (c t : ℕ) (q : Kind) (name : Name) → StandsFor s g → element s q name ≡ named_key (task s.before c t s.operations) g q name
named-same s g c t q name st =
    ap (λ (k : Option Key). option_map_or Ok k (Err (refused.NoElement (said s.operations name) (place_of s) q))) (known-same s g c t q name st)
    ∙ ap (λ (n : Option ℕ). option_map_or Ok (known_key (task s.before c t s.operations) g q name) (Err (refused.NoElement (said s.operations name) n q))) (number-same s g st)

said-same : (s : Sight) (g : Progress) (c t : ℕ) (k : Key) → StandsFor s g → said_key (task_of s) (named_in s) k ≡ said_key (task s.before c t s.operations) g k
said-same s g c t k st = ap (λ (ks : List Key). if count s.before k == 0 then said_made s.operations ks k else Id k.id) st.keys

-- ---- versions and contents

version-same :
    (s : Sight) (g : Progress) (c t : ℕ) (q : Kind) (name : Name) (k : Key) (version : ℕ)
    → StandsFor s g
    → current_version s q name k version ≡ named_version (task s.before c t s.operations) g q name k version
version-same s g c t q name k version st =
    ap (λ (n : ℕ). refuse_if (not (n == version)) (refused.WrongVersion n (said s.operations name) (place_of s) version q)) (st.versions k)
    ∙ ap (λ (n : Option ℕ). refuse_if (not (count g.elements k == version)) (refused.WrongVersion (count g.elements k) (said s.operations name) n version q)) (number-same s g st)

pub visible-same : (s : Sight) (g : Progress) (k : Key) → StandsFor s g → is_visible s k ≡ elements.is_visible g.elements k
visible-same s g k st = ap is_some (st.content k)

pub uses-seen : (s : Sight) (g : Progress) (a b : Key) → StandsFor s g → uses s a b ≡ elements.uses g.elements a b
uses-seen s g a b st = ap (λ (c : Option (Content ℕ)). lists_key (refs_in c) b && not (key_eq a b)) (st.content a)

-- ---- references

find-same : {X : Type 0} (p q : X → Bool) (xs : List X) → ((x : X) → p x ≡ q x) → find p xs ≡ find q xs
find-same {X} p q [] same = refl
find-same {X} p q (x ∷ xs) same =
    ap (λ (b : Bool). cond b (Some x) (find p xs)) (same x) ∙ ap (λ (o : Option X). cond (q x) (Some x) o) (find-same p q xs same)

missing-test : (s : Sight) (g : Progress) (c t : ℕ) (r : Named) → StandsFor s g → is_missing s r ≡ model.is_missing (task s.before c t s.operations) g r
missing-test s g c t r st =
    ap (λ (k : Option Key). not (option_map_or (is_visible s) k false)) (known-same s g c t r.kind r.name st)
    ∙ by (known_key (task s.before c t s.operations) g r.kind r.name)
  where
    by : (o : Option Key) → not (option_map_or (is_visible s) o false) ≡ not (option_map_or (elements.is_visible g.elements) o false)
    by None = refl
    by (Some k) = ap not (visible-same s g k st)

missing-same : (s : Sight) (g : Progress) (c t : ℕ) (r : Named) → StandsFor s g → missing s r ≡ model.missing (task s.before c t s.operations) g r
missing-same s g c t r st =
    ap (λ (k : Option Key). refused.Missing (said s.operations r.name) (place_of s) r.kind (option_map_or (λ x. (standing s x).versions) k 0)) (known-same s g c t r.kind r.name st)
    ∙ ap (λ (n : ℕ). refused.Missing (said s.operations r.name) (place_of s) r.kind n) (by (known_key (task s.before c t s.operations) g r.kind r.name))
    ∙ ap (λ (n : Option ℕ). refused.Missing (said s.operations r.name) n r.kind (option_map_or (count g.elements) (known_key (task s.before c t s.operations) g r.kind r.name) 0)) (number-same s g st)
  where
    by : (o : Option Key) → option_map_or (λ x. (standing s x).versions) o 0 ≡ option_map_or (count g.elements) o 0
    by None = refl
    by (Some k) = st.versions k

references-same : (s : Sight) (g : Progress) (c t : ℕ) (new : Content Name) → StandsFor s g → references s new ≡ references_visible (task s.before c t s.operations) g new
references-same s g c t new st =
    ap (λ (o : Option Named). option_map_or (λ r. Err (missing s r)) o (Ok tt))
    (find-same (is_missing s) (model.is_missing (task s.before c t s.operations) g) (names_listed new) (λ r. missing-test s g c t r st))
    ∙ by (find (model.is_missing (task s.before c t s.operations) g) (names_listed new))
  where
    by :
        (o : Option Named)
        → ◌≡◌ {A = Result (Unit {0}) Refusal} (option_map_or (λ r. Err (missing s r)) o (Ok tt)) (option_map_or (λ r. Err (model.missing (task s.before c t s.operations) g r)) o (Ok tt))
    by None = refl
    by (Some r) = ap (λ (x : Refusal). Err x) (missing-same s g c t r st)

-- ---- the least user

pub least-user-same : (s : Sight) (g : Progress) (k : Key) → StandsFor s g → least_user s k ≡ first_user g.elements k
least-user-same s g k st =
    sym (first-folded s.before g.elements k s.over.keys (λ a. uses s a k)
    (λ a. uses-seen s g a k st)
    (λ a unchanged. sym (st.content a) ∙ ap (content_by s a) (st.changed a unchanged)))

-- ---- one operation

-- what an operation that is passed comes to
abbrev pub stepped : Upload → Progress → Op → Step → Progress
stepped u g o step = if step.applies then applied u g step.key (content_of_op g.keys o) (tags_of_op o) else skipped g step.key

abbrev pub after : Upload → Progress → Op → Step → Result Progress Refusal
after u g o step = Ok (stepped u g o step)

next_of-first : (E : Elements) (q : Kind) → next_of (first_ids E) q ≡ next_id E q
next_of-first E kind.Node = refl
next_of-first E kind.Way = refl
next_of-first E kind.Relation = refl

pub next-same : (s : Sight) (g : Progress) (q : Kind) → StandsFor s g → next_key s q ≡ key q (next_id g.elements q)
next-same s g q st = ap (λ (ids : FirstIds). key q (next_of ids q)) st.next ∙ ap (key q) (next_of-first g.elements q)

create-agrees :
    (s : Sight) (g : Progress) (c t : ℕ) (placeholder : ℤ) (content : Content Name) (tags : List Tag)
    → StandsFor s g
    → operate (task s.before c t s.operations) g (Create placeholder content tags) ≡ (check_create s content >>= after (task s.before c t s.operations) g (Create placeholder content tags))
create-agrees s g c t placeholder content tags st =
    let u = task s.before c t s.operations in
    bind-both (references_visible u g content) (references s content) (λ (fine : Unit {0}). Ok (created u g content tags)) (λ (fine : Unit {0}). Ok (makes (next_key s (kind_of content)))) (after u g (Create placeholder content tags))
    (references-same s g c t content st)
    (λ fine. ap (λ (k : Key). Ok (applied u g k (Some (with_ids g.keys content)) tags)) (sym (next-same s g (kind_of content) st)))

modify-agrees :
    (s : Sight) (g : Progress) (c t : ℕ) (name : Name) (version : ℕ) (content : Content Name) (tags : List Tag)
    → StandsFor s g
    → operate (task s.before c t s.operations) g (Modify name version content tags) ≡ (check_modify s name version content >>= after (task s.before c t s.operations) g (Modify name version content tags))
modify-agrees s g c t name version content tags st =
    let u = task s.before c t s.operations in
    let o = Modify name version content tags in
    bind-both (named_key u g (kind_of content) name) (element s (kind_of content) name) (λ (k : Key). model.modify_known u g name k version content tags) (λ (k : Key). check_known s name k version content) (after u g o)
    (named-same s g c t (kind_of content) name st)
    (λ k. bind-both (named_version u g (kind_of content) name k version) (current_version s (kind_of content) name k version) (λ (fine : Unit {0}). model.modify_current u g k content tags) (λ (fine : Unit {0}). check_current s k content) (after u g o)
    (version-same s g c t (kind_of content) name k version st)
    (λ fine. bind-both (references_visible u g content) (references s content) (λ (fine : Unit {0}). Ok (modified u g k content tags)) (λ (fine : Unit {0}). Ok (makes k)) (after u g o)
    (references-same s g c t content st)
    (λ fine. refl)))

gone-same : (s : Sight) (g : Progress) (c t : ℕ) (q : Kind) (name : Name) (k : Key) → StandsFor s g → gone s q name k ≡ model.gone (task s.before c t s.operations) g q name k
gone-same s g c t q name k st =
    ap (λ (n : ℕ). refused.Gone (said s.operations name) (place_of s) q n) (st.versions k)
    ∙ ap (λ (n : Option ℕ). refused.Gone (said s.operations name) n q (count g.elements k)) (number-same s g st)

used-same : (s : Sight) (g : Progress) (c t : ℕ) (q : Kind) (name : Name) (user : Key) → StandsFor s g → used s q name user ≡ model.used (task s.before c t s.operations) g q name user
used-same s g c t q name user st =
    ap (λ (n : ℕ). refused.Used (said s.operations name) (place_of s) q (said_key (task_of s) (named_in s) user) user.kind n) (st.versions user)
    ∙ ap (λ (x : Said). refused.Used (said s.operations name) (place_of s) q x user.kind (count g.elements user)) (said-same s g c t user st)
    ∙ ap (λ (n : Option ℕ). refused.Used (said s.operations name) n q (said_key (task s.before c t s.operations) g user) user.kind (count g.elements user)) (number-same s g st)

left-agrees :
    (u : Upload) (g : Progress) (o : Op) (k : Key) (if_unused : Bool) (r x : Refusal)
    → r ≡ x
    → or_skipped g k if_unused x ≡ (or_left k if_unused r >>= after u g o)
left-agrees u g o k true r x same = refl
left-agrees u g o k false r x same = ap (λ (y : Refusal). Err y) (sym same)

users-agree :
    (s : Sight) (g : Progress) (c t : ℕ) (q : Kind) (name : Name) (version : ℕ) (if_unused : Bool) (k : Key)
    → StandsFor s g
    → delete_unless_used (task s.before c t s.operations) g q name k if_unused (first_user g.elements k) ≡ (check_unused s q name k if_unused >>= after (task s.before c t s.operations) g (Delete q name version if_unused))
users-agree s g c t q name version if_unused k st =
    ⊎_elim
    (λ none. ap (λ (x : Option Key). delete_unless_used u g q name k if_unused x) (no-first g.elements k (sym (st.users k) ∙ zero-of (standing s k).users none))
    ∙ ap (λ (b : Bool). (if b then Ok (makes k) else check_used s q name k if_unused) >>= after u g o) (sym none))
    (λ some. let a = some-first g.elements k (omega (arith, st.users k, nonzero-of (standing s k).users some)) in
    ap (λ (x : Option Key). delete_unless_used u g q name k if_unused x) a.1
    ∙ by if_unused a.0 a.1
    ∙ ap (λ (b : Bool). (if b then Ok (makes k) else check_used s q name k if_unused) >>= after u g o) (sym some))
    (cases_Bool ((standing s k).users == 0))
  where
    u : Upload
    u = task s.before c t s.operations

    o : Op
    o = Delete q name version if_unused

    zero-of : (n : ℕ) → (n == 0) ≡ true → n ≡ 0
    zero-of n h = grind (arith, nat_tests)

    nonzero-of : (n : ℕ) → (n == 0) ≡ false → 0 < n
    nonzero-of n h = grind (arith, nat_tests)

    by : (b : Bool) (a : Key) → first_user g.elements k ≡ Some a → or_skipped g k b (model.used u g q name a) ≡ (check_used s q name k b >>= after u g o)
    by true a first = refl
    by false a first =
        ap (λ (x : Refusal). Err x) (sym (used-same s g c t q name a st))
        ∙ ap (λ (x : Option Key). refuse_used s q name k x >>= after u g o) (sym (least-user-same s g k st ∙ first))

delete-agrees :
    (s : Sight) (g : Progress) (c t : ℕ) (q : Kind) (name : Name) (version : ℕ) (if_unused : Bool)
    → StandsFor s g
    → operate (task s.before c t s.operations) g (Delete q name version if_unused) ≡ (check_delete s q name version if_unused >>= after (task s.before c t s.operations) g (Delete q name version if_unused))
delete-agrees s g c t q name version if_unused st =
    bind-both (named_key u g q name) (element s q name) (delete_known u g q name version if_unused) (check_visible s q name version if_unused) (after u g o)
    (named-same s g c t q name st)
    (λ k. ap (λ (b : Bool). delete_visible u g q name version if_unused k b) (sym (visible-same s g k st)) ∙ by k (is_visible s k))
  where
    u : Upload
    u = task s.before c t s.operations

    o : Op
    o = Delete q name version if_unused

    by :
        (k : Key) (seen : Bool)
        → delete_visible u g q name version if_unused k seen
        ≡ ((if seen then (current_version s q name k version >>= λ fine. check_unused s q name k if_unused) else or_left k if_unused (gone s q name k)) >>= after u g o)
    by k false = left-agrees u g o k if_unused (gone s q name k) (model.gone u g q name k) (gone-same s g c t q name k st)
    by k true =
        bind-both (named_version u g q name k version) (current_version s q name k version) (λ (fine : Unit {0}). delete_unless_used u g q name k if_unused (first_user g.elements k)) (λ (fine : Unit {0}). check_unused s q name k if_unused) (after u g o)
        (version-same s g c t q name k version st)
        (λ fine. users-agree s g c t q name version if_unused k st)

pub check-agrees :
    (s : Sight) (g : Progress) (c t : ℕ) (o : Op)
    → StandsFor s g
    → operate (task s.before c t s.operations) g o ≡ (check s o >>= after (task s.before c t s.operations) g o)
check-agrees s g c t (Create placeholder content tags) st = create-agrees s g c t placeholder content tags st
check-agrees s g c t (Modify name version content tags) st = modify-agrees s g c t name version content tags st
check-agrees s g c t (Delete q name version if_unused) st = delete-agrees s g c t q name version if_unused st
