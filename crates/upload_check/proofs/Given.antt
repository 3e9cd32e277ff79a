-- The element of an operation that is passed.
use Rattle.std.proofs.Common.{◌≡◌, ℕ, ◌<◌, Bool, true, false, List, length, Some, None, Ok, Err, refl, sym, ap, ◌∙◌, ⊎_elim, subst, arith}
use Rattle.std.specs.Prelude.{Option, Result, ℤ, slice_get, option_and_then, ◌==◌, if◌then◌else◌}
use Rattle.std.specs.Option.{option_map_or}
use Rattle.std.proofs.lemmas.Bool.{cases_Bool}
use Rattle.std.proofs.lemmas.Bool.Decides.{nat_tests}
use Rattle.osm_base.specs.Key.{kind_eq}
use Rattle.osm_base.specs.Outcome.{◌>>=◌}
use Rattle.osm_base.specs.declared.keys.Kind.{Kind}
use Rattle.osm_base.specs.declared.keys.Key.{Key}
use Rattle.osm_base.proofs.KeyOrder.{kind_eq-same}
use Rattle.osm_element.specs.Elements.{key, next_id, count}
use Rattle.osm_element.specs.Tags.{Tag}
use Rattle.osm_element.specs.declared.contents.Content.{Content}
use Rattle.osm_element.specs.declared.elements.Elements.{Elements}
use Rattle.osm_element.proofs.Used as used
use Rattle.osm_change.specs.Change.{kind_of}
use Rattle.osm_change.specs.Keys.{id_of, key_of}
use Rattle.osm_change.specs.Names.{said}
use Rattle.osm_change.specs.declared.operations.Name.{Name}
use Rattle.osm_change.specs.declared.operations.Referent.TheVariants.{Old, New}
use Rattle.osm_change.specs.declared.operations.Op.{Op}
use Rattle.osm_change.specs.declared.operations.Op.TheVariants.{Create, Modify, Delete}
use Rattle.osm_change.specs.declared.refusals.Refusal.{Refusal}
use Rattle.osm_change.specs.declared.refusals.Refusal.TheVariants as refused
use Rattle.osm_model.specs.Names.{of_kind}
use Rattle.osm_model.specs.declared.uploads.Progress.{Progress}
use Rattle.upload_check.specs.Overlay.{Sight, standing, is_visible, StandsFor}
use Rattle.upload_check.specs.Checks.{place_of, known, element, current_version, references, gone, least_user, makes, leaves, next_key, check_current, check_known, or_left, refuse_used, check_used, check_unused, check_visible, check}
use Rattle.upload_check.specs.declared.checks.Step.{Step}

-- where two steps in a row are passed, each is
pub bind-Ok :
    {A B : Type 0} (r : Result A Refusal) (f : A → Result B Refusal) (b : B)
    → (r >>= f) ≡ Ok b
    → (a : A) × (r ≡ Ok a) × (f a ≡ Ok b)
bind-Ok (Ok a) f b e = (a, refl, e)
bind-Ok (Err x) f b e = cc

Ok-step : (a b : Step) → ◌≡◌ {A = Result Step Refusal} (Ok a) (Ok b) → a ≡ b
Ok-step a b e = cc

key-step : (a b : Step) → ◌≡◌ {A = Result Step Refusal} (Ok a) (Ok b) → a.key ≡ b.key
key-step a b e = ap (λ (x : Step). x.key) (Ok-step a b e)

none-some : (k : Key) → ◌≡◌ {A = Option Key} None (Some k) → ⊥
none-some k e = cc

unsome : (a b : Key) → ◌≡◌ {A = Option Key} (Some a) (Some b) → a ≡ b
unsome a b e = cc

-- an id that was given
pub record IsGiven (E : Elements) (k : Key) : Type 0 where
  pub counted : 0 < k.id
  pub below : k.id < next_id E k.kind

-- -- an element that is named

named-known : (o : Option Key) (r : Refusal) (k : Key) → option_map_or Ok o (Err r) ≡ Ok k → o ≡ Some k
named-known None r k e = cc
named-known (Some x) r k e = let same : x ≡ k = cc in ap (λ (y : Key). Some y) same

pub element-known : (s : Sight) (q : Kind) (name : Name) (k : Key) → element s q name ≡ Ok k → known s q name ≡ Some k
element-known s q name k e = named-known (known s q name) (refused.NoElement (said s.operations name) (place_of s) q) k e

pub known-is : (s : Sight) (q : Kind) (name : Name) (k : Key) → known s q name ≡ Some k → k ≡ key q (id_of s.over.keys name)
known-is s q (Old id) k e =
    ⊎_elim
    (λ t. absurd (none-some k (sym (ap (λ (b : Bool). if b then None else Some (key q id)) t) ∙ e)))
    (λ f. sym (unsome (key q id) k (sym (ap (λ (b : Bool). if b then None else Some (key q id)) f) ∙ e)))
    (cases_Bool (count s.before (key q id) == 0))
known-is s q (New place) k e = by (slice_get s.over.keys place) e
  where
    whole : (x : Key) → x.kind ≡ q → x ≡ key q x.id
    whole x same = ap (λ (p : Kind). key p x.id) same

    by : (o : Option Key) → option_and_then (of_kind q) o ≡ Some k → k ≡ key q (option_map_or (λ x. x.id) o 0)
    by None e = absurd (none-some k e)
    by (Some x) e = ⊎_elim
        (λ t. sym (unsome x k (sym (ap (λ (b : Bool). if b then Some x else None) t) ∙ e)) ∙ whole x (kind_eq-same x.kind q t))
        (λ f. absurd (none-some k (sym (ap (λ (b : Bool). if b then Some x else None) f) ∙ e)))
        (cases_Bool (kind_eq x.kind q))

known-given : (s : Sight) (g : Progress) (q : Kind) (name : Name) (k : Key) → StandsFor s g → known s q name ≡ Some k → IsGiven g.elements k
known-given s g q (Old id) k st e =
    ⊎_elim
    (λ t. absurd (none-some k (sym (ap (λ (b : Bool). if b then None else Some (key q id)) t) ∙ e)))
    (λ f. subst (λ (x : Key). IsGiven g.elements x) (unsome (key q id) k (sym (ap (λ (b : Bool). if b then None else Some (key q id)) f) ∙ e)) (old f))
    (cases_Bool (count s.before (key q id) == 0))
  where
    contrary : (n : ℕ) → n ≡ 0 → (n == 0) ≡ false → ⊥
    contrary n e f = grind (arith, nat_tests)

    old : (count s.before (key q id) == 0) ≡ false → IsGiven g.elements (key q id)
    old f = ⊎_elim
        (λ none. absurd (contrary (count s.before (key q id)) (ap length none) f))
        (λ there. record { counted = there.0; below = omega (arith, there.1, st.grown q) })
        (used.known s.before (key q id))
known-given s g q (New place) k st e = by (slice_get s.over.keys place) refl e
  where
    by : (o : Option Key) → slice_get s.over.keys place ≡ o → option_and_then (of_kind q) o ≡ Some k → IsGiven g.elements k
    by None at e = absurd (none-some k e)
    by (Some x) at e = ⊎_elim
        (λ t. let there = st.given place x at in
        subst (λ (y : Key). IsGiven g.elements y)
        (unsome x k (sym (ap (λ (b : Bool). if b then Some x else None) t) ∙ e))
        (record { counted = there.0; below = there.1 }))
        (λ f. absurd (none-some k (sym (ap (λ (b : Bool). if b then Some x else None) f) ∙ e)))
        (cases_Bool (kind_eq x.kind q))

-- -- the element of each operation

-- it has an id that is given, or is the next of its kind and gets a version
pub data IsOn (s : Sight) (o : Op) (step : Step) : Type 0 where
  creates : (placeholder : ℤ) (content : Content Name) (tags : List Tag) → o ≡ Create placeholder content tags → step ≡ makes (next_key s (kind_of content)) → IsOn s o step
  names : (q : Kind) (name : Name) → known s q name ≡ Some step.key → step.key ≡ key_of s.over.keys s.over.next o → ((placeholder : ℤ) (content : Content Name) (tags : List Tag) → o ≡ Create placeholder content tags → ⊥) → IsOn s o step

left-key : (k : Key) (if_unused : Bool) (r : Refusal) (step : Step) → or_left k if_unused r ≡ Ok step → k ≡ step.key
left-key k true r step e = key-step (leaves k) step e
left-key k false r step e = cc

unused-key : (s : Sight) (q : Kind) (name : Name) (k : Key) (if_unused : Bool) (step : Step) → check_unused s q name k if_unused ≡ Ok step → k ≡ step.key
unused-key s q name k if_unused step e = by ((standing s k).users == 0) e
  where
    refused-key : (o : Option Key) → refuse_used s q name k o ≡ Ok step → k ≡ step.key
    refused-key None e = key-step (makes k) step e
    refused-key (Some user) e = cc

    used-key : (b : Bool) → check_used s q name k b ≡ Ok step → k ≡ step.key
    used-key true e = key-step (leaves k) step e
    used-key false e = refused-key (least_user s k) e

    by : (b : Bool) → (if b then Ok (makes k) else check_used s q name k if_unused) ≡ Ok step → k ≡ step.key
    by true e = key-step (makes k) step e
    by false e = used-key if_unused e

visible-key : (s : Sight) (q : Kind) (name : Name) (version : ℕ) (if_unused : Bool) (k : Key) (step : Step) → check_visible s q name version if_unused k ≡ Ok step → k ≡ step.key
visible-key s q name version if_unused k step e = by (is_visible s k) e
  where
    by : (b : Bool) → (if b then (current_version s q name k version >>= λ fine. check_unused s q name k if_unused) else or_left k if_unused (gone s q name k)) ≡ Ok step → k ≡ step.key
    by true e =
        let passed = bind-Ok (current_version s q name k version) (λ (fine : Unit {0}). check_unused s q name k if_unused) step e in
        unused-key s q name k if_unused step passed.2
    by false e = left-key k if_unused (gone s q name k) step e

pub check-on : (s : Sight) (o : Op) (step : Step) → check s o ≡ Ok step → IsOn s o step
check-on s (Create placeholder content tags) step e =
    let passed = bind-Ok (references s content) (λ (fine : Unit {0}). Ok (makes (next_key s (kind_of content)))) step e in
    creates placeholder content tags refl (sym (Ok-step (makes (next_key s (kind_of content))) step passed.2))
check-on s (Modify name version content tags) step e =
    let q = kind_of content in
    let named = bind-Ok (element s q name) (λ (k : Key). check_known s name k version content) step e in
    let current = bind-Ok (current_version s q name named.0 version) (λ (fine : Unit {0}). check_current s named.0 content) step named.2 in
    let passed = bind-Ok (references s content) (λ (fine : Unit {0}). Ok (makes named.0)) step current.2 in
    let same : named.0 ≡ step.key = key-step (makes named.0) step passed.2 in
    let known_is = element-known s q name named.0 named.1 in
    names q name (known_is ∙ ap (λ (k : Key). Some k) same) (sym same ∙ known-is s q name named.0 known_is) (λ p c ts e. cc)
check-on s (Delete q name version if_unused) step e =
    let named = bind-Ok (element s q name) (check_visible s q name version if_unused) step e in
    let same : named.0 ≡ step.key = visible-key s q name version if_unused named.0 step named.2 in
    let known_is = element-known s q name named.0 named.1 in
    names q name (known_is ∙ ap (λ (k : Key). Some k) same) (sym same ∙ known-is s q name named.0 known_is) (λ p c ts e. cc)

pub on-given : (s : Sight) (g : Progress) (q : Kind) (name : Name) (k : Key) → StandsFor s g → known s q name ≡ Some k → IsGiven g.elements k
on-given s g q name k st e = known-given s g q name k st e

-- the key is that by which the elements of operations are counted
pub on-key : (s : Sight) (o : Op) (step : Step) → IsOn s o step → step.key ≡ key_of s.over.keys s.over.next o
on-key s o step (creates placeholder content tags is step_is) =
    ap (λ (x : Step). x.key) step_is ∙ ap (key_of s.over.keys s.over.next) (sym is)
on-key s o step (names q name known_is key_is other) = key_is
