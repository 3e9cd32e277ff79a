-- What an accepted operation does, in the words of what was laid by for it.
use Rattle.std.proofs.Common.{◌≡◌, ℕ, ◌+◌, ◌<◌, ◌≤◌, Bool, true, false, ◌&&◌, List, [], ◌∷◌, ◌++◌, length, Some, None, Ok, Err, refl, sym, ap, ◌∙◌, ⊎_elim, subst, arith}
use Rattle.std.specs.Prelude.{Option, Result, slice_get, option_and_then, ◌==◌, if◌then◌else◌}
use Rattle.std.specs.Option.{option_map_or}
use Rattle.std.proofs.lemmas.Bool.Decides.{nat_tests}
use Rattle.std.proofs.lemmas.Bool.{cases_Bool, false≢true}
use Rattle.osm_base.specs.Key.{kind_eq}
use Rattle.osm_base.specs.Outcome.{◌>>=◌}
use Rattle.osm_base.specs.declared.keys.Kind.{Kind}
use Rattle.osm_base.specs.declared.keys.Kind.TheVariants as kind
use Rattle.osm_base.specs.declared.keys.Key.{Key}
use Rattle.osm_base.proofs.KeyOrder.{kind_eq-same}
use Rattle.osm_base.proofs.Pushed.{found_in_push}
use Rattle.osm_element.specs.Elements.{key, next_id, count, is_visible, users, first_user, push_version}
use Rattle.osm_element.specs.declared.elements.Elements.{Elements}
use Rattle.osm_element.specs.Version.{Version}
use Rattle.osm_element.proofs.Used.{known}
use Rattle.osm_element.proofs.Later.{next-push, later-push}
use Rattle.osm_change.specs.Change.{kind_of}
use Rattle.osm_change.specs.Keys.{next_of, one_more, ids_after, id_of, key_of}
use Rattle.osm_change.specs.Names.{said}
use Rattle.osm_change.specs.declared.operations.FirstIds.{FirstIds}
use Rattle.osm_change.specs.declared.operations.Name.{Name}
use Rattle.osm_change.specs.declared.operations.Referent.TheVariants.{Old, New}
use Rattle.osm_change.specs.declared.operations.Op.{Op}
use Rattle.osm_change.specs.declared.operations.Op.TheVariants.{Create, Modify, Delete}
use Rattle.osm_change.specs.declared.refusals.Refusal.{Refusal}
use Rattle.osm_change.specs.declared.refusals.Refusal.TheVariants as refused
use Rattle.osm_model.specs.declared.uploads.Progress.{Progress}
use Rattle.osm_model.specs.Upload.{Upload}
use Rattle.osm_model.specs.Names.{of_kind, known_key, with_ids}
use Rattle.osm_model.specs.Operation.{number, named_key, named_version, references_visible, made_version, created, applied, skipped, modified, modify_known, modify_current, or_skipped, delete_unless_used, delete_visible, delete_known, used, gone, operate}
use Rattle.indexed_map.specs.Indexed.{is_unused}
use Rattle.osm_world.specs.Beds.{first_ids, content_of_op, tags_of_op, makes}

-- where two steps in a row are passed, each is
pub bind-Ok :
    {A B : Type 0} (r : Result A Refusal) (f : A → Result B Refusal) (b : B)
    → (r >>= f) ≡ Ok b
    → (a : A) × (r ≡ Ok a) × (f a ≡ Ok b)
bind-Ok (Ok a) f b e = (a, refl, e)
bind-Ok (Err x) f b e = cc

-- an id that was given
pub record IsGiven (E : Elements) (k : Key) : Type 0 where
  pub counted : 0 < k.id
  pub below : k.id < next_id E k.kind

-- the elements of the operations so far have ids that are given, and no id was taken back
pub record IsUnder (u : Upload) (g : Progress) : Type 0 where
  pub grown : (kind : Kind) → next_id u.before kind ≤ next_id g.elements kind
  pub given : (place : ℕ) (k : Key) → slice_get g.keys place ≡ Some k → IsGiven g.elements k

abbrev pub stepped : Upload → Progress → Key → Op → Progress
stepped u g k o = if makes g.elements k o then applied u g k (content_of_op g.keys o) (tags_of_op o) else skipped g k

pub Ok-same : (a b : Progress) → ◌≡◌ {A = Result Progress Refusal} (Ok a) (Ok b) → a ≡ b
Ok-same a b e = cc

none-some : (k : Key) → ◌≡◌ {A = Option Key} None (Some k) → ⊥
none-some k e = cc

unsome : (a b : Key) → ◌≡◌ {A = Option Key} (Some a) (Some b) → a ≡ b
unsome a b e = cc

-- -- the key

named-known : (o : Option Key) (r : Refusal) (k : Key) → option_map_or Ok o (Err r) ≡ Ok k → o ≡ Some k
named-known None r k e = cc
named-known (Some x) r k e = let same : x ≡ k = cc in ap (λ (y : Key). Some y) same

known-is : (u : Upload) (g : Progress) (kind : Kind) (name : Name) (k : Key) → known_key u g kind name ≡ Some k → k ≡ key kind (id_of g.keys name)
known-is u g kind (Old id) k e =
    ⊎_elim
    (λ t. absurd (none-some k (sym (ap (λ (b : Bool). if b then None else Some (key kind id)) t) ∙ e)))
    (λ f. sym (unsome (key kind id) k (sym (ap (λ (b : Bool). if b then None else Some (key kind id)) f) ∙ e)))
    (cases_Bool (count u.before (key kind id) == 0))
known-is u g kind (New place) k e = by (slice_get g.keys place) e
  where
    whole : (x : Key) → x.kind ≡ kind → x ≡ key kind x.id
    whole x same = ap (λ (q : Kind). key q x.id) same

    by : (o : Option Key) → option_and_then (of_kind kind) o ≡ Some k → k ≡ key kind (option_map_or (λ x. x.id) o 0)
    by None e = absurd (none-some k e)
    by (Some x) e = ⊎_elim
        (λ t. sym (unsome x k (sym (ap (λ (b : Bool). if b then Some x else None) t) ∙ e)) ∙ whole x (kind_eq-same x.kind kind t))
        (λ f. absurd (none-some k (sym (ap (λ (b : Bool). if b then Some x else None) f) ∙ e)))
        (cases_Bool (kind_eq x.kind kind))

-- an element that is known has an id that is given
given-of : (u : Upload) (g : Progress) (kind : Kind) (name : Name) (k : Key) → IsUnder u g → known_key u g kind name ≡ Some k → IsGiven g.elements k
given-of u g kind (Old id) k on e =
    ⊎_elim
    (λ t. absurd (none-some k (sym (ap (λ (b : Bool). if b then None else Some (key kind id)) t) ∙ e)))
    (λ f. subst (λ (x : Key). IsGiven g.elements x) (unsome (key kind id) k (sym (ap (λ (b : Bool). if b then None else Some (key kind id)) f) ∙ e)) (old f))
    (cases_Bool (count u.before (key kind id) == 0))
  where
    contrary : (n : ℕ) → n ≡ 0 → (n == 0) ≡ false → ⊥
    contrary n e f = grind (arith, nat_tests)

    old : (count u.before (key kind id) == 0) ≡ false → IsGiven g.elements (key kind id)
    old f = ⊎_elim
        (λ none. absurd (contrary (count u.before (key kind id)) (ap length none) f))
        (λ there. record { counted = there.0; below = omega (arith, there.1, on.grown kind) })
        (known u.before (key kind id))
given-of u g kind (New place) k on e = by (slice_get g.keys place) refl e
  where
    by : (o : Option Key) → slice_get g.keys place ≡ o → option_and_then (of_kind kind) o ≡ Some k → IsGiven g.elements k
    by None at e = absurd (none-some k e)
    by (Some x) at e = ⊎_elim
        (λ t. subst (λ (y : Key). IsGiven g.elements y)
        (unsome x k (sym (ap (λ (b : Bool). if b then Some x else None) t) ∙ e))
        (on.given place x at))
        (λ f. absurd (none-some k (sym (ap (λ (b : Bool). if b then Some x else None) f) ∙ e)))
        (cases_Bool (kind_eq x.kind kind))

-- -- the step

skip-is : (g : Progress) (k : Key) (b : Bool) (r : Refusal) (h : Progress) → or_skipped g k b r ≡ Ok h → h ≡ skipped g k
skip-is g k true r h e = sym (Ok-same (skipped g k) h e)
skip-is g k false r h e = cc

unused-step :
    (u : Upload) (g h : Progress) (kind : Kind) (name : Name) (k : Key) (if_unused : Bool) (us : List Key)
    → users g.elements k ≡ us
    → delete_unless_used u g kind name k if_unused (slice_get us 0) ≡ Ok h
    → h ≡ (if is_unused g.elements k then applied u g k None [] else skipped g k)
unused-step u g h kind name k if_unused [] is e =
    sym (Ok-same (applied u g k None []) h e) ∙ ap (λ (us : List Key). if length us == 0 then applied u g k None [] else skipped g k) (sym is)
unused-step u g h kind name k if_unused (x ∷ xs) is e =
    let some : (length (x ∷ xs) == 0) ≡ false = grind (arith, nat_tests) in
    skip-is g k if_unused (used u g kind name x) h e
    ∙ ap (λ (b : Bool). if b then applied u g k None [] else skipped g k) (sym some)
    ∙ ap (λ (us : List Key). if length us == 0 then applied u g k None [] else skipped g k) (sym is)

visible-step :
    (u : Upload) (g h : Progress) (kind : Kind) (name : Name) (version : ℕ) (if_unused : Bool) (k : Key) (seen : Bool)
    → is_visible g.elements k ≡ seen
    → delete_visible u g kind name version if_unused k seen ≡ Ok h
    → h ≡ (if is_visible g.elements k && is_unused g.elements k then applied u g k None [] else skipped g k)
visible-step u g h kind name version if_unused k false is e =
    skip-is g k if_unused (gone u g kind name k) h e
    ∙ ap (λ (b : Bool). if b && is_unused g.elements k then applied u g k None [] else skipped g k) (sym is)
visible-step u g h kind name version if_unused k true is e =
    let fine = bind-Ok (named_version u g kind name k version) (λ (fine : Unit {0}). delete_unless_used u g kind name k if_unused (first_user g.elements k)) h e in
    unused-step u g h kind name k if_unused (users g.elements k) refl fine.2
    ∙ ap (λ (b : Bool). if b && is_unused g.elements k then applied u g k None [] else skipped g k) (sym is)

next_of-first : (E : Elements) (q : Kind) → next_of (first_ids E) q ≡ next_id E q
next_of-first E kind.Node = refl
next_of-first E kind.Way = refl
next_of-first E kind.Relation = refl

pub step-is :
    (u : Upload) (g : Progress) (o : Op) (h : Progress)
    → operate u g o ≡ Ok h
    → h ≡ stepped u g (key_of g.keys (first_ids g.elements) o) o
step-is u g (Create placeholder content tags) h e =
    let passed = bind-Ok (references_visible u g content) (λ (fine : Unit {0}). Ok (created u g content tags)) h e in
    sym (Ok-same (created u g content tags) h passed.2)
    ∙ ap (λ (n : ℕ). applied u g (key (kind_of content) n) (Some (with_ids g.keys content)) tags) (sym (next_of-first g.elements (kind_of content)))
step-is u g (Modify name version content tags) h e =
    let named = bind-Ok (named_key u g (kind_of content) name) (λ (k : Key). modify_known u g name k version content tags) h e in
    let current = bind-Ok (named_version u g (kind_of content) name named.0 version) (λ (fine : Unit {0}). modify_current u g named.0 content tags) h named.2 in
    let passed = bind-Ok (references_visible u g content) (λ (fine : Unit {0}). Ok (modified u g named.0 content tags)) h current.2 in
    let known = named-known (known_key u g (kind_of content) name) (refused.NoElement (said u.operations name) (number g) (kind_of content)) named.0 named.1 in
    sym (Ok-same (modified u g named.0 content tags) h passed.2)
    ∙ ap (λ (k : Key). applied u g k (Some (with_ids g.keys content)) tags) (known-is u g (kind_of content) name named.0 known)
step-is u g (Delete kind name version if_unused) h e =
    let named = bind-Ok (named_key u g kind name) (λ (k : Key). delete_known u g kind name version if_unused k) h e in
    let known = named-known (known_key u g kind name) (refused.NoElement (said u.operations name) (number g) kind) named.0 named.1 in
    visible-step u g h kind name version if_unused named.0 (is_visible g.elements named.0) refl named.2
    ∙ ap (λ (k : Key). stepped u g k (Delete kind name version if_unused)) (known-is u g kind name named.0 known)

-- -- where the element stands

-- it has an id that is given, or is the next of its kind
pub record IsReached (E : Elements) (k : Key) : Type 0 where
  pub counted : 0 < k.id
  pub follows : k.id ≤ next_id E k.kind

reached-given : (E : Elements) (k : Key) → IsGiven E k → IsReached E k
reached-given E k given = record { counted = given.counted; follows = omega (arith, given.below) }

pub reached :
    (u : Upload) (g : Progress) (o : Op) (h : Progress)
    → IsUnder u g
    → operate u g o ≡ Ok h
    → IsReached g.elements (key_of g.keys (first_ids g.elements) o)
reached u g (Create placeholder content tags) h on e =
    let is = next_of-first g.elements (kind_of content) in
    record { counted = omega (arith, is); follows = omega (arith, is) }
reached u g (Modify name version content tags) h on e =
    let named = bind-Ok (named_key u g (kind_of content) name) (λ (k : Key). modify_known u g name k version content tags) h e in
    let known = named-known (known_key u g (kind_of content) name) (refused.NoElement (said u.operations name) (number g) (kind_of content)) named.0 named.1 in
    subst (λ (k : Key). IsReached g.elements k) (known-is u g (kind_of content) name named.0 known) (reached-given g.elements named.0 (given-of u g (kind_of content) name named.0 on known))
reached u g (Delete kind name version if_unused) h on e =
    let named = bind-Ok (named_key u g kind name) (λ (k : Key). delete_known u g kind name version if_unused k) h e in
    let known = named-known (known_key u g kind name) (refused.NoElement (said u.operations name) (number g) kind) named.0 named.1 in
    subst (λ (k : Key). IsReached g.elements k) (known-is u g kind name named.0 known) (reached-given g.elements named.0 (given-of u g kind name named.0 on known))

-- -- the ids that come next

ids-same : (a b : FirstIds) → a.node ≡ b.node → a.way ≡ b.way → a.relation ≡ b.relation → a ≡ b
ids-same a b n w r =
    ap (λ (m : ℕ). record { node = m; way = a.way; relation = a.relation }) n
    ∙ ap (λ (m : ℕ). record { node = b.node; way = m; relation = a.relation }) w
    ∙ ap (λ (m : ℕ). record { node = b.node; way = b.way; relation = m }) r

-- the next of a kind is made
made-next : (E : Elements) (q : Kind) (v : Version) → first_ids (push_version E (key q (next_id E q)) v) ≡ one_more (first_ids E) q
made-next E q v = each q
  where
    test : (n : ℕ) → (n == n) ≡ true
    test n = grind (arith, nat_tests)

    each : (q : Kind) → first_ids (push_version E (key q (next_id E q)) v) ≡ one_more (first_ids E) q
    each kind.Node = let k = key kind.Node (next_id E kind.Node) in ids-same (first_ids (push_version E k v)) (one_more (first_ids E) kind.Node)
        (next-push E k v kind.Node (omega arith) ∙ ap (λ (b : Bool). if b then next_id E kind.Node + 1 else next_id E kind.Node) (test (next_id E kind.Node)))
        (next-push E k v kind.Way (omega arith))
        (next-push E k v kind.Relation (omega arith))
    each kind.Way = let k = key kind.Way (next_id E kind.Way) in ids-same (first_ids (push_version E k v)) (one_more (first_ids E) kind.Way)
        (next-push E k v kind.Node (omega arith))
        (next-push E k v kind.Way (omega arith) ∙ ap (λ (b : Bool). if b then next_id E kind.Way + 1 else next_id E kind.Way) (test (next_id E kind.Way)))
        (next-push E k v kind.Relation (omega arith))
    each kind.Relation = let k = key kind.Relation (next_id E kind.Relation) in ids-same (first_ids (push_version E k v)) (one_more (first_ids E) kind.Relation)
        (next-push E k v kind.Node (omega arith))
        (next-push E k v kind.Way (omega arith))
        (next-push E k v kind.Relation (omega arith) ∙ ap (λ (b : Bool). if b then next_id E kind.Relation + 1 else next_id E kind.Relation) (test (next_id E kind.Relation)))

-- an element that is there gets a version
made-again : (E : Elements) (k : Key) (v : Version) → IsGiven E k → first_ids (push_version E k v) ≡ first_ids E
made-again E k v given = ids-same (first_ids (push_version E k v)) (first_ids E) (same kind.Node) (same kind.Way) (same kind.Relation)
  where
    other : (a n : ℕ) → a < n → (a == n) ≡ false
    other a n less = grind (arith, nat_tests)

    still : (p q : Bool) (n m : ℕ) → q ≡ false → m ≡ (if p then (if q then n + 1 else n) else n) → m ≡ n
    still true true n m f e = cc
    still true false n m f e = e
    still false q n m f e = e

    same : (q : Kind) → next_id (push_version E k v) q ≡ next_id E q
    same q = still (kind_eq q k.kind) (k.id == next_id E k.kind) (next_id E q) (next_id (push_version E k v) q) (other k.id (next_id E k.kind) given.below) (next-push E k v q given.counted)

ids-stepped :
    (u : Upload) (g : Progress) (k : Key) (o : Op)
    → IsGiven g.elements k
    → first_ids (stepped u g k o).elements ≡ first_ids g.elements
ids-stepped u g k o given = along (makes g.elements k o)
  where
    along : (b : Bool) → first_ids (if b then applied u g k (content_of_op g.keys o) (tags_of_op o) else skipped g k).elements ≡ first_ids g.elements
    along true = made-again g.elements k (made_version u (content_of_op g.keys o) (tags_of_op o)) given
    along false = refl

pub ids-operate :
    (u : Upload) (g : Progress) (o : Op) (h : Progress)
    → IsUnder u g
    → operate u g o ≡ Ok h
    → first_ids h.elements ≡ ids_after (first_ids g.elements) o
ids-operate u g (Create placeholder content tags) h on e =
    let passed = bind-Ok (references_visible u g content) (λ (fine : Unit {0}). Ok (created u g content tags)) h e in
    ap (λ (p : Progress). first_ids p.elements) (sym (Ok-same (created u g content tags) h passed.2))
    ∙ made-next g.elements (kind_of content) (made_version u (Some (with_ids g.keys content)) tags)
ids-operate u g (Modify name version content tags) h on e =
    let named = bind-Ok (named_key u g (kind_of content) name) (λ (k : Key). modify_known u g name k version content tags) h e in
    let known = named-known (known_key u g (kind_of content) name) (refused.NoElement (said u.operations name) (number g) (kind_of content)) named.0 named.1 in
    let given = subst (λ (k : Key). IsGiven g.elements k) (known-is u g (kind_of content) name named.0 known) (given-of u g (kind_of content) name named.0 on known) in
    ap (λ (p : Progress). first_ids p.elements) (step-is u g (Modify name version content tags) h e)
    ∙ ids-stepped u g (key (kind_of content) (id_of g.keys name)) (Modify name version content tags) given
ids-operate u g (Delete kind name version if_unused) h on e =
    let named = bind-Ok (named_key u g kind name) (λ (k : Key). delete_known u g kind name version if_unused k) h e in
    let known = named-known (known_key u g kind name) (refused.NoElement (said u.operations name) (number g) kind) named.0 named.1 in
    let given = subst (λ (k : Key). IsGiven g.elements k) (known-is u g kind name named.0 known) (given-of u g kind name named.0 on known) in
    ap (λ (p : Progress). first_ids p.elements) (step-is u g (Delete kind name version if_unused) h e)
    ∙ ids-stepped u g (key kind (id_of g.keys name)) (Delete kind name version if_unused) given

-- -- the next operation

given-more :
    (E F : Elements) (ks : List Key) (k : Key)
    → ((kind : Kind) → next_id E kind ≤ next_id F kind)
    → ((place : ℕ) (x : Key) → slice_get ks place ≡ Some x → IsGiven E x)
    → IsGiven F k
    → (place : ℕ) (x : Key)
    → slice_get (ks ++ k ∷ []) place ≡ Some x
    → IsGiven F x
given-more E F ks k grown given this place x found =
    ⊎_elim
    (λ old. let was = given place x old.0 in record { counted = was.counted; below = omega (arith, was.below, grown x.kind) })
    (λ new. subst (λ (y : Key). IsGiven F y) (sym new.1) this)
    (found_in_push ks k place x found)

given-push : (E : Elements) (k : Key) (v : Version) → IsReached E k → IsGiven (push_version E k v) k
given-push E k v at = record {
  counted = at.counted;
  below = larger (k.id == next_id E k.kind) k.id (next_id E k.kind) (next_id (push_version E k v) k.kind) refl
      (next-push E k v k.kind at.counted
      ∙ ap (λ (b : Bool). if b then (if k.id == next_id E k.kind then next_id E k.kind + 1 else next_id E k.kind) else next_id E k.kind) (same k.kind))
      at.follows;
}
  where
    same : (q : Kind) → kind_eq q q ≡ true
    same q = grind (arith, nat_tests)

    larger : (q : Bool) (id n m : ℕ) → q ≡ (id == n) → m ≡ (if q then n + 1 else n) → id ≤ n → id < m
    larger true id n m test e reached = omega (arith, e, reached)
    larger false id n m test e reached = grind (arith, nat_tests)

under-applied : (u : Upload) (g : Progress) (k : Key) (o : Op) → IsUnder u g → IsReached g.elements k → IsUnder u (applied u g k (content_of_op g.keys o) (tags_of_op o))
under-applied u g k o on at =
    let v : Version = made_version u (content_of_op g.keys o) (tags_of_op o) in
    let later = later-push g.elements k v at.counted at.follows in
    record {
      grown = λ kind. omega (arith, on.grown kind, later.grown kind);
      given = given-more g.elements (push_version g.elements k v) g.keys k later.grown on.given (given-push g.elements k v at);
    }

under-skipped : (u : Upload) (g : Progress) (k : Key) → IsUnder u g → IsGiven g.elements k → IsUnder u (skipped g k)
under-skipped u g k on given = record {
  grown = on.grown;
  given = given-more g.elements g.elements g.keys k (λ kind. omega arith) on.given given;
}

under-stepped : (u : Upload) (g : Progress) (k : Key) (o : Op) → IsUnder u g → IsReached g.elements k → (makes g.elements k o ≡ false → IsGiven g.elements k) → IsUnder u (stepped u g k o)
under-stepped u g k o on at given = along (makes g.elements k o) refl
  where
    along : (b : Bool) → makes g.elements k o ≡ b → IsUnder u (if b then applied u g k (content_of_op g.keys o) (tags_of_op o) else skipped g k)
    along true is = under-applied u g k o on at
    along false is = under-skipped u g k on (given is)

-- an operation that is skipped is of an element that is there
skipped-given : (u : Upload) (g : Progress) (o : Op) (h : Progress) → IsUnder u g → operate u g o ≡ Ok h → makes g.elements (key_of g.keys (first_ids g.elements) o) o ≡ false → IsGiven g.elements (key_of g.keys (first_ids g.elements) o)
skipped-given u g (Create placeholder content tags) h on e skips = absurd (false≢true (sym skips))
skipped-given u g (Modify name version content tags) h on e skips = absurd (false≢true (sym skips))
skipped-given u g (Delete kind name version if_unused) h on e skips =
    let named = bind-Ok (named_key u g kind name) (λ (k : Key). delete_known u g kind name version if_unused k) h e in
    let known = named-known (known_key u g kind name) (refused.NoElement (said u.operations name) (number g) kind) named.0 named.1 in
    subst (λ (k : Key). IsGiven g.elements k) (known-is u g kind name named.0 known) (given-of u g kind name named.0 on known)

pub under-operate : (u : Upload) (g : Progress) (o : Op) (h : Progress) → IsUnder u g → operate u g o ≡ Ok h → IsUnder u h
under-operate u g o h on e =
    subst (λ (p : Progress). IsUnder u p) (sym (step-is u g o h e))
    (under-stepped u g (key_of g.keys (first_ids g.elements) o) o on (reached u g o h on e) (skipped-given u g o h on e))
