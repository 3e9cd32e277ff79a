-- The map as it was at a stamp is what the entries up to that stamp make, marks aside.
use Rattle.std.proofs.Common.{◌≡◌, ℕ, zero, suc, ◌+◌, ◌-◌, ◌<◌, ◌≤◌, Bool, true, false, List, [], ◌∷◌, ◌++◌, length, get_or, take, Option, Some, None, Ok, Err, ⊎_elim, refl, sym, ap, ◌∙◌, subst, append-nil, arith}
use Rattle.std.specs.Prelude.{Result, All, is_ok, ◌&&◌, nat_le, cond, map, slice_get, slice_set, ◌==◌, if◌then◌else◌, fold}
use Rattle.std.specs.Option.{option_map_or}
use Rattle.std.proofs.lemmas.Bool.{cases_Bool, eqb-true, leb-true, leb-false, le-leb, lt-leb}
use Rattle.std.proofs.lemmas.Bool.Decides.{nat_tests}
use Rattle.std.proofs.lemmas.List.{get_or_default}
use Rattle.std.proofs.lemmas.List.Elements.{All-head, All-tail, filter-append}
use Rattle.osm_base.specs.Stamp.{stamp_after}
use Rattle.osm_base.specs.declared.keys.Key.{Key}
use Rattle.osm_base.specs.declared.keys.Kind.{Kind}
use Rattle.osm_base.specs.declared.keys.Kind.TheVariants as kind
use Rattle.osm_element.specs.Elements.{no_elements, key, histories, with_histories, history_in, version_in, add_version, push_version, mark_in, mark}
use Rattle.osm_element.specs.Later.{IsBegun}
use Rattle.osm_element.specs.declared.elements.Elements.{Elements}
use Rattle.osm_element.specs.Version.{Version}
use Rattle.osm_change.specs.declared.refusals.Refusal.{Refusal}
use Rattle.osm_model.specs.declared.states.State.{State}
use Rattle.osm_model.specs.declared.commands.Entry.{Entry}
use Rattle.osm_model.specs.Act.{Effect, judge, settle}
use Rattle.osm_model.specs.Journal.{after, replay, takes, is_legal_from, IsLegal}
use Rattle.osm_model.specs.Past.{was_made, made_by, before_others, histories_by, elements_by, past, entries_by, unmarked, without_marks_in, without_marks}
use Rattle.osm_model.specs.Stamped.{IsStampedTo, IsStamped}
use Rattle.osm_model.specs.State.{empty}
use Rattle.osm_model.proofs.Changed.{IsKeptBy, after-changes}
use Rattle.osm_model.proofs.Replayed.{leads-after}
use Rattle.osm_model.proofs.Stamped.{AreStampedTo, version_at, history_at, listed-stamped, stamped-all, empty-stamped}

-- ---- a version that is made later

made_by-later : (t : ℕ) (vs : List Version) (v : Version) → t < v.stamp → made_by t (vs ++ v ∷ []) ≡ made_by t vs
made_by-later t vs v later =
    filter-append (was_made t) vs (v ∷ [])
    ∙ ap (λ (b : Bool). made_by t vs ++ cond b (v ∷ []) []) (lt-leb v.stamp t later)
    ∙ append-nil (made_by t vs)

by-new : (t : ℕ) (hs : List (List Version)) (v : Version) → t < v.stamp → histories_by t (hs ++ (v ∷ []) ∷ []) ≡ histories_by t hs
by-new t [] v later = ap (λ (b : Bool). before_others (cond b (v ∷ []) []) []) (lt-leb v.stamp t later)
by-new t (h ∷ hs) v later = ap (λ (l : List (List Version)). before_others (made_by t h) l) (by-new t hs v later)

by-set : (t : ℕ) (hs : List (List Version)) (i : ℕ) (v : Version) → t < v.stamp → histories_by t (slice_set hs i (get_or hs i [] ++ v ∷ [])) ≡ histories_by t hs
by-set t [] i v later = refl
by-set t (h ∷ hs) zero v later = ap (λ (vs : List Version). before_others vs (histories_by t hs)) (made_by-later t h v later)
by-set t (h ∷ hs) (suc i) v later = ap (λ (l : List (List Version)). before_others (made_by t h) l) (by-set t hs i v later)

by-add : (t : ℕ) (hs : List (List Version)) (place : ℕ) (v : Version) → t < v.stamp → histories_by t (add_version hs place v) ≡ histories_by t hs
by-add t hs place v later = along (place == length hs)
  where
    along : (b : Bool) → histories_by t (if b then hs ++ (v ∷ []) ∷ [] else slice_set hs place (get_or hs place [] ++ v ∷ [])) ≡ histories_by t hs
    along true = by-new t hs v later
    along false = by-set t hs place v later

-- elements by their parts
abbrev parts : List (List Version) → List (List Version) → List (List Version) → Elements
parts nodes ways relations = record { nodes = nodes; ways = ways; relations = relations }

by-push : (t : ℕ) (E : Elements) (k : Key) (v : Version) → t < v.stamp → elements_by t (push_version E k v) ≡ elements_by t E
by-push t E k v later = along k.kind
  where
    along : (kind : Kind) → elements_by t (with_histories E kind (add_version (histories E kind) (k.id - 1) v)) ≡ elements_by t E
    along kind.Node = ap (λ (l : List (List Version)). parts l (histories_by t E.ways) (histories_by t E.relations)) (by-add t E.nodes (k.id - 1) v later)
    along kind.Way = ap (λ (l : List (List Version)). parts (histories_by t E.nodes) l (histories_by t E.relations)) (by-add t E.ways (k.id - 1) v later)
    along kind.Relation = ap (λ (l : List (List Version)). parts (histories_by t E.nodes) (histories_by t E.ways) l) (by-add t E.relations (k.id - 1) v later)

-- ---- marks aside

unmarked-made : (t : ℕ) (vs : List Version) → map unmarked (made_by t vs) ≡ made_by t (map unmarked vs)
unmarked-made t [] = refl
unmarked-made t (v ∷ vs) = along (was_made t v) ∙ ap (λ (l : List Version). cond (was_made t v) (unmarked v ∷ l) l) (unmarked-made t vs)
  where
    along : (b : Bool) → map unmarked (cond b (v ∷ made_by t vs) (made_by t vs)) ≡ cond b (unmarked v ∷ map unmarked (made_by t vs)) (map unmarked (made_by t vs))
    along true = refl
    along false = refl

unmarked-before : (vs : List Version) (hs : List (List Version)) → without_marks_in (before_others vs hs) ≡ before_others (map unmarked vs) (without_marks_in hs)
unmarked-before [] [] = refl
unmarked-before [] (h ∷ hs) = refl
unmarked-before (v ∷ vs) hs = refl

unmarked-by : (t : ℕ) (hs : List (List Version)) → without_marks_in (histories_by t hs) ≡ histories_by t (without_marks_in hs)
unmarked-by t [] = refl
unmarked-by t (h ∷ hs) =
    unmarked-before (made_by t h) (histories_by t hs)
    ∙ ap (λ (vs : List Version). before_others vs (without_marks_in (histories_by t hs))) (unmarked-made t h)
    ∙ ap (λ (l : List (List Version)). before_others (made_by t (map unmarked h)) l) (unmarked-by t hs)

without-by : (t : ℕ) (E : Elements) → without_marks (elements_by t E) ≡ elements_by t (without_marks E)
without-by t E =
    ap (λ (l : List (List Version)). parts l (without_marks_in (histories_by t E.ways)) (without_marks_in (histories_by t E.relations))) (unmarked-by t E.nodes)
    ∙ ap (λ (l : List (List Version)). parts (histories_by t (without_marks_in E.nodes)) l (without_marks_in (histories_by t E.relations))) (unmarked-by t E.ways)
    ∙ ap (λ (l : List (List Version)). parts (histories_by t (without_marks_in E.nodes)) (histories_by t (without_marks_in E.ways)) l) (unmarked-by t E.relations)

unmarked-set : (vs : List Version) (i : ℕ) (m : Option ℕ) (v : Version) → slice_get vs i ≡ Some v → map unmarked (slice_set vs i (record v { redaction = m })) ≡ map unmarked vs
unmarked-set [] i m v there = refl
unmarked-set (x ∷ xs) zero m v there = let e : v ≡ x = cc in ap (λ (y : Version). unmarked y ∷ map unmarked xs) e
unmarked-set (x ∷ xs) (suc i) m v there = ap (λ (l : List Version). unmarked x ∷ l) (unmarked-set xs i m v there)

unmarked-mark : (vs : List Version) (n : ℕ) (m : Option ℕ) → map unmarked (mark_in vs n m) ≡ map unmarked vs
unmarked-mark vs n m = by (version_in vs n) (λ v e. version_at vs n v e)
  where
    by : (o : Option Version) → ((v : Version) → o ≡ Some v → slice_get vs (n - 1) ≡ Some v) → map unmarked (option_map_or (λ v. slice_set vs (n - 1) (record v { redaction = m })) o vs) ≡ map unmarked vs
    by None there = refl
    by (Some v) there = unmarked-set vs (n - 1) m v (there v refl)

marked-at : (hs : List (List Version)) (i n : ℕ) (m : Option ℕ) → without_marks_in (slice_set hs i (mark_in (get_or hs i []) n m)) ≡ without_marks_in hs
marked-at [] i n m = refl
marked-at (h ∷ hs) zero n m = ap (λ (vs : List Version). vs ∷ without_marks_in hs) (unmarked-mark h n m)
marked-at (h ∷ hs) (suc i) n m = ap (λ (l : List (List Version)). map unmarked h ∷ l) (marked-at hs i n m)

marked-in : (hs : List (List Version)) (id n : ℕ) (m : Option ℕ) → 0 < id → without_marks_in (slice_set hs (id - 1) (mark_in (history_in hs id) n m)) ≡ without_marks_in hs
marked-in hs id n m counted =
    ap (λ (b : Bool). without_marks_in (slice_set hs (id - 1) (mark_in (if b then [] else get_or hs (id - 1) []) n m))) (some id counted)
    ∙ marked-at hs (id - 1) n m
  where
    some : (id : ℕ) → 0 < id → (id == 0) ≡ false
    some id counted = grind (arith, nat_tests)

without-mark : (E : Elements) (k : Key) (n : ℕ) (m : Option ℕ) → 0 < k.id → without_marks (mark E k n m) ≡ without_marks E
without-mark E k n m counted = along k.kind
  where
    along : (kind : Kind) → without_marks (with_histories E kind (slice_set (histories E kind) (k.id - 1) (mark_in (history_in (histories E kind) k.id) n m))) ≡ without_marks E
    along kind.Node = ap (λ (l : List (List Version)). parts l (without_marks_in E.ways) (without_marks_in E.relations)) (marked-in E.nodes k.id n m counted)
    along kind.Way = ap (λ (l : List (List Version)). parts (without_marks_in E.nodes) l (without_marks_in E.relations)) (marked-in E.ways k.id n m counted)
    along kind.Relation = ap (λ (l : List (List Version)). parts (without_marks_in E.nodes) (without_marks_in E.ways) l) (marked-in E.relations k.id n m counted)

-- ---- a later entry

-- the elements as they were, marks aside
abbrev was : ℕ → State → Elements
was t P = without_marks (elements_by t P.elements)

abbrev IsAsIn : ℕ → State → Elements → Type 0
IsAsIn t P E = without_marks (elements_by t E) ≡ was t P

later-kept : (t s : ℕ) (P : State) → t < s → IsKeptBy s (IsAsIn t P)
later-kept t s P later = record {
  pushes = λ E k v same before. ap without_marks (by-push t E k v (omega (arith, later, same))) ∙ before;
  marks = λ E k n m counted within before.
      without-by t (mark E k n m) ∙ ap (elements_by t) (without-mark E k n m counted) ∙ sym (without-by t E) ∙ before;
}

was-after : (t : ℕ) (P : State) (e : Entry) → t < stamp_after P.last e.stamp → was t (after P e) ≡ was t P
was-after t P e later = after-changes (IsAsIn t P) P e (later-kept t (stamp_after P.last e.stamp) P later) refl

-- ---- legal entries

both : (a b : Bool) → (a && b) ≡ true → (a ≡ true) × (b ≡ true)
both true b e = (refl, e)
both false b e = cc

settled-last : (P : State) (t : ℕ) (judged : Result Effect Refusal) → is_ok judged ≡ true → (settle P t judged).0.last ≡ t
settled-last P t (Ok done) ok = refl
settled-last P t (Err r) ok = cc

-- what the stamp of an entry that is taken is
record IsInTime (P : State) (e : Entry) : Type 0 where
  at : stamp_after P.last e.stamp ≡ e.stamp
  last : (after P e).last ≡ e.stamp

in-time : (P : State) (e : Entry) → takes P e ≡ true → IsInTime P e
in-time P e taken =
    let parts = both (is_ok (judge P e.user e.stamp e.command)) (stamp_after P.last e.stamp == e.stamp) taken in
    let same : stamp_after P.last e.stamp ≡ e.stamp = eqb-true (stamp_after P.last e.stamp) e.stamp parts.1 in
    let t : ℕ = stamp_after P.last e.stamp in
    record {
      at = same;
      last = settled-last P t (judge P e.user t e.command) (subst (λ (t : ℕ). is_ok (judge P e.user t e.command) ≡ true) (sym same) parts.0) ∙ same;
    }

-- after a stamp past t there is no entry up to t
none-by : (t : ℕ) (P : State) (es : List Entry) → t < P.last → is_legal_from P es ≡ true → entries_by t es ≡ []
none-by t P [] low legal = refl
none-by t P (e ∷ es) low legal =
    let step = both (takes P e) (is_legal_from (after P e) es) legal in
    let time = in-time P e step.0 in
    let past_t : t < e.stamp = beyond P.last e.stamp low time.at in
    ap (λ (b : Bool). cond b (e ∷ entries_by t es) (entries_by t es)) (lt-leb e.stamp t past_t)
    ∙ none-by t (after P e) es (subst (λ (n : ℕ). t < n) (sym time.last) past_t) step.1
  where
    beyond : (last s : ℕ) → t < last → stamp_after last s ≡ s → t < s
    beyond last s low same = omega (arith, low, same)

-- the entries up to t make what there was
made-then : (t : ℕ) (P : State) (es : List Entry) → is_legal_from P es ≡ true → was t (fold after P es) ≡ was t (fold after P (entries_by t es))
made-then t P [] legal = refl
made-then t P (e ∷ es) legal =
    let step = both (takes P e) (is_legal_from (after P e) es) legal in
    let time = in-time P e step.0 in
    ⊎_elim
    (λ yes. made-then t (after P e) es step.1
    ∙ ap (λ (b : Bool). was t (fold after P (cond b (e ∷ entries_by t es) (entries_by t es)))) (sym yes))
    (λ no. let later : t < e.stamp = leb-false e.stamp t no in
    let none : entries_by t es ≡ [] = none-by t (after P e) es (subst (λ (n : ℕ). t < n) (sym time.last) later) step.1 in
    made-then t (after P e) es step.1
    ∙ ap (λ (xs : List Entry). was t (fold after (after P e) xs)) none
    ∙ was-after t P e (subst (λ (n : ℕ). t < n) (sym time.at) later)
    ∙ ap (λ (xs : List Entry). was t (fold after P xs)) (sym none)
    ∙ ap (λ (b : Bool). was t (fold after P (cond b (e ∷ entries_by t es) (entries_by t es)))) (sym no))
    (cases_Bool (nat_le e.stamp t))

-- they stand at the front
front-by : (t : ℕ) (P : State) (es : List Entry) → is_legal_from P es ≡ true → entries_by t es ≡ take (length (entries_by t es)) es
front-by t P [] legal = refl
front-by t P (e ∷ es) legal =
    let step = both (takes P e) (is_legal_from (after P e) es) legal in
    let time = in-time P e step.0 in
    ⊎_elim
    (λ yes. let now : entries_by t (e ∷ es) ≡ e ∷ entries_by t es = ap (λ (b : Bool). cond b (e ∷ entries_by t es) (entries_by t es)) yes in
    now
    ∙ ap (λ (xs : List Entry). e ∷ xs) (front-by t (after P e) es step.1)
    ∙ ap (λ (xs : List Entry). take (length xs) (e ∷ es)) (sym now))
    (λ no. let later : t < e.stamp = leb-false e.stamp t no in
    let none : entries_by t (e ∷ es) ≡ [] =
    ap (λ (b : Bool). cond b (e ∷ entries_by t es) (entries_by t es)) no
    ∙ none-by t (after P e) es (subst (λ (n : ℕ). t < n) (sym time.last) later) step.1
    in
    none ∙ ap (λ (xs : List Entry). take (length xs) (e ∷ es)) (sym none))
    (cases_Bool (nat_le e.stamp t))

-- ---- nothing is later than the last stamp

made-all : (t : ℕ) (vs : List Version) → All (λ v. v.stamp ≤ t) vs → made_by t vs ≡ vs
made-all t [] all = refl
made-all t (v ∷ vs) all =
    ap (λ (b : Bool). cond b (v ∷ made_by t vs) (made_by t vs)) (le-leb v.stamp t (All-head (λ (x : Version). x.stamp ≤ t) v vs all))
    ∙ ap (λ (l : List Version). v ∷ l) (made-all t vs (All-tail (λ (x : Version). x.stamp ≤ t) v vs all))

first-kept : (h : List Version) (hs : List (List Version)) → 0 < length h → before_others h hs ≡ h ∷ hs
first-kept [] hs some = absurd (omega (arith, some))
first-kept (v ∷ vs) hs some = refl

by-all : (s t : ℕ) (hs : List (List Version)) → s ≤ t → All (IsStampedTo s) hs → All (λ h. 0 < length h) hs → histories_by t hs ≡ hs
by-all s t [] up stamped some = refl
by-all s t (h ∷ hs) up stamped some =
    ap
    (λ (vs : List Version). before_others vs (histories_by t hs))
    (made-all t h (λ j d below. low j d ((All-head (IsStampedTo s) h hs stamped).within j d below)))
    ∙ ap (λ (l : List (List Version)). before_others h l) (by-all s t hs up (All-tail (IsStampedTo s) h hs stamped) (All-tail (λ (h : List Version). 0 < length h) h hs some))
    ∙ first-kept h hs (All-head (λ (h : List Version). 0 < length h) h hs some)
  where
    low : (j : ℕ) (d : Version) → (get_or h j d).stamp ≤ s → (get_or h j d).stamp ≤ t
    low j d le = omega (arith, le, up)

-- each history has a version
begun-in : (E : Elements) (kind : Kind) → IsBegun E → All (λ h. 0 < length h) (histories E kind)
begun-in E kind begun i d within =
    subst
    (λ (h : List Version). 0 < length h)
    (history_at (histories E kind) i ∙ get_or_default (histories E kind) i [] d within)
    (begun.begun (key kind (i + 1)) (omega arith) (omega (arith, within)))

elements-by-all : (t : ℕ) (P : State) → P.last ≤ t → IsStamped P → IsBegun P.elements → elements_by t P.elements ≡ P.elements
elements-by-all t P up stamped begun =
    let E = P.elements in
    let each : AreStampedTo P.last E = listed-stamped P stamped in
    ap (λ (l : List (List Version)). parts l (histories_by t E.ways) (histories_by t E.relations)) (by-all P.last t E.nodes up (each kind.Node) (begun-in E kind.Node begun))
    ∙ ap (λ (l : List (List Version)). parts E.nodes l (histories_by t E.relations)) (by-all P.last t E.ways up (each kind.Way) (begun-in E kind.Way begun))
    ∙ ap (λ (l : List (List Version)). parts E.nodes E.ways l) (by-all P.last t E.relations up (each kind.Relation) (begun-in E kind.Relation begun))

-- ---- the whole journal

begun-all : (P : State) (es : List Entry) → IsBegun P.elements → IsBegun (fold after P es).elements
begun-all P [] begun = begun
begun-all P (e ∷ es) begun = begun-all (after P e) es ((leads-after P e).kept.begun begun)

no_histories : (kind : Kind) → length (histories no_elements kind) ≡ 0
no_histories kind.Node = refl
no_histories kind.Way = refl
no_histories kind.Relation = refl

empty-begun : IsBegun no_elements
empty-begun = record { begun = λ k counted below. absurd (omega (arith, counted, below, no_histories k.kind)) }

settled-low : (P : State) (t s : ℕ) (judged : Result Effect Refusal) → P.last ≤ t → s ≤ t → (settle P s judged).0.last ≤ t
settled-low P t s (Ok done) low at = at
settled-low P t s (Err r) low at = low

last-by : (t : ℕ) (P : State) (es : List Entry) → P.last ≤ t → (fold after P (entries_by t es)).last ≤ t
last-by t P [] low = low
last-by t P (e ∷ es) low =
    ⊎_elim
    (λ yes. subst (λ (b : Bool). (fold after P (cond b (e ∷ entries_by t es) (entries_by t es))).last ≤ t) (sym yes)
    (last-by t (after P e) es (settled-low P t (stamp_after P.last e.stamp) (judge P e.user (stamp_after P.last e.stamp) e.command) low (higher P.last e.stamp low (leb-true e.stamp t yes)))))
    (λ no. subst (λ (b : Bool). (fold after P (cond b (e ∷ entries_by t es) (entries_by t es))).last ≤ t) (sym no) (last-by t P es low))
    (cases_Bool (nat_le e.stamp t))
  where
    higher : (last s : ℕ) → last ≤ t → s ≤ t → stamp_after last s ≤ t
    higher last s low at = omega (arith, low, at)

pub past_replayed :
    (es : List Entry) (t : ℕ)
    → IsLegal es
    → without_marks (past (replay es) t).elements ≡ without_marks (replay (entries_by t es)).elements
past_replayed es t legal =
    made-then t empty es legal.taken
    ∙ ap without_marks (elements-by-all t (replay (entries_by t es)) (last-by t empty es (omega arith)) (stamped-all empty (entries_by t es) empty-stamped) (begun-all empty (entries_by t es) empty-begun))

pub entries_in_front : (es : List Entry) (t : ℕ) → IsLegal es → entries_by t es ≡ take (length (entries_by t es)) es
entries_in_front es t legal = front-by t empty es legal.taken
