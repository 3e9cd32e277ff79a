-- The members of a block.
use Rattle.std.proofs.Common.{◌≡◌, ℕ, List, length, codes, Bool, true, false, cond, nat_lt, ◌==◌, Option, Some, None, option_map, is_some, bytes_eq, unwrap_or, refl, sym, ap, subst, ◌∙◌}
use Rattle.std.proofs.lemmas.Bool.{false≢true}
use Rattle.serde_json.specs.Data.{Data, Items, object, null, boolean, number, string, array, Members, put}
use Rattle.serde_json.specs.Find.{get, get_member, as_array, as_object, as_bool}
use Rattle.osm_change.specs.declared.raw.Action.{Action}
use Rattle.osm_change.specs.declared.raw.Action.TheVariants.{Create, Modify, Delete}
use Rattle.osm_json.specs.Reading.{◌>>=◌, Block, if_there, block_among, block_of}
use Rattle.osm_json.specs.Names.{entry_in}
use Rattle.osm_json.specs.Walked.{Sight, Found, walk_all, walk_list, walk_block, put_entry, IsLast, Sees, SeesMembers, finish_delete, finish_block, told}
use Rattle.osm_json.specs.declared.blocks.Lists.{Lists}
use Rattle.osm_json.specs.declared.names.Entry.{Entry}
use Rattle.osm_json.specs.declared.names.Entry.TheVariants as entries
use Rattle.osm_json.proofs.Objects.{chosen, IsAt, test_at, found_put}
use Rattle.osm_json.proofs.Walks.{Keeps, keeps_extended, extends_list, marked}

-- ---- one member more

abbrev rank : Entry → ℕ
rank entries.Create = 0
rank entries.Modify = 1
rank entries.Delete = 2
rank entries.IfUnused = 3
rank entries.Other = 4

abbrev text_at : ℕ → List ℕ
text_at r = cond (r == 0) (codes "create") (cond (r == 1) (codes "modify") (cond (r == 2) (codes "delete") (codes "if-unused")))

abbrev entry_number : List ℕ → ℕ
entry_number key = rank (entry_in key)

abbrev Sound : List ℕ → Entry → Type 0
Sound key e = IsAt 4 text_at entry_number key (rank e)

sound : (key : List ℕ) → Sound key (entry_in key)
sound key =
    chosen (Sound key) (bytes_eq key (codes "create")) _ _ (λ e h. e)
    (chosen (Sound key) (bytes_eq key (codes "modify")) _ _ (λ e h. e)
    (chosen (Sound key) (bytes_eq key (codes "delete")) _ _ (λ e h. e)
    (chosen (Sound key) (bytes_eq key (codes "if-unused")) _ _ (λ e h. e) (λ h. absurd (false≢true h)))))

one : (r : ℕ) (key : List ℕ) (d : Data) (ms : Members) → nat_lt r 4 ≡ true → entry_number (text_at r) ≡ r
    → cond (r == entry_number key) (Some d) (get_member (text_at r) ms) ≡ get_member (text_at r) (put key d ms)
one r key d ms small back = ap (λ b. cond b (Some d) (get_member (text_at r) ms)) (sym (test_at 4 text_at entry_number r key small back (sound key))) ∙ sym (found_put (text_at r) key d ms)

last_create : (m x : Option Data) (d : Data) (base : Sight) (f : Found) → (f.0.is_list, f.1) ≡ walk_list Create base (as_array d) → IsLast (Some d) m x base f
last_create None None d base f e = e
last_create None (Some y) d base f e = tt
last_create (Some y) None d base f e = tt
last_create (Some y) (Some z) d base f e = tt

last_modify : (c x : Option Data) (d : Data) (base : Sight) (f : Found) → (f.0.is_list, f.1) ≡ walk_list Modify base (as_array d) → IsLast c (Some d) x base f
last_modify None None d base f e = e
last_modify None (Some y) d base f e = tt
last_modify (Some y) None d base f e = tt
last_modify (Some y) (Some z) d base f e = tt

last_delete : (c m : Option Data) (d : Data) (base : Sight) (f : Found) → (f.0.is_list, f.1) ≡ walk_list (Delete false) base (as_array d) → IsLast c m (Some d) base f
last_delete None None d base f e = e
last_delete None (Some y) d base f e = tt
last_delete (Some y) None d base f e = tt
last_delete (Some y) (Some z) d base f e = tt

last_same : (c m x : Option Data) (base : Sight) (f g : Found) → f.0.is_list ≡ g.0.is_list → f.1 ≡ g.1 → IsLast c m x base f → IsLast c m x base g
last_same None None None base f g e k h = tt
last_same (Some a) None None base f g e k h = (λ i. (sym e i, sym k i)) ∙ h
last_same None (Some b) None base f g e k h = (λ i. (sym e i, sym k i)) ∙ h
last_same None None (Some d) base f g e k h = (λ i. (sym e i, sym k i)) ∙ h
last_same (Some a) (Some b) None base f g e k h = tt
last_same (Some a) None (Some d) base f g e k h = tt
last_same None (Some b) (Some d) base f g e k h = tt
last_same (Some a) (Some b) (Some d) base f g e k h = tt

entry_step : (e : Entry) (d : Data) (c m x u : Option Data) (base : Sight) (f : Found) → Sees c m x u base f
    → Sees (cond (0 == rank e) (Some d) c) (cond (1 == rank e) (Some d) m) (cond (2 == rank e) (Some d) x) (cond (3 == rank e) (Some d) u) base (put_entry e d base f)
entry_step entries.Create d c m x u base f h = record { has_create = refl; has_modify = h.has_modify; has_delete = h.has_delete; unused = h.unused; last = last_create m x d base _ refl }
entry_step entries.Modify d c m x u base f h = record { has_create = h.has_create; has_modify = refl; has_delete = h.has_delete; unused = h.unused; last = last_modify c x d base _ refl }
entry_step entries.Delete d c m x u base f h = record { has_create = h.has_create; has_modify = h.has_modify; has_delete = refl; unused = h.unused; last = last_delete c m d base _ refl }
entry_step entries.IfUnused d c m x u base f h = record { has_create = h.has_create; has_modify = h.has_modify; has_delete = h.has_delete; unused = refl; last = last_same c m x base f _ refl refl h.last }
entry_step entries.Other d c m x u base f h = h

pub entry_sees : (key : List ℕ) (d : Data) (ms : Members) (base : Sight) (f : Found) → SeesMembers ms base f → SeesMembers (put key d ms) base (put_entry (entry_in key) d base f)
entry_sees key d ms base f h =
    subst (λ (o : Option Data × Option Data × Option Data × Option Data). Sees o.0 o.1 o.2 o.3 base (put_entry (entry_in key) d base f))
    (λ i. (one 0 key d ms refl refl i, one 1 key d ms refl refl i, one 2 key d ms refl refl i, one 3 key d ms refl refl i))
    (entry_step (entry_in key) d _ _ _ _ base f h)

pub entry_keeps : (e : Entry) (d : Data) (start : ℕ) (base : Sight) (f : Found) → start ≡ length base.0 → Keeps start base.0 f.1.0 → Keeps start base.0 (put_entry e d base f).1.0
entry_keeps entries.Create d start base f e h = keeps_extended start base.0 _ e (extends_list Create base (as_array d))
entry_keeps entries.Modify d start base f e h = keeps_extended start base.0 _ e (extends_list Modify base (as_array d))
entry_keeps entries.Delete d start base f e h = keeps_extended start base.0 _ e (extends_list (Delete false) base (as_array d))
entry_keeps entries.IfUnused d start base f e h = h
entry_keeps entries.Other d start base f e h = h

-- ---- the end of a block

abbrev tell : Bool × Sight → Option Sight
tell r = told r.0 r.1

abbrev walked : Sight → Option Block → Option Sight
walked base o = option_map (λ block. walk_all block.action block.elements base) o

listed : (action : Action) (base : Sight) (o : Option Items) → tell (walk_list action base o) ≡ walked base (o >>= λ elements. Some (record { action = action; elements = elements }))
listed action base None = refl
listed action base (Some ds) = refl

unused_list : (start : ℕ) (base : Sight) (ds : Items) (b : Option Bool) → start ≡ length base.0
    → tell (finish_delete start true (Some b) (walk_all (Delete false) ds base)) ≡ walked base (option_map (λ o. unwrap_or o false) (option_map Some b) >>= λ if_unused. Some (record { action = Delete if_unused; elements = ds }))
unused_list start base ds None e = refl
unused_list start base ds (Some false) e = refl
unused_list start base ds (Some true) e = ap (λ s. Some s) (marked start ds base e)

deleted : (start : ℕ) (base : Sight) (o : Option Items) (u : Option Data) → start ≡ length base.0
    → tell (finish_delete start (walk_list (Delete false) base o).0 (option_map as_bool u) (walk_list (Delete false) base o).1)
    ≡ walked base (o >>= λ elements. option_map (λ b. unwrap_or b false) (if_there as_bool u) >>= λ if_unused. Some (record { action = Delete if_unused; elements = elements }))
deleted start base None u e = refl
deleted start base (Some ds) None e = refl
deleted start base (Some ds) (Some v) e = unused_list start base ds (as_bool v) e

module _ (start : ℕ) (base : Sight) (f : Found) (d : Data) (e : start ≡ length base.0) where
  abbrev finished : Bool → Bool → Bool → Option Sight
  finished create modify delete = tell (finish_block start create modify delete f.0 f.1)

  counted : (c m x u : Option Data) → Sees c m x u base f → finished f.0.create f.0.modify f.0.delete ≡ finished (is_some c) (is_some m) (is_some x)
  counted c m x u h = λ i. finished (h.has_create i) (h.has_modify i) (h.has_delete i)

  seen_of : (c m x u : Option Data) → get (codes "if-unused") d ≡ u → Sees c m x u base f → finished (is_some c) (is_some m) (is_some x) ≡ walked base (block_among c m x d)
  seen_of None None None u g h = refl
  seen_of (Some a) None None u g h = ap tell h.last ∙ listed Create base (as_array a)
  seen_of None (Some a) None u g h = ap tell h.last ∙ listed Modify base (as_array a)
  seen_of None None (Some a) u g h =
      ap (λ (p : Bool × Sight). tell (finish_delete start p.0 f.0.if_unused p.1)) h.last
      ∙ ap (λ b. tell (finish_delete start (walk_list (Delete false) base (as_array a)).0 b (walk_list (Delete false) base (as_array a)).1)) h.unused
      ∙ deleted start base (as_array a) u e
      ∙ ap (λ v. walked base (as_array a >>= λ elements. option_map (λ b. unwrap_or b false) (if_there as_bool v) >>= λ if_unused. Some (record { action = Delete if_unused; elements = elements }))) (sym g)
  seen_of (Some a) (Some b) None u g h = refl
  seen_of (Some a) None (Some b) u g h = refl
  seen_of None (Some a) (Some b) u g h = refl
  seen_of (Some a) (Some b) (Some z) u g h = refl

  seen : (c m x u : Option Data) → get (codes "if-unused") d ≡ u → Sees c m x u base f → finished f.0.create f.0.modify f.0.delete ≡ walked base (block_among c m x d)
  seen c m x u g h = counted c m x u h ∙ seen_of c m x u g h

pub block_seen : (start : ℕ) (base : Sight) (f : Lists) (s new : Sight) (b : Bool) (ms : Members) → start ≡ length base.0 → SeesMembers ms base (f, s) → (b, new) ≡ finish_block start f.create f.modify f.delete f s
    → walk_block base (object ms) ≡ told b new
unfolding block_of
block_seen start base f s new b ms e h r = sym (ap tell r ∙ seen start base (f, s) (object ms) e _ _ _ _ refl h)

pub no_block_there : (base : Sight) (d : Data) → as_object d ≡ None → walk_block base d ≡ None
unfolding block_of
no_block_there base null e = refl
no_block_there base (boolean b) e = refl
no_block_there base (number n) e = refl
no_block_there base (string s) e = refl
no_block_there base (array ds) e = refl
no_block_there base (object ms) e = absurd (cc)
