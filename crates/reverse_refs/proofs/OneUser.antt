-- A row's one user leaves and comes back.
use Rattle.std.proofs.Common.{◌≡◌, ℕ, ◌<◌, Bool, true, false, ◌||◌, List, [], ◌∷◌, refl, sym, ap, ◌∙◌, arith}
use Rattle.std.specs.Prelude.{not, cond}
use Rattle.std.proofs.lemmas.Bool.{false≢true}
use Rattle.osm_base.specs.Key.{key_eq, lists_key, without_key}
use Rattle.osm_base.specs.declared.keys.Key.{Key}
use Rattle.osm_base.specs.declared.keys.Kind.{Kind}
use Rattle.osm_base.proofs.KeyOrder.{key_eq-same}
use Rattle.reverse_refs.specs.Users.{UserRow, no_row, with_user, without_user}
use Rattle.reverse_refs.specs.Held.{row_held}
use Rattle.reverse_refs.specs.declared.slots.Slot.{Slot}
use Rattle.reverse_refs.specs.declared.held.Held.{Held}
use Rattle.reverse_refs.specs.declared.held.Held.TheVariants.{Nothing, Promised, One, Left, WideOne, WideLeft, Listed}

sole : (k key : Key) → lists_key (k ∷ []) key ≡ true → key_eq k key ≡ true
sole k key listed = alone (key_eq k key) listed
  where
    alone : (b : Bool) → b || false ≡ true → b ≡ true
    alone true e = refl
    alone false e = e

none_left : (k key : Key) → key_eq k key ≡ true → without_key (k ∷ []) key ≡ []
none_left k key same = ap (λ (b : Bool). cond (not b) (k ∷ []) []) same

pub leaves : (row : UserRow) (k key : Key) → row ≡ record no_row { present = k ∷ [] } → lists_key row.present key ≡ true → record no_row { past = k ∷ [] } ≡ without_user row key
leaves row k key is listed =
    let same : key_eq k key ≡ true = sole k key (ap (λ (r : UserRow). lists_key r.present key) (sym is) ∙ listed) in
    ap (λ (x : Key). record no_row { past = x ∷ [] }) (key_eq-same k key same)
    ∙ ap (λ (ks : List Key). record no_row { present = ks; past = key ∷ [] }) (sym (none_left k key same))
    ∙ ap (λ (r : UserRow). without_user r key) (sym is)

pub returns : (row : UserRow) (k key : Key) → row ≡ record no_row { past = k ∷ [] } → lists_key row.past key ≡ true → record no_row { present = k ∷ [] } ≡ with_user row key
returns row k key is listed =
    let same : key_eq k key ≡ true = sole k key (ap (λ (r : UserRow). lists_key r.past key) (sym is) ∙ listed) in
    ap (λ (x : Key). record no_row { present = x ∷ [] }) (key_eq-same k key same)
    ∙ ap (λ (ks : List Key). record no_row { present = key ∷ []; past = ks }) (sym (none_left k key same))
    ∙ ap (λ (r : UserRow). with_user r key) (sym is)

module _ (slots : List Slot) (keys : List Key) where
  pub has_user :
      (row : Held) (key : Key)
      → lists_key (row_held slots keys row).present key ≡ true
      → ((kind : Kind) (id : ℕ) → row ≡ One kind id → ⊥)
      → ((p : ℕ) → row ≡ WideOne p → ⊥)
      → ((p : ℕ) → row ≡ Listed p → ⊥)
      → ⊥
  has_user Nothing key listed one wide list = false≢true listed
  has_user Promised key listed one wide list = false≢true listed
  has_user (One kind id) key listed one wide list = one kind id refl
  has_user (Left kind id) key listed one wide list = false≢true listed
  has_user (WideOne p) key listed one wide list = wide p refl
  has_user (WideLeft p) key listed one wide list = false≢true listed
  has_user (Listed p) key listed one wide list = list p refl

  pub had_user :
      (row : Held) (key : Key)
      → lists_key (row_held slots keys row).past key ≡ true
      → ((kind : Kind) (id : ℕ) → row ≡ Left kind id → ⊥)
      → ((p : ℕ) → row ≡ WideLeft p → ⊥)
      → ((p : ℕ) → row ≡ Listed p → ⊥)
      → ⊥
  had_user Nothing key listed one wide list = false≢true listed
  had_user Promised key listed one wide list = false≢true listed
  had_user (One kind id) key listed one wide list = false≢true listed
  had_user (Left kind id) key listed one wide list = one kind id refl
  had_user (WideOne p) key listed one wide list = false≢true listed
  had_user (WideLeft p) key listed one wide list = wide p refl
  had_user (Listed p) key listed one wide list = list p refl

  pub has_room : (row : Held) → 0 < (row_held slots keys row).free → (row ≡ Promised → ⊥) → ((p : ℕ) → row ≡ Listed p → ⊥) → ⊥
  has_room Nothing room promised list = omega (arith, room)
  has_room Promised room promised list = promised refl
  has_room (One kind id) room promised list = omega (arith, room)
  has_room (Left kind id) room promised list = omega (arith, room)
  has_room (WideOne p) room promised list = omega (arith, room)
  has_room (WideLeft p) room promised list = omega (arith, room)
  has_room (Listed p) room promised list = list p refl

  -- a row of one user, or none, that isn't promised room has none
  pub no_room : (row : Held) → (row ≡ Promised → ⊥) → ((p : ℕ) → row ≡ Listed p → ⊥) → (row_held slots keys row).free ≡ 0
  no_room Nothing promised list = refl
  no_room Promised promised list = absurd (promised refl)
  no_room (One kind id) promised list = refl
  no_room (Left kind id) promised list = refl
  no_room (WideOne p) promised list = refl
  no_room (WideLeft p) promised list = refl
  no_room (Listed p) promised list = absurd (list p refl)
