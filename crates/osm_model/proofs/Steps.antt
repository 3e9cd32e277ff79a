-- Steps that may be refused, and what an operation that is passed comes to.
use Rattle.std.proofs.Common.{◌≡◌, ℕ, ◌+◌, Bool, true, false, List, [], ◌∷◌, ◌++◌, length, None, Some, Ok, Err, refl, ap, ◌∙◌, subst, length-append, arith}
use Rattle.std.specs.Prelude.{Option, Result}
use Rattle.osm_base.specs.Outcome.{◌>>=◌}
use Rattle.osm_base.specs.declared.keys.Kind.{Kind}
use Rattle.osm_base.specs.declared.keys.Key.{Key}
use Rattle.osm_element.specs.Elements.{count, is_visible, first_user}
use Rattle.osm_element.specs.Tags.{Tag}
use Rattle.osm_element.specs.declared.contents.Content.{Content}
use Rattle.osm_change.specs.Change.{kind_of}
use Rattle.osm_change.specs.declared.operations.Name.{Name}
use Rattle.osm_change.specs.declared.operations.Op.{Op}
use Rattle.osm_change.specs.declared.operations.Op.TheVariants.{Create, Modify, Delete}
use Rattle.osm_change.specs.declared.operations.OpDone.{OpDone}
use Rattle.osm_change.specs.declared.operations.OpDone.TheVariants.{Applied, Skipped}
use Rattle.osm_change.specs.declared.refusals.Refusal.{Refusal}
use Rattle.osm_model.specs.declared.uploads.Progress.{Progress}
use Rattle.osm_model.specs.Upload.{Upload}
use Rattle.osm_model.specs.Names.{with_ids}
use Rattle.osm_model.specs.Operation.{operate, operate_all, references_visible, next_key, created, applied, skipped, named_key, named_version, modified, modify_known, modify_current, or_skipped, delete_unless_used, delete_visible, delete_known, used, gone}

-- where two steps in a row are passed, each is
pub bind-Ok :
    {A B : Type 0} (r : Result A Refusal) (f : A → Result B Refusal) (b : B)
    → (r >>= f) ≡ Ok b
    → (a : A) × (r ≡ Ok a) × (f a ≡ Ok b)
bind-Ok (Ok a) f b e = (a, refl, e)
bind-Ok (Err x) f b e = cc

pub Ok-same : {A : Type 0} (a b : A) → ◌≡◌ {A = Result A Refusal} (Ok a) (Ok b) → a ≡ b
Ok-same a b e = cc

-- ---- what an operation that is passed comes to

-- what holds of each way in which an operation may be passed
pub record Passing (u : Upload) (g : Progress) (S : Progress → Type 0) : Type 0 where
  pub creates : (content : Content Name) (tags : List Tag) (a : Unit {0}) → references_visible u g content ≡ Ok a → S (created u g content tags)
  pub modifies :
      (name : Name) (k : Key) (content : Content Name) (tags : List Tag) (a : Unit {0})
      → named_key u g (kind_of content) name ≡ Ok k
      → references_visible u g content ≡ Ok a
      → S (modified u g k content tags)
  pub deletes : (kind : Kind) (name : Name) (k : Key) → named_key u g kind name ≡ Ok k → first_user g.elements k ≡ None → S (applied u g k None [])
  pub skips : (kind : Kind) (name : Name) (k : Key) → named_key u g kind name ≡ Ok k → S (skipped g k)

passed-or_skipped :
    (S : Progress → Type 0) (g h : Progress) (k : Key) (b : Bool) (r : Refusal)
    → S (skipped g k)
    → or_skipped g k b r ≡ Ok h
    → S h
passed-or_skipped S g h k true r skips e = subst S (Ok-same (skipped g k) h e) skips
passed-or_skipped S g h k false r skips e = cc

passed-delete_unless_used :
    (u : Upload) (g h : Progress) (S : Progress → Type 0) (kind : Kind) (name : Name) (k : Key) (b : Bool) (user : Option Key)
    → Passing u g S
    → named_key u g kind name ≡ Ok k
    → first_user g.elements k ≡ user
    → delete_unless_used u g kind name k b user ≡ Ok h
    → S h
passed-delete_unless_used u g h S kind name k b None passing named none e =
    subst S (Ok-same (applied u g k None []) h e) (passing.deletes kind name k named none)
passed-delete_unless_used u g h S kind name k b (Some x) passing named some e =
    passed-or_skipped S g h k b (used u g kind name x) (passing.skips kind name k named) e

passed-delete_visible :
    (u : Upload) (g h : Progress) (S : Progress → Type 0) (kind : Kind) (name : Name) (version : ℕ) (b seen : Bool) (k : Key)
    → Passing u g S
    → named_key u g kind name ≡ Ok k
    → delete_visible u g kind name version b k seen ≡ Ok h
    → S h
passed-delete_visible u g h S kind name version b false k passing named e =
    passed-or_skipped S g h k b (gone u g kind name k) (passing.skips kind name k named) e
passed-delete_visible u g h S kind name version b true k passing named e =
    let fine = bind-Ok (named_version u g kind name k version) (λ (fine : Unit {0}). delete_unless_used u g kind name k b (first_user g.elements k)) h e in
    passed-delete_unless_used u g h S kind name k b (first_user g.elements k) passing named refl fine.2

pub passed-operate : (u : Upload) (g : Progress) (S : Progress → Type 0) (o : Op) (h : Progress) → Passing u g S → operate u g o ≡ Ok h → S h
passed-operate u g S (Create placeholder content tags) h passing e =
    let passed = bind-Ok (references_visible u g content) (λ (fine : Unit {0}). Ok (created u g content tags)) h e in
    subst S (Ok-same (created u g content tags) h passed.2) (passing.creates content tags passed.0 passed.1)
passed-operate u g S (Modify name version content tags) h passing e =
    let named = bind-Ok (named_key u g (kind_of content) name) (λ (k : Key). modify_known u g name k version content tags) h e in
    let current = bind-Ok (named_version u g (kind_of content) name named.0 version) (λ (fine : Unit {0}). modify_current u g named.0 content tags) h named.2 in
    let passed = bind-Ok (references_visible u g content) (λ (fine : Unit {0}). Ok (modified u g named.0 content tags)) h current.2 in
    subst S (Ok-same (modified u g named.0 content tags) h passed.2) (passing.modifies name named.0 content tags passed.0 named.1 passed.1)
passed-operate u g S (Delete kind name version if_unused) h passing e =
    let named = bind-Ok (named_key u g kind name) (λ (k : Key). delete_known u g kind name version if_unused k) h e in
    passed-delete_visible u g h S kind name version if_unused (is_visible g.elements named.0) named.0 passing named.1 named.2

-- ---- how many keys and outcomes there are

pub record Adds (n : ℕ) (g h : Progress) : Type 0 where
  pub keys : length h.keys ≡ length g.keys + n
  pub done : length h.done ≡ length g.done + n

adds-push : (g h : Progress) (k : Key) (d : OpDone) → h.keys ≡ g.keys ++ k ∷ [] → h.done ≡ g.done ++ d ∷ [] → Adds 1 g h
adds-push g h k d keys done = record {
  keys = ap length keys ∙ length-append g.keys (k ∷ []);
  done = ap length done ∙ length-append g.done (d ∷ []);
}

adds-applied : (u : Upload) (g : Progress) (k : Key) (content : Option (Content ℕ)) (tags : List Tag) → Adds 1 g (applied u g k content tags)
adds-applied u g k content tags = adds-push g (applied u g k content tags) k (Applied (count g.elements k + 1)) refl refl

adds-skipped : (g : Progress) (k : Key) → Adds 1 g (skipped g k)
adds-skipped g k = adds-push g (skipped g k) k (Skipped (count g.elements k)) refl refl

-- one of each for each operation that is passed
pub adds-operate : (u : Upload) (g : Progress) (o : Op) (h : Progress) → operate u g o ≡ Ok h → Adds 1 g h
adds-operate u g o h e = passed-operate u g (λ (p : Progress). Adds 1 g p) o h (record {
  creates = λ content tags a visible. adds-applied u g (next_key g.elements (kind_of content)) (Some (with_ids g.keys content)) tags;
  modifies = λ name k content tags a named visible. adds-applied u g k (Some (with_ids g.keys content)) tags;
  deletes = λ kind name k named unused. adds-applied u g k None [];
  skips = λ kind name k named. adds-skipped g k;
}) e

pub adds-operate_all : (u : Upload) (g : Progress) (ops : List Op) (h : Progress) → operate_all u g ops ≡ Ok h → Adds (length ops) g h
adds-operate_all u g [] h e =
    let same : g ≡ h = Ok-same g h e in
    subst (λ (p : Progress). Adds 0 g p) same (record { keys = omega arith; done = omega arith })
adds-operate_all u g (o ∷ ops) h e =
    let step = bind-Ok (operate u g o) (λ (next : Progress). operate_all u next ops) h e in
    let one = adds-operate u g o step.0 step.1 in
    let rest = adds-operate_all u step.0 ops h step.2 in
    record { keys = omega (arith, one.keys, rest.keys); done = omega (arith, one.done, rest.done) }
