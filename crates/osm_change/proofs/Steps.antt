-- Where the steps of one operation stop.
use Rattle.std.proofs.Common.{◌≡◌, inl, inr, ℕ, zero, suc, Bool, false, cond, is_some, ℤ, pos, negsuc, w64, Option, Some, None, Result, Ok, Err, refl, sym, ap, ◌∙◌, arith, true≢false}
use Rattle.std.specs.Prelude.{int_lt}
use Rattle.std.proofs.lemmas.Int.{ints}
use Rattle.std.proofs.lemmas.Bool.{lt-ltb}
use mir.Val.{SFits}
use Rattle.osm_base.specs.declared.keys.Kind.{Kind}
use Rattle.osm_element.specs.declared.contents.Content.{Content}
use Rattle.osm_element.specs.declared.contents.RawContent.{RawContent}
use Rattle.osm_base.specs.Outcome.{◌>>=◌, unless}
use Rattle.osm_change.specs.Outcome.{Gives}
use Rattle.osm_change.specs.Build.{Look, IsReference, free_placeholder, name_of, content_named, content_unless, local_cause, version_named, created, modified, deleted}
use Rattle.osm_change.specs.declared.causes.Cause.{Cause}
use Rattle.osm_change.specs.declared.causes.Cause.TheVariants.{NoVersion, DoublePlaceholder}
use Rattle.osm_change.specs.declared.raw.RawOp.{RawOp}
use Rattle.osm_change.specs.declared.operations.Name.{Name}
use Rattle.osm_change.specs.declared.operations.Op.{Op}
use Rattle.osm_change.specs.declared.operations.Op.TheVariants.{Create, Modify, Delete}

err-same : {A B : Type 0} (c d : Cause) → ◌≡◌ {A = Result A Cause} (Err c) (Err d) → ◌≡◌ {A = Result B Cause} (Err c) (Err d)
err-same c d e = let same : c ≡ d = cc in ap Err same

content-stops : (named : Result (Content Name) Cause) (later : Option Cause) (f : Content Name → Op) (cause : Cause) → (named >>= (λ n. unless later (Ok n))) ≡ Err cause → (named >>= (λ n. unless later (Ok (f n)))) ≡ Err cause
content-stops (Err c) later f cause e = err-same c cause e
content-stops (Ok n) None f cause e = absurd (cc)
content-stops (Ok n) (Some c) f cause e = err-same c cause e

pub created-stops : (look : Look) (r : RawOp) (content : RawContent) (later : Option Cause) (cause : Cause) (placeholder : _) → free_placeholder look r.kind r.id ≡ Ok placeholder → later ≡ local_cause r.tags content → Gives (content_unless look content later) (Err cause) → Gives (created look r content) (Err cause)
created-stops look r content later cause placeholder free local (inl m) = inl m
created-stops look r content later cause placeholder free local (inr e) =
    let stop = content-stops (content_named look content) (local_cause r.tags content) (λ n. Create placeholder n r.tags) cause (ap (λ l. content_unless look content l) (sym local) ∙ e) in
    inr (ap (λ p. p >>= (λ placeholder. content_named look content >>= (λ n. unless (local_cause r.tags content) (Ok (Create placeholder n r.tags))))) free ∙ stop)

-- the causes that count where each reference has a name
abbrev pub later_of : Option ℕ → Option Cause → Option Cause
later_of None local = Some NoVersion
later_of (Some version) local = local

version-stops : (named : Result (Content Name) Cause) (version : Option ℕ) (local : Option Cause) (f : Content Name → ℕ → Op) (cause : Cause) → (named >>= (λ n. unless (later_of version local) (Ok n))) ≡ Err cause → (named >>= (λ n. version_named version >>= (λ v. unless local (Ok (f n v))))) ≡ Err cause
version-stops (Err c) version local f cause e = err-same c cause e
version-stops (Ok n) None local f cause e = err-same NoVersion cause e
version-stops (Ok n) (Some v) None f cause e = absurd (cc)
version-stops (Ok n) (Some v) (Some c) f cause e = err-same c cause e

pub modified-stops : (look : Look) (r : RawOp) (content : RawContent) (later : Option Cause) (cause : Cause) (name : Name) → name_of look r.kind r.id ≡ Ok name → later ≡ later_of r.version (local_cause r.tags content) → Gives (content_unless look content later) (Err cause) → Gives (modified look r content) (Err cause)
modified-stops look r content later cause name named local (inl m) = inl m
modified-stops look r content later cause name named local (inr e) =
    let stop = version-stops (content_named look content) r.version (local_cause r.tags content) (λ n v. Modify name v n r.tags) cause (ap (λ l. content_unless look content l) (sym local) ∙ e) in
    inr (ap (λ p. p >>= (λ name. content_named look content >>= (λ n. version_named r.version >>= (λ v. unless (local_cause r.tags content) (Ok (Modify name v n r.tags)))))) named ∙ stop)

-- where an operation's own step is passed, and where it isn't
version-goes : (named : Result (Content Name) Cause) (version : ℕ) (local : Option Cause) (made : Content Name) (f : Content Name → ℕ → Op) → (named >>= (λ n. unless (later_of (Some version) local) (Ok n))) ≡ Ok made → (named >>= (λ n. version_named (Some version) >>= (λ v. unless local (Ok (f n v))))) ≡ Ok (f made version)
version-goes (Err c) version local made f e = absurd (cc)
version-goes (Ok n) version None made f e = let same : n ≡ made = cc in ap (λ n. Ok (f n version)) same
version-goes (Ok n) version (Some c) made f e = absurd (cc)

pub modified-goes : (look : Look) (r : RawOp) (content : RawContent) (later : Option Cause) (name : Name) (made : Content Name) (version : ℕ) → name_of look r.kind r.id ≡ Ok name → later ≡ later_of r.version (local_cause r.tags content) → content_unless look content later ≡ Ok made → r.version ≡ Some version → modified look r content ≡ Ok (Modify name version made r.tags)
modified-goes look r content later name made version named local e ver =
    let passed = ap (λ v. content_unless look content (later_of v (local_cause r.tags content))) (sym ver) ∙ ap (λ l. content_unless look content l) (sym local) ∙ e in
    ap (λ p. p >>= (λ name. content_named look content >>= (λ n. version_named r.version >>= (λ v. unless (local_cause r.tags content) (Ok (Modify name v n r.tags)))))) named
    ∙ ap (λ version. content_named look content >>= (λ n. version_named version >>= (λ v. unless (local_cause r.tags content) (Ok (Modify name v n r.tags))))) ver
    ∙ version-goes (content_named look content) version (local_cause r.tags content) made (λ n v. Modify name v n r.tags) passed

pub modified-unnamed : (look : Look) (r : RawOp) (content : RawContent) (cause : Cause) → name_of look r.kind r.id ≡ Err cause → modified look r content ≡ Err cause
modified-unnamed look r content cause e =
    ap (λ p. p >>= (λ name. content_named look content >>= (λ n. version_named r.version >>= (λ v. unless (local_cause r.tags content) (Ok (Modify name v n r.tags)))))) e

refused : (named : Result (Content Name) Cause) (cause : Cause) (made : Content Name) → (named >>= (λ n. unless (Some cause) (Ok n))) ≡ Ok made → ⊥
refused (Err c) cause made e = cc
refused (Ok n) cause made e = cc

pub versioned : (look : Look) (content : RawContent) (later : Option Cause) (made : Content Name) (version : Option ℕ) (local : Option Cause) → later ≡ later_of version local → content_unless look content later ≡ Ok made → version ≡ None → ⊥
versioned look content later made version local by e none =
    refused (content_named look content) NoVersion made (ap (λ v. content_unless look content (later_of v local)) (sym none) ∙ ap (λ l. content_unless look content l) (sym by) ∙ e)

pub deleted-unnamed : (look : Look) (r : RawOp) (if_unused : Bool) (cause : Cause) → name_of look r.kind r.id ≡ Err cause → deleted look r if_unused ≡ Err cause
deleted-unnamed look r if_unused cause e = ap (λ p. p >>= (λ name. version_named r.version >>= (λ version. Ok (Delete r.kind name version if_unused)))) e

pub deleted-goes : (look : Look) (r : RawOp) (if_unused : Bool) (name : Name) (version : ℕ) → name_of look r.kind r.id ≡ Ok name → r.version ≡ Some version → deleted look r if_unused ≡ Ok (Delete r.kind name version if_unused)
deleted-goes look r if_unused name version named ver =
    ap (λ p. p >>= (λ name. version_named r.version >>= (λ version. Ok (Delete r.kind name version if_unused)))) named
    ∙ ap (λ v. version_named v >>= (λ version. Ok (Delete r.kind name version if_unused))) ver

pub reference-fits : (id : ℤ) → IsReference id → SFits w64 id
reference-fits (pos n) r = record { sfits = let high = r.high in omega (arith, ints) }
reference-fits (negsuc n) r = record { sfits = let low = r.low in omega (arith, ints) }

pub free-when : (look : Look) (kind : Kind) (id : ℤ) → IsReference id → int_lt (pos 0) id ≡ false → is_some (look kind id) ≡ false → free_placeholder look kind id ≡ Ok id
free-when look kind (pos zero) r le none = absurd (r.some refl)
free-when look kind (pos (suc n)) r le none = absurd (true≢false (sym (lt-ltb 0 (suc n) (omega arith)) ∙ le))
free-when look kind (negsuc n) r le none = ap (λ b. cond b (Err DoublePlaceholder) (Ok (negsuc n))) none
