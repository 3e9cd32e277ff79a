-- A whole link at a desk.
use Rattle.std.proofs.Common.{◌≡◌, ℕ, List, [], ◌∷◌, ◌++◌, ◌⊎◌, ⊎_elim, refl, sym, ap, ◌∙◌, subst, append_assoc, append-nil}
use Rattle.osm_model.specs.declared.commands.Entry.{Entry}
use Rattle.http_link.specs.Exchange.{Exchange, Chain}
use Rattle.mirror_desk.specs.Answers.{HasOneMore}
use Rattle.mirror_desk.specs.Desk.{AtMirror, Allows, MirrorHasServed}
use Rattle.mirror_desk.specs.declared.setting.MirrorSetting.{MirrorSetting}

-- the entries that came behind the old ones
more_in : (old new : List Entry) → (new ≡ old) ⊎ HasOneMore old new → (more : List Entry) × (new ≡ old ++ more)
more_in old new = ⊎_elim (λ same. ([], same ∙ sym (append-nil old))) (λ more. (more.entry ∷ [], more.is))

none_served : (old new : AtMirror) → new ≡ old → (new.setting ≡ old.setting) × MirrorHasServed old.setting old.entries [] new.entries
none_served old new same = subst (λ (n : AtMirror). (n.setting ≡ old.setting) × MirrorHasServed old.setting old.entries [] n.entries) (sym same) (
  refl,
  record { answered = refl; more = []; grown = sym (append-nil old.entries); legal = λ legal. legal },
)

one_more : (old mid new : AtMirror) (e : Exchange) (es : List Exchange)
    → Allows old e.message e.moment e.answer mid
    → (new.setting ≡ mid.setting) × MirrorHasServed mid.setting mid.entries es new.entries
    → (new.setting ≡ old.setting) × MirrorHasServed old.setting old.entries (e ∷ es) new.entries
one_more old mid new e es allowed rest =
    let served : MirrorHasServed old.setting mid.entries es new.entries = subst (λ (setting : MirrorSetting). MirrorHasServed setting mid.entries es new.entries) allowed.setting rest.1 in
    let own = more_in old.entries mid.entries allowed.answers.grown in (
      rest.0 ∙ allowed.setting,
      record {
        answered = (mid.entries, allowed.answers, served.answered);
        more = own.0 ++ served.more;
        grown = served.grown ∙ ap (λ (entries : List Entry). entries ++ served.more) own.1 ∙ append_assoc old.entries own.0 served.more;
        legal = λ legal. served.legal (allowed.answers.legal legal);
      },
    )

-- whatever the exchanges are
pub chain_served : (old : AtMirror) (exchanges : List Exchange) (new : AtMirror) → Chain Allows old exchanges new
    → (new.setting ≡ old.setting) × MirrorHasServed old.setting old.entries exchanges new.entries
chain_served old [] new chain = none_served old new chain
chain_served old (e ∷ es) new chain = one_more old chain.0 new e es chain.1 (chain_served chain.0 es new chain.2)
