-- What is legal by the map's rules is so by those of its machine.
use Rattle.std.proofs.Common.{◌≡◌, ℕ, ◌+◌, ◌&&◌, ◌==◌, Bool, true, false, List, [], ◌∷◌, ◌++◌, sym, refl, ap, ◌∙◌}
use Rattle.std.proofs.lemmas.Bool.{true≢false}
use Rattle.hub_core.specs.Journal.{is_numbered as numbered_by}
use Rattle.hub_core.proofs.Numbers.{numbered_first}
use Rattle.machine_law.specs.Rules.{is_legal, is_legal_from as legal_by}
use Rattle.osm_model.specs.Journal.{IsLegal, is_legal_from, is_numbered, takes, after, calls_of}
use Rattle.osm_model.specs.State.{empty}
use Rattle.osm_model.specs.declared.commands.Entry.{Entry}
use Rattle.osm_model.specs.declared.states.State.{State}
use Rattle.map_machine.specs.Machine.{map_rules, tag_of}

legal_same : (P : State) (es : List Entry) → legal_by map_rules P es ≡ is_legal_from P es
legal_same P [] = refl
legal_same P (e ∷ es) = ap (λ (b : Bool). takes P e && b) (legal_same (after P e) es)

numbered_same : (before es : List Entry) → numbered_by tag_of before es ≡ is_numbered before es
numbered_same before [] = refl
numbered_same before (e ∷ es) = ap (λ (b : Bool). (e.call == calls_of e.session before + 1) && b) (numbered_same (before ++ e ∷ []) es)

-- entries that the machine's rules refuse, whatever comes behind them, are the beginning of nothing legal
pub refused : (es : List Entry) → ((more : List Entry) → is_legal map_rules (es ++ more) ≡ false) → (more : List Entry) → IsLegal (es ++ more) → ⊥
refused es never more legal = true≢false (sym legal.taken ∙ sym (legal_same empty (es ++ more)) ∙ never more)

-- nor are entries that are not numbered
pub unnumbered : (es : List Entry) → numbered_by tag_of [] es ≡ false → (more : List Entry) → IsLegal (es ++ more) → ⊥
unnumbered es never more legal = true≢false (sym (numbered_first tag_of [] es more (numbered_same [] (es ++ more) ∙ legal.numbered)) ∙ never)
