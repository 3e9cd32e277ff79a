-- Serving a link by a new mirror.
use Rattle.std.proofs.Common.{◌≡◌, List, [], refl, subst, sym, ◌∙◌}
use Rattle.osm_base.specs.declared.limits.TheConstants.{PIECE_LIMIT}
use Rattle.osm_outside.specs.Told.{Told}
use Rattle.osm_model.specs.declared.commands.Entry.{Entry}
use Rattle.osm_model.specs.Journal.{IsLegal}
use Rattle.http_link.specs.declared.end.LinkEnd.{LinkEnd}
use Rattle.http_link.specs.declared.end.LinkEnd.TheVariants.{Memory}
use Rattle.http_link.specs.Exchange.{Exchange, Chain}
use Rattle.http_link.specs.Link.{TellsAll}
use Rattle.mirror_desk.specs.Desk.{AtMirror, Allows, MirrorHasServed}
use Rattle.mirror_desk.specs.declared.setting.MirrorSetting.{MirrorSetting}
use Rattle.server_frame.specs.OnLink.{AnswersLinkWithin, OnLinkWithin}
use Rattle.mirror_serve.specs.Serve.{ServesMirror}

-- what a desk's relation over a whole link comes to
abbrev pub Chains : Type 0
Chains = (old : AtMirror) (exchanges : List Exchange) (new : AtMirror) → Chain Allows old exchanges new
    → (new.setting ≡ old.setting) × MirrorHasServed old.setting old.entries exchanges new.entries

-- no entry is illegal
nothing_legal : IsLegal []
nothing_legal = record { taken = refl; numbered = refl }

abbrev begun : MirrorSetting → AtMirror
begun setting = record { setting = setting; entries = [] }

from_begun : (setting : MirrorSetting) (new : AtMirror) (before after : Told) (end : LinkEnd) → Chains
    → AnswersLinkWithin PIECE_LIMIT Allows (begun setting) new before after end → TellsAll end → ServesMirror setting before after end
from_begun setting new before after end chains answers tells =
    let served = (chains (begun setting) answers.exchanges new answers.answered).1 in
    record {
      exchanges = answers.exchanges;
      link = answers.link;
      tells = tells;
      entries = new.entries;
      legal = served.legal nothing_legal;
      served = served;
    }

pub mirror_served : (setting : MirrorSetting) (entries : List Entry) (desk new : AtMirror) (before after : Told) (end : LinkEnd) → Chains
    → entries ≡ [] → desk ≡ record { setting = setting; entries = entries } → AnswersLinkWithin PIECE_LIMIT Allows desk new before after end
    → TellsAll end → ServesMirror setting before after end
mirror_served setting entries desk new before after end chains empty is answers tells =
    let at : desk ≡ begun setting = is ∙ (λ i. record { setting = setting; entries = empty i }) in
    from_begun setting new before after end chains
    (subst (λ (d : AtMirror). AnswersLinkWithin PIECE_LIMIT Allows d new before after end) at answers) tells

-- there was no memory for the desk
pub mirror_unserved : (setting : MirrorSetting) (told : Told) → ((t : Told) → OnLinkWithin PIECE_LIMIT t t [] Memory) → ServesMirror setting told told Memory
mirror_unserved setting told alone = record {
  exchanges = [];
  link = alone told;
  tells = tt;
  entries = [];
  legal = nothing_legal;
  served = record { answered = refl; more = []; grown = refl; legal = λ legal. legal };
}
