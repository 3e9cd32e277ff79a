-- The exchanges of a link, and which of their replies were sent.
use Rattle.std.proofs.Common.{◌≡◌, false, true, List, [], ◌∷◌, ◌++◌, refl, ap}
use Rattle.http_link.specs.Exchange.{Exchange}
use Rattle.http_link.specs.declared.end.LinkEnd.{LinkEnd}
use Rattle.http_link.specs.declared.end.LinkEnd.TheVariants.{Unkept}
use Rattle.kept_desk.specs.Kept.{Sending, exchanges_in, sent_ones, sent_but_last, sendings}

in_sent_ones : (exchanges : List Exchange) → exchanges_in (sent_ones exchanges) ≡ exchanges
in_sent_ones [] = refl
in_sent_ones (e ∷ exchanges) = ap (λ (l : List Exchange). e ∷ l) (in_sent_ones exchanges)

in_sent_but_last : (exchanges : List Exchange) → exchanges_in (sent_but_last exchanges) ≡ exchanges
in_sent_but_last [] = refl
in_sent_but_last (e ∷ []) = refl
in_sent_but_last (e ∷ f ∷ exchanges) = ap (λ (l : List Exchange). e ∷ l) (in_sent_but_last (f ∷ exchanges))

pub in_sendings : (end : LinkEnd) (exchanges : List Exchange) → exchanges_in (sendings end exchanges) ≡ exchanges
in_sendings (Unkept why) exchanges = in_sent_but_last exchanges
in_sendings other exchanges = in_sent_ones exchanges

-- the last one is unsent, whatever is before it
pub sent_but_last-next : (front : List Exchange) (last : Exchange)
    → sent_but_last (front ++ last ∷ []) ≡ sent_ones front ++ record { exchange = last; sent = false } ∷ []
sent_but_last-next [] last = refl
sent_but_last-next (e ∷ []) last = refl
sent_but_last-next (e ∷ f ∷ front) last =
    ap (λ (l : List Sending). record { exchange = e; sent = true } ∷ l) (sent_but_last-next (f ∷ front) last)
