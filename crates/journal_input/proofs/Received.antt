-- One read after another.
use Rattle.std.proofs.Common.{◌≡◌, ℕ, ◌<◌, List, [], ◌∷◌, ◌++◌, length, map, Option, refl, sym, ap, ◌∙◌, append_assoc, append-nil, arith}
use Rattle.std.specs.List.{concat}
use Rattle.std.specs.Io.KnownBytes.{IsAtEnd, Consumes, Keeps}
use Rattle.std.proofs.KnownBytes.{Consumes-nil, Consumes-kept, Consumes-trans}
use Rattle.std.proofs.lemmas.List.{map-append}
use Rattle.osm_outside.specs.Event.{Gave}
use Rattle.osm_outside.specs.Told.{Told, OnlyReads}
use Rattle.http_wire.specs.Received.{Taken, HaveBytes, GaveAll}

concat-append : (xs ys : List (List ℕ)) → concat (xs ++ ys) ≡ concat xs ++ concat ys
concat-append [] ys = refl
concat-append (x ∷ xs) ys = ap (λ l. x ++ l) (concat-append xs ys) ∙ sym (append_assoc x (concat xs) (concat ys))

-- one piece more
pub concat-push : (xs : List (List ℕ)) (y : List ℕ) → concat (xs ++ y ∷ []) ≡ concat xs ++ y
concat-push xs y = concat-append xs (y ∷ []) ∙ ap (λ l. concat xs ++ l) (append-nil y)

pub Taken-nil : (a : Told) → Taken a a []
Taken-nil a = record {
  trace = sym (append-nil a.trace);
  input = Consumes-nil a.left;
  others = record { fixed = refl; write_faults = refl; read_faults = omega arith };
}

OnlyReads-trans : (a b c : Told) → OnlyReads a b → OnlyReads b c → OnlyReads a c
OnlyReads-trans a b c p q = record {
  fixed = q.fixed ∙ p.fixed;
  write_faults = q.write_faults ∙ p.write_faults;
  read_faults = omega (arith, p.read_faults, q.read_faults);
}

pub Taken-trans : (a b c : Told) (x y : List (List ℕ)) → Taken a b x → Taken b c y → Taken a c (x ++ y)
Taken-trans a b c x y p q = record {
  trace =
      q.trace ∙ ap (λ l. l ++ map Gave y) p.trace ∙ append_assoc a.trace (map Gave x) (map Gave y)
      ∙ ap (λ l. a.trace ++ l) (sym (map-append Gave x y));
  input = rw (concat-append x y) (Consumes-trans a.left b.left c.left (concat x) (concat y) p.input q.input);
  others = OnlyReads-trans a b c p.others q.others;
}

HaveBytes-append : (x y : List (List ℕ)) → HaveBytes x → HaveBytes y → HaveBytes (x ++ y)
HaveBytes-append [] y p q = q
HaveBytes-append (piece ∷ x) y p q = (p.0, HaveBytes-append x y p.1 q)

pub HaveBytes-push : (x : List (List ℕ)) (piece : List ℕ) → HaveBytes x → 0 < length piece → HaveBytes (x ++ piece ∷ [])
HaveBytes-push x piece p q = HaveBytes-append x (piece ∷ []) p (q, tt)

nothing : (piece : List ℕ) → length piece ≡ 0 → piece ≡ []
nothing [] e = refl
nothing (b ∷ bs) e = absurd (omega arith)

-- the last read found the end of the input
pub GaveAll-push : (x : List (List ℕ)) (piece : List ℕ) (left : Option (List ℕ)) → HaveBytes x → length piece ≡ 0 → IsAtEnd left → GaveAll (x ++ piece ∷ []) left
GaveAll-push x piece left p none at_end = record {
  front = x;
  pieces_are = ap (λ (l : List ℕ). x ++ l ∷ []) (nothing piece none);
  some = p;
  at_end = at_end;
}

-- what a failed read leaves
pub Consumes-kept_none : (a b : Option (List ℕ)) → Keeps a b → Consumes a b []
Consumes-kept_none a b k = Consumes-kept a a b [] (Consumes-nil a) k
