-- The entries of pieces, and what their texts give back.
use Rattle.std.proofs.Common.{◌≡◌, ℕ, zero, suc, ◌+◌, ◌≤◌, ◌^◌, List, [], ◌∷◌, length, take, refl, ap, ◌∙◌, arith}
use Rattle.std.specs.Prelude.{All, map}
use Rattle.std.proofs.lemmas.List.Elements.{All-cons, All-head, All-nil, All-tail}
use Rattle.osm_model.specs.Journal.{replay}
use Rattle.osm_model.specs.declared.commands.Entry.{Entry}
use Rattle.journal_text.specs.Line.{IsEntry}
use Rattle.replication_feed.specs.Piece.{piece, pieces_from, pieces, entries_in, IsPiece, IsFeed, IsPieceText, AreTextsOf}
use Rattle.replication_feed.specs.Text.{text_of}
use Rattle.replication_feed.specs.declared.pieces.Piece.{Piece}

entries_taken : (number : ℕ) (journal : List Entry) (n : ℕ) → entries_in (take n (pieces_from number journal)) ≡ take n journal
entries_taken number [] zero = refl
entries_taken number [] (suc n) = refl
entries_taken number (e ∷ es) zero = refl
entries_taken number (e ∷ es) (suc n) = ap (λ more. e ∷ more) (entries_taken (number + 1) es n)

-- each piece is of its type, and has its text
typed_from : (number : ℕ) (journal : List Entry) → 1 ≤ number → All IsEntry journal → number + length journal ≤ 2 ^ 64 → All IsPiece (pieces_from number journal)
typed_from number [] counted typed within = All-nil IsPiece
typed_from number (e ∷ es) counted typed within =
    All-cons IsPiece (piece number e) (pieces_from (number + 1) es)
    (record { counted = counted; fits = omega (arith, within); entry = All-head IsEntry e es typed })
    (typed_from (number + 1) es (omega (arith, counted)) (All-tail IsEntry e es typed) (omega (arith, within)))

pub are_pieces : (journal : List Entry) → IsFeed journal → All IsPiece (pieces journal)
are_pieces journal feed = let within = feed.counted in typed_from 1 journal (omega arith) feed.typed (omega (arith, within))

texts_of : (ps : List Piece) → All IsPiece ps → AreTextsOf (map text_of ps) ps
texts_of [] typed = tt
texts_of (p ∷ ps) typed = (record { typed = All-head IsPiece p ps typed; is = refl }, texts_of ps (All-tail IsPiece p ps typed))

pub have_texts : (journal : List Entry) → IsFeed journal → AreTextsOf (map text_of (pieces journal)) (pieces journal)
have_texts journal feed = texts_of (pieces journal) (are_pieces journal feed)

module _ (tell : (text : List ℕ) (p other : Piece) → IsPieceText text p → IsPieceText text other → p ≡ other) where
  read_same : (texts : List (List ℕ)) (found given : List Piece) → AreTextsOf texts given → AreTextsOf texts found → found ≡ given
  read_same [] [] [] of also = refl
  read_same [] [] (p ∷ ps) of also = absurd of
  read_same [] (f ∷ fs) given of also = absurd also
  read_same (t ∷ ts) found [] of also = absurd of
  read_same (t ∷ ts) [] (p ∷ ps) of also = absurd also
  read_same (t ∷ ts) (f ∷ fs) (p ∷ ps) of also = λ i. tell t f p also.0 of.0 i ∷ read_same ts fs ps of.1 also.1 i

  pub gives_pieces : (journal : List Entry) (n : ℕ) (texts : List (List ℕ)) (found : List Piece) → AreTextsOf texts (take n (pieces journal)) → AreTextsOf texts found → found ≡ take n (pieces journal)
  gives_pieces journal n texts found of also = read_same texts found (take n (pieces journal)) of also

  pub gives_entries : (journal : List Entry) (n : ℕ) (texts : List (List ℕ)) (found : List Piece) → AreTextsOf texts (take n (pieces journal)) → AreTextsOf texts found → entries_in found ≡ take n journal
  gives_entries journal n texts found of also = ap entries_in (gives_pieces journal n texts found of also) ∙ entries_taken 1 journal n

  pub gives_state : (journal : List Entry) (n : ℕ) (texts : List (List ℕ)) (found : List Piece) → AreTextsOf texts (take n (pieces journal)) → AreTextsOf texts found → replay (entries_in found) ≡ replay (take n journal)
  gives_state journal n texts found of also = ap replay (gives_entries journal n texts found of also)
