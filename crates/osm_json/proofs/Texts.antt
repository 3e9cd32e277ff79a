-- The entries of an object as the members that `serde_json` reads.
use Rattle.std.proofs.Common.{◌≡◌, ℕ, List, [], ◌∷◌, ◌++◌, Option, Some, None, Ordering, Less, Equal, Greater, refl, sym, ap, ◌∙◌}
use Rattle.std.specs.FinMap.Entries.{put as put_entry, by_order}
use Rattle.std.specs.Ordering.{match_ordering}
use Rattle.serde_json.specs.Data.{Data, null, string, Members, no_members, member, put}
use Rattle.serde_json.specs.Find.{as_str}
use Rattle.osm_json.specs.Entries.{Entry, name_cmp, gather, text_pairs}
use Rattle.osm_json.specs.Reading.{◌>>=◌, pairs_of}
use Rattle.osm_json.proofs.Gathered.{gather_push}

-- a text, and nothing for what is no text
abbrev text_data : Option (List ℕ) → Data
text_data None = null
text_data (Some text) = string text

-- the members, with nothing in the place of what is no text
abbrev only_texts : Members → Members
only_texts no_members = no_members
only_texts (member k d ms) = member k (text_data (as_str d)) (only_texts ms)

abbrev texts_view : List Entry → Members
texts_view [] = no_members
texts_view (e ∷ es) = member e.0 (text_data e.1) (texts_view es)

only_texts-match : (o : Ordering) (a b c : Members) → only_texts (match_ordering o a b c) ≡ match_ordering o (only_texts a) (only_texts b) (only_texts c)
only_texts-match Less a b c = refl
only_texts-match Equal a b c = refl
only_texts-match Greater a b c = refl

only_texts-put : (k : List ℕ) (d : Data) (ms : Members) → only_texts (put k d ms) ≡ put k (text_data (as_str d)) (only_texts ms)
only_texts-put k d no_members = refl
only_texts-put k d (member l e ms) = only_texts-match (name_cmp k l) _ _ _ ∙ rw (only_texts-put k d ms) refl

texts_view-order : (o : Ordering) (a b c : List Entry) → texts_view (by_order o a b c) ≡ match_ordering o (texts_view a) (texts_view b) (texts_view c)
texts_view-order Less a b c = refl
texts_view-order Equal a b c = refl
texts_view-order Greater a b c = refl

texts_view-put : (k : List ℕ) (t : Option (List ℕ)) (es : List Entry) → texts_view (put_entry name_cmp k t es) ≡ put k (text_data t) (texts_view es)
texts_view-put k t [] = refl
texts_view-put k t (e ∷ es) = texts_view-order (name_cmp k e.0) _ _ _ ∙ rw (texts_view-put k t es) refl

as_str-text_data : (text : Option (List ℕ)) → as_str (text_data text) ≡ text
as_str-text_data None = refl
as_str-text_data (Some text) = refl

with_text : (key : List ℕ) (text same : Option (List ℕ)) (rest others : Option (List (List ℕ × List ℕ))) → text ≡ same → rest ≡ others
    → (text >>= λ t. rest >>= λ pairs. Some ((key, t) ∷ pairs)) ≡ (same >>= λ t. others >>= λ pairs. Some ((key, t) ∷ pairs))
with_text key text same rest others e f = rw (e, f) refl

pairs_of-only_texts : (ms : Members) → pairs_of (only_texts ms) ≡ pairs_of ms
pairs_of-only_texts no_members = refl
pairs_of-only_texts (member k d ms) = with_text k _ (as_str d) _ (pairs_of ms) (as_str-text_data (as_str d)) (pairs_of-only_texts ms)

pairs_of-texts_view : (es : List Entry) → text_pairs es ≡ pairs_of (texts_view es)
pairs_of-texts_view [] = refl
pairs_of-texts_view (e ∷ es) = with_text e.0 e.1 _ (text_pairs es) _ (sym (as_str-text_data e.1)) (pairs_of-texts_view es)

-- what was gathered of the entries is what the members have of texts
pub record IsRead (es : List Entry) (ms : Members) : Type 0 where
  pub same : texts_view (gather [] es) ≡ only_texts ms

pub none_read : (es : List Entry) → es ≡ [] → IsRead es no_members
none_read es nothing = record { same = ap (λ (es : List Entry). texts_view (gather [] es)) nothing }

-- one more member, with the text that it has
pub text_put : (old found : List Entry) (key : List ℕ) (t : Option (List ℕ)) (d : Data) (ms : Members) → IsRead old ms → t ≡ as_str d → found ≡ old ++ (key, t) ∷ [] → IsRead found (put key d ms)
text_put old found key t d ms read same more =
    record {
      same = ap (λ (es : List Entry). texts_view (gather [] es)) more
          ∙ ap texts_view (gather_push [] old (key, t))
          ∙ texts_view-put key t (gather [] old)
          ∙ ap (λ (text : Option (List ℕ)). put key (text_data text) (texts_view (gather [] old))) same
          ∙ ap (put key (text_data (as_str d))) read.same
          ∙ sym (only_texts-put key d ms);
    }

pub texts_read : (found : List Entry) (ms : Members) → IsRead found ms → pairs_of ms ≡ text_pairs (gather [] found)
texts_read found ms read = sym (pairs_of-texts_view (gather [] found) ∙ ap pairs_of read.same ∙ pairs_of-only_texts ms)

-- ---- the pairs, one after the other

abbrev Pairs : Type 0
Pairs = List (List ℕ × List ℕ)

abbrev joined : Option Pairs → Option Pairs → Option Pairs
joined front rest = front >>= λ ps. rest >>= λ qs. Some (ps ++ qs)

joined_none : (rest : Option Pairs) → rest ≡ joined (Some []) rest
joined_none None = refl
joined_none (Some qs) = refl

joined_more : (p : List ℕ × List ℕ) (front rest : Option Pairs) → (joined front rest >>= λ ps. Some (p ∷ ps)) ≡ joined (front >>= λ ps. Some (p ∷ ps)) rest
joined_more p None rest = refl
joined_more p (Some ps) None = refl
joined_more p (Some ps) (Some qs) = refl

with_first : (key : List ℕ) (text : Option (List ℕ)) (both front rest : Option Pairs) → both ≡ joined front rest
    → (text >>= λ t. both >>= λ ps. Some ((key, t) ∷ ps)) ≡ joined (text >>= λ t. front >>= λ ps. Some ((key, t) ∷ ps)) rest
with_first key None both front rest e = refl
with_first key (Some t) both front rest e = ap (λ o. o >>= λ ps. Some ((key, t) ∷ ps)) e ∙ joined_more (key, t) front rest

text_pairs-append : (front rest : List Entry) → text_pairs (front ++ rest) ≡ joined (text_pairs front) (text_pairs rest)
text_pairs-append [] rest = joined_none (text_pairs rest)
text_pairs-append (e ∷ front) rest = with_first e.0 e.1 (text_pairs (front ++ rest)) (text_pairs front) (text_pairs rest) (text_pairs-append front rest)

-- one more name with its text
pub pairs_more : (front : List Entry) (pairs : Pairs) (key text : List ℕ) → text_pairs front ≡ Some pairs → text_pairs (front ++ (key, Some text) ∷ []) ≡ Some (pairs ++ (key, text) ∷ [])
pairs_more front pairs key text e = text_pairs-append front ((key, Some text) ∷ []) ∙ rw e refl

-- a name with no text
pub pairs_none : (front : List Entry) (pairs : Pairs) (key : List ℕ) (rest : List Entry) → text_pairs front ≡ Some pairs → text_pairs (front ++ (key, None) ∷ rest) ≡ None
pairs_none front pairs key rest e = text_pairs-append front ((key, None) ∷ rest) ∙ rw e refl
