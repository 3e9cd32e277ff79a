-- What a giver of journals' files tells of itself.
use Rattle.std.specs.Prelude.{ℕ, List, [], ◌∷◌, ◌++◌}

-- what it tells, where this is a file
pub record JournalsTold (F : Type 0) : Type 0 where
  -- the paths at which it was asked for a file, in order
  pub paths : List (List ℕ)
  -- the bytes that the files had which it gave, in order
  pub texts : List (List ℕ)
  -- the files that came back, each as it was then
  pub back : List F

module _ {F : Type 0} where
  -- nothing yet
  abbrev pub none_lent : JournalsTold F
  none_lent = record { paths = []; texts = []; back = [] }

  -- it was asked at that path
  abbrev pub asked_at : JournalsTold F → List ℕ → JournalsTold F
  asked_at told path = record told { paths = told.paths ++ path ∷ [] }

  -- it was asked at that path, and gave a file with these bytes
  abbrev pub lent_at : JournalsTold F → List ℕ → List ℕ → JournalsTold F
  lent_at told path text = record told { paths = told.paths ++ path ∷ []; texts = told.texts ++ text ∷ [] }

  -- this file came back
  abbrev pub taken_back : JournalsTold F → F → JournalsTold F
  taken_back told file = record told { back = told.back ++ file ∷ [] }
