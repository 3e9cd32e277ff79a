-- The texts of the feed: compact JSON, the members of each object in the byte order of their names.
use Rattle.std.specs.Prelude.{ℕ, List, ◌++◌, codes, decimal}
use Rattle.journal_text.specs.Line.{line}
use Rattle.osm_json.specs.Moment.{stamp_text}
use Rattle.replication_feed.specs.declared.pieces.Piece.{Piece}

-- what stands before an entry's line, between the line and the number, and behind the number
abbrev pub beginning : List ℕ
beginning = codes "{\"entry\":"

abbrev pub middle : List ℕ
middle = codes ",\"number\":"

abbrev pub ending : List ℕ
ending = codes ",\"version\":2}"

abbrev pub numbered : List ℕ → ℕ → List ℕ
numbered line number = beginning ++ line ++ middle ++ decimal number ++ ending

-- `{"entry":E,"number":N,"version":2}`, E being the entry's line in version 2 of the journal's text
abbrev pub text_of : Piece → List ℕ
text_of p = numbered (line p.entry) p.number

-- `{"sequenceNumber":N,"timestamp":"T"}`: how many pieces there are, and the stamp of the last one
abbrev pub state_text : ℕ → ℕ → List ℕ
state_text length last = codes "{\"sequenceNumber\":" ++ decimal length ++ codes ",\"timestamp\":\"" ++ stamp_text last ++ codes "\"}"
