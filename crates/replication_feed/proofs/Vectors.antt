-- Worked texts, computed.
use Rattle.std.proofs.Common.{◌≡◌, false, [], ◌++◌, codes, get_or, None, refl, ap, arith}
use Rattle.std.specs.Fmt.{digits}
use Rattle.json.specs.Print.{escape_byte}
use Rattle.osm_json.specs.Rows.{tags}
use Rattle.osm_json.specs.Shown.{record_of}
use Rattle.osm_json.specs.Moment.{span_from, day_text, clock_text, stamp_text}
use Rattle.osm_model.specs.declared.commands.Command.TheVariants.{CreateChangeset}
use Rattle.osm_model.specs.declared.commands.Entry.{Entry}
use Rattle.journal_text.specs.Line.{command, user, line_data}
use Rattle.replication_feed.specs.Piece.{piece}
use Rattle.replication_feed.specs.Text.{text_of, state_text}
use Rattle.replication_feed.specs.declared.pieces.Piece.{Piece}

abbrev by_alice : Entry
by_alice = record {
  session = 0;
  call = 2;
  user = record { id = 1; name = codes "alice"; moderator = false; limit = None };
  stamp = 1700000000;
  command = CreateChangeset [] None;
}

second_piece :
    text_of (piece 2 by_alice)
    ≡ codes "{\"entry\":{\"at\":1700000000,\"call\":2,\"command\":{\"act\":\"create_changeset\",\"tags\":{}},\"session\":0,"
    ++ codes "\"user\":{\"id\":1,\"moderator\":false,\"name\":\"alice\"}},\"number\":2,\"version\":2}"
unfolding digits escape_byte record_of tags command user line_data
second_piece = refl

two_entries : state_text 2 1700000000 ≡ codes "{\"sequenceNumber\":2,\"timestamp\":\"2023-11-14T22:13:20Z\"}"
unfolding digits span_from day_text clock_text stamp_text
two_entries = refl

no_entry : state_text 0 0 ≡ codes "{\"sequenceNumber\":0,\"timestamp\":\"1970-01-01T00:00:00Z\"}"
unfolding digits span_from day_text clock_text stamp_text
no_entry = refl

-- no piece has this text
empty_object : (p : Piece) → codes "{}" ≡ text_of p → ⊥
empty_object p e = let byte : 125 ≡ 34 = ap (λ text. get_or text 1 0) e in omega (arith, byte)
