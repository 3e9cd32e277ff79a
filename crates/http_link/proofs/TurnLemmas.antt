-- The clock was read, the desk answered, and the reply was sent.
use Rattle.std.proofs.Common.{◌≡◌, ℕ, List, [], ◌∷◌, ◌++◌, map, Result, Ok, Err, IfSome, refl, sym, ap, subst, ◌∙◌, append_assoc, append-nil, arith}
use Rattle.osm_outside.specs.Event.{Shown, Gave, Took, Answered, Showed}
use Rattle.osm_outside.specs.Told.{Told, Rose}
use Rattle.osm_outside.specs.declared.outside.Failed.{Failed}
use Rattle.http_wire.specs.declared.message.Message.{Message}
use Rattle.http_wire.specs.declared.end.WireEnd.{WireEnd}
use Rattle.http_wire.specs.Reply.{reply}
use Rattle.http_wire.specs.Written.{Written, WrittenWhole, Writes}
use Rattle.http_wire.specs.Wire.{Reads}
use Rattle.http_link.specs.declared.desk.Reply.{Reply}
use Rattle.http_link.specs.Desk.{showing}
use Rattle.http_link.specs.Exchange.{Exchange, Allowing, closes}
use Rattle.http_link.specs.Turns.{ReadsEnd, sending}
use Rattle.http_link.specs.Turn.{Sends, Replies, Holds, Step, Held, exchange_of}

pub record Sent (b c : Told) (text : List ℕ) (result : Result (Unit {0}) Failed) : Type 0 where
  pub pieces : List (List ℕ)
  pub written : Written b c pieces
  pub sends : Sends pieces text result

abbrev sent : (b c : Told) (text : List ℕ) (result : Result (Unit {0}) Failed) → Writes b c text result → Sent b c text result
sent b c text (Ok done) w = record { pieces = w.pieces; written = w.written; sends = w.joined }
sent b c text (Err fault) w = record { pieces = w.pieces; written = w.written; sends = (w.missing, w.joined) }

-- what a link tells that was shown some receipts: they stand behind what had happened, and nothing else is new
record HasShown (shown : List Shown) (a b : Told) : Type 0 where
  pub trace : b.trace ≡ a.trace ++ map Showed shown
  pub fixed : b.fixed ≡ a.fixed
  pub left : b.left ≡ a.left
  pub read_faults : b.read_faults ≡ a.read_faults
  pub write_faults : b.write_faults ≡ a.write_faults

has_shown : (shown : List Shown) (a : Told) → HasShown shown a (showing shown a)
has_shown [] a = record {
  trace = sym (append-nil a.trace);
  fixed = refl;
  left = refl;
  read_faults = refl;
  write_faults = refl;
}
has_shown (s ∷ shown) a =
    let more = has_shown shown (record a { trace = a.trace ++ Showed s ∷ [] }) in
    record {
      trace = more.trace ∙ append_assoc a.trace (Showed s ∷ []) (map Showed shown);
      fixed = more.fixed;
      left = more.left;
      read_faults = more.read_faults;
      write_faults = more.write_faults;
    }

pub Replies-from_parts : {D : Type 0} (by : D → Exchange → D → Type 0) (old new : D) (a b s c : Told)
    (count : ℕ) (message : Message) (moment : ℕ) (answer : Reply) (shown : List Shown) (result : Result (Unit {0}) Failed)
    → b ≡ record a { trace = a.trace ++ (Answered moment ∷ []) } → IfSome a.fixed (λ at. moment ≡ at)
    → s ≡ showing shown b → by old (exchange_of message moment answer shown) new
    → Writes s c (reply answer.status answer.body (closes count message)) result
    → Replies by old new a c count message result
Replies-from_parts by old new a b s c count message moment answer shown result told fixed showed allowed writes =
    let w = sent s c (reply answer.status answer.body (closes count message)) result writes in
    let others = w.written.others in
    let seen : HasShown shown b s = rw showed (has_shown shown b) in
    let trace : b.trace ≡ a.trace ++ (Answered moment ∷ []) = ap (λ (t : Told). t.trace) told in
    let still : b.fixed ≡ a.fixed = ap (λ (t : Told). t.fixed) told in
    let left : b.left ≡ a.left = ap (λ (t : Told). t.left) told in
    let reads : b.read_faults ≡ a.read_faults = ap (λ (t : Told). t.read_faults) told in
    let writes_before : b.write_faults ≡ a.write_faults = ap (λ (t : Told). t.write_faults) told in
    let before : s.trace ≡ a.trace ++ (Answered moment ∷ map Showed shown) =
    seen.trace ∙ ap (λ l. l ++ map Showed shown) trace ∙ append_assoc a.trace (Answered moment ∷ []) (map Showed shown)
    in
    record {
      moment = moment;
      answer = answer;
      shown = shown;
      pieces = w.pieces;
      allowed = allowed;
      trace =
          w.written.trace ∙ ap (λ l. l ++ map Took w.pieces) before
          ∙ append_assoc a.trace (Answered moment ∷ map Showed shown) (map Took w.pieces);
      fixed = fixed;
      stays = others.fixed ∙ seen.fixed ∙ still;
      sends = w.sends;
      input = others.left ∙ seen.left ∙ left;
      read_faults = others.read_faults ∙ seen.read_faults ∙ reads;
      write_faults = omega (arith, others.write_faults, seen.write_faults, writes_before);
    }

-- what is shown is no fault
pub still_rose : (a b s c : Told) (moment : ℕ) (shown : List Shown) → b ≡ record a { trace = a.trace ++ (Answered moment ∷ []) }
    → s ≡ showing shown b → Rose s.write_faults c.write_faults → Rose a.write_faults c.write_faults
still_rose a b s c moment shown told showed rose =
    let same : s.write_faults ≡ a.write_faults =
    ap (λ (t : Told). t.write_faults) showed ∙ (has_shown shown b).write_faults ∙ ap (λ (t : Told). t.write_faults) told
    in
    subst (λ (n : ℕ). Rose n c.write_faults) same rose

-- an end without a reply
pub nothing_written : (a : Told) → WrittenWhole a a []
nothing_written a = record {
  pieces = [];
  written = record {
    trace = sym (append-nil a.trace);
    others = record { left = refl; fixed = refl; read_faults = refl; write_faults = omega arith };
  };
  some = tt;
  joined = refl;
}

-- `body_limit` is the most bytes that a body may have.
module _ (body_limit : ℕ) where
  -- a message was read, and then it was answered
  abbrev pub Step-from_parts : {D : Type 0} (by : D → Exchange → D → Type 0) (old new : D) (a b c : Told)
      (kept left : List ℕ) (count : ℕ) (message : Message) (result : Result (Unit {0}) Failed) → Reads body_limit a b kept (Ok message) left
      → Replies by old new b c count message result → Step body_limit by old new a c kept left count result
  Step-from_parts by old new a b c kept left count message result r s =
      let quiet = r.taken.others in
      record {
        turn = record {
          reads = r.pieces;
          exchange = exchange_of message s.moment s.answer s.shown;
          writes = s.pieces;
        };
        reads = record { needed = r.needed; some = r.stops; begins = r.gives; limit = r.limit };
        trace =
            s.trace ∙ ap (λ l. l ++ (Answered s.moment ∷ sending s.shown s.pieces)) r.taken.trace
            ∙ append_assoc a.trace (map Gave r.pieces) (Answered s.moment ∷ sending s.shown s.pieces);
        input = rw s.input r.taken.input;
        allowed = s.allowed;
        fixed = rw quiet.fixed at s.fixed;
        stays = s.stays ∙ quiet.fixed;
        sends = s.sends;
        read_faults = omega (arith, quiet.read_faults, s.read_faults);
        write_faults = omega (arith, quiet.write_faults, s.write_faults);
      }

  -- a message was read, and then its reply was held back
  pub Held-from_parts : {D : Type 0} (allows : D → Message → ℕ → Reply → D → Type 0) (old new : D) (a b c : Told)
      (kept left : List ℕ) (count : ℕ) (message : Message) (in_place : Failed) → Reads body_limit a b kept (Ok message) left
      → Holds allows old new b c message → Held body_limit allows old new a c kept left count
  Held-from_parts allows old new a b c kept left count message in_place r h =
      let quiet = r.taken.others in
      let trace : c.trace ≡ b.trace ++ (Answered h.moment ∷ []) = ap (λ (t : Told). t.trace) h.told in
      let still : c.fixed ≡ b.fixed = ap (λ (t : Told). t.fixed) h.told in
      let input : c.left ≡ b.left = ap (λ (t : Told). t.left) h.told in
      let reads : c.read_faults ≡ b.read_faults = ap (λ (t : Told). t.read_faults) h.told in
      let writes : c.write_faults ≡ b.write_faults = ap (λ (t : Told). t.write_faults) h.told in
      record {
        in_place = in_place;
        step = record {
          turn = record {
            reads = r.pieces;
            exchange = exchange_of message h.moment h.answer [];
            writes = [];
          };
          reads = record { needed = r.needed; some = r.stops; begins = r.gives; limit = r.limit };
          trace =
              trace ∙ ap (λ l. l ++ (Answered h.moment ∷ [])) r.taken.trace
              ∙ append_assoc a.trace (map Gave r.pieces) (Answered h.moment ∷ []);
          input = rw input r.taken.input;
          allowed = h.allowed;
          fixed = rw quiet.fixed at h.fixed;
          stays = still ∙ quiet.fixed;
          sends = (reply h.answer.status h.answer.body (closes count message), refl);
          read_faults = omega (arith, quiet.read_faults, reads);
          write_faults = omega (arith, quiet.write_faults, writes);
        };
        unshown = refl;
        unsent = refl;
      }

  abbrev pub ReadsEnd-from : (a b : Told) (kept after : List ℕ) (why : WireEnd) (r : Reads body_limit a b kept (Err why) after)
      → ReadsEnd body_limit kept r.pieces why b.left
  ReadsEnd-from a b kept after why r = record {
    needed = r.needed;
    agrees = r.stops;
    limit = r.limit;
    ends = r.gives;
  }
