-- How a link ends where its wire does, and what is answered then.
use Rattle.std.specs.Prelude.{ℕ, List, [], true, codes, ⊤}
use Rattle.http_wire.specs.declared.end.WireEnd.{WireEnd}
use Rattle.http_wire.specs.declared.end.WireEnd.TheVariants.{End, Truncated, BadHead, HeadLong, BadLength, BodyLong, Coded, ReadFault, Memory}
use Rattle.http_wire.specs.Reply.{reply}
use Rattle.http_link.specs.declared.end.LinkEnd.{LinkEnd}
use Rattle.http_link.specs.declared.end.LinkEnd.TheVariants as ends
use Rattle.http_link.specs.Desk.{memory_body}

-- the bytes of the reply to an end: none where the input or reading ended
abbrev pub refusal : WireEnd → List ℕ
refusal End = []
refusal Truncated = []
refusal BadHead = reply 400 (codes "{\"error\":\"bad_head\"}") true
refusal HeadLong = reply 431 (codes "{\"error\":\"head_long\"}") true
refusal BadLength = reply 400 (codes "{\"error\":\"bad_length\"}") true
refusal BodyLong = reply 413 (codes "{\"error\":\"body_long\"}") true
refusal Coded = reply 501 (codes "{\"error\":\"coded\"}") true
refusal ReadFault = []
refusal Memory = reply 503 memory_body true

-- how the link ends where its wire does
abbrev pub end_of : WireEnd → LinkEnd
end_of End = ends.Ended
end_of Truncated = ends.Refused Truncated
end_of BadHead = ends.Refused BadHead
end_of HeadLong = ends.Refused HeadLong
end_of BadLength = ends.Refused BadLength
end_of BodyLong = ends.Refused BodyLong
end_of Coded = ends.Refused Coded
end_of ReadFault = ends.ReadFault
end_of Memory = ends.Memory

-- The end is one that refuses what came in the place of a message.
abbrev pub IsRefusal : WireEnd → Type 0
IsRefusal End = ⊥
IsRefusal ReadFault = ⊥
IsRefusal Memory = ⊥
IsRefusal other = ⊤
