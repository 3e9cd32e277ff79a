use Rattle.http_link.proofs.InputLemmas.{WireLaws, AgreesWithBytes-from_turns}
use Rattle.http_link.proofs.law.bytes_tell_the_end.Goals as goal

pub returns : goal.returns
returns c =
    λ body_limit.
    let laws : WireLaws body_limit = record {
      one_message = c.one_message.ensures body_limit;
      no_empty_message = c.no_empty_message.ensures body_limit;
      no_end = c.no_end_at_a_message.ensures body_limit;
      message_stays = c.message_stays.ensures body_limit;
      end_stays = c.end_stays.ensures body_limit;
      one_reading = c.one_reading.ensures body_limit;
      some_reading = c.some_reading.ensures body_limit;
    } in
    λ before after turns left ending end read consumed facts.
    AgreesWithBytes-from_turns body_limit laws before after turns left ending read consumed end facts
