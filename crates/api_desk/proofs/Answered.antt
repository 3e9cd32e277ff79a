-- Rows of the map and of the feed together.
use Rattle.std.proofs.Common.{ℕ, ◌≤◌, inl, inr, ⊎_elim, List, ◌++◌, length, Option, Some, None, refl, sym, ap, ◌∙◌, arith}
use Rattle.std.proofs.lemmas.List.{take-append-le}
use Rattle.osm_model.specs.Answered.{refused, does, reads, Place, IsRow as IsMapsRow}
use Rattle.osm_model.specs.Answered.{Request as MapRequest}
use Rattle.osm_model.specs.declared.commands.Entry.{Entry}
use Rattle.api_desk.specs.declared.feed.FeedCall.{FeedCall}
use Rattle.api_desk.specs.Answered.{AnswersFeed, IsRow}
use Rattle.api_desk.specs.Feed.{Told, fed}
use Rattle.api_desk.specs.Request.{Ask, of_map, of_feed}
use Rattle.api_desk.proofs.Rows.{row_later}

lacking : (F : List Entry) (s : ℕ) (p : Place) (request : MapRequest) (m : ℕ) → IsMapsRow F s p request m None p
lacking F s p (refused r) m = inr (record { told = refl; stays = refl })
lacking F s p (does user c) m = inr (inr (inl (record { told = refl; stays = refl })))
lacking F s p (reads q) m = inr (record { told = refl; stays = refl })

-- want of memory is a row of every request
pub lacks : (F : List Entry) (s : ℕ) (p : Place) (q : Ask) (m : ℕ) → IsRow F s p q m None p
lacks F s p (of_map request) m = record { answer = None; told = refl; row = lacking F s p request m }
lacks F s p (of_feed call) m = inr (record { told = refl; stays = refl })

-- the points never go back
pub goes_on : (F : List Entry) (s : ℕ) (before after : Place) (q : Ask) (m : ℕ) (reply : Option Told) → IsRow F s before q m reply after → before.point ≤ after.point
goes_on F s before after (of_map request) m reply row = row_later F s before after request m row.answer row.row
goes_on F s before after (of_feed call) m reply row = ⊎_elim (λ answers. answers.later) (λ lacks. omega (arith, ap (λ (p : Place). p.point) lacks.stays)) row
