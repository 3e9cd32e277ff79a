use Rattle.std.proofs.Common.{◌≡◌, ◌<◌, ◌+◌, [], List, ℕ, Option, None, Some, length, get_or, arith, sym, ap, ◌∙◌, subst}
use Rattle.std.specs.Borrow.{Bor}
use Rattle.osm_json.specs.Found.{text_in}
use Rattle.osm_json.proofs.Latest.{Gone, gone_past, gone_more, gone_none, gone_rises}
use Rattle.osm_json.proofs.tags.tags_from.Goals as goal
use Rattle.osm_json.proofs.tags.tags_from.Goals.{then-is_last+in-Some+in_ok-found-2, else-is_last}

pub returns-in_default : goal.returns-in_default
returns-in_default c =
    let l = c.loop-index in
    let within : l.index < length c.args.entries.now = omega arith in
    let pair : get_or c.args.entries.now l.index ([], None) ≡ (c.entry.result.0.now, None) =
    sym c.entry.ensures ∙ ap (λ (t : Option (Bor (List ℕ))). (c.entry.result.0.now, text_in t)) c.in_default.is in
    sym (gone_none c.args.entries.now l.index l.found l.invariant within c.requires _ (sym c.is_last.ensures ∙ c.if-is_last.true) pair)

pub with-requires : goal.with-requires
with-requires c =
    let l = c.loop-index in
    let within : l.index < length c.args.entries.now = omega arith in
    let pair : get_or c.args.entries.now l.index ([], None) ≡ (c.entry.result.0.now, Some c.in-Some.text.now) =
    sym c.entry.ensures ∙ ap (λ (t : Option (Bor (List ℕ))). (c.entry.result.0.now, text_in t)) c.in-Some.is in
    gone_rises c.args.entries.now (l.index + 1) _ (gone_more c.args.entries.now l.index l.found l.invariant within c.requires _ _ (sym c.is_last.ensures ∙ c.if-is_last.true) pair)

pub loop-index-preserved : goal.loop-index-preserved
loop-index-preserved c =
    let l = c.loop-index in
    let within : l.index < length c.args.entries.now = omega arith in
    let Kept : List (List ℕ × List ℕ) → Type 0 = Gone c.args.entries.now (l.index + 1) in
    elim c.if-is_last.branch [
      | then-is_last+in-Some+in_ok-found-2 w ↦
          let pair : get_or c.args.entries.now l.index ([], None) ≡ (w.entry.result.0.now, Some w.in-Some.text.now) =
          sym w.entry.ensures ∙ ap (λ (t : Option (Bor (List ℕ))). (w.entry.result.0.now, text_in t)) w.in-Some.is in
          let more = gone_more c.args.entries.now l.index l.found l.invariant within c.requires _ _ (sym c.is_last.ensures ∙ w.if-is_last.true) pair in
          subst Kept (sym (w.found-is ∙ w.in_ok-found-2.ensures)) more
      | else-is_last w ↦ subst Kept (sym w.found-is) (gone_past c.args.entries.now l.index l.found l.invariant within c.requires (sym c.is_last.ensures ∙ w.if-is_last.false))
    ]
