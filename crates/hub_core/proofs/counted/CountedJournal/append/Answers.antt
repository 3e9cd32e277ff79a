use Rattle.std.proofs.Common.{◌≡◌, ap, arith, length, length-append, map, refl, ◌∙◌, ◌++◌, ◌∷◌, [], ◌+◌, true}
use Rattle.std.proofs.lemmas.List.{map-append}
use Rattle.machine_law.specs.Rules.{replay}
use Rattle.hub_core.specs.Journal.{calls_of, AreCounted}
use Rattle.hub_core.proofs.Calls.{counted_push}
use Rattle.hub_core.proofs.Legal.{journal_push}
use Rattle.hub_core.proofs.counted.CountedJournal.append.Goals as goal

pub invariant_of-self-2 : goal.invariant_of-self-2
invariant_of-self-2 g c =
    let rules = g.M.Machine.rules in
    let entry = c.args.entry in
    let tag = c.args.tag in
    let entry_of = g.M.Machine.entry_of in
    let kept = c.self.inside.journal.items in
    let journal = map entry_of kept in
    let pushed : c.push_reserved.new.self.items ≡ kept ++ c.in_ok-kept.kept ∷ [] = rw (c.push_reserved.ensures.items, c.make_ready.ensures.journal) refl in
    let items : map entry_of c.push_reserved.new.self.items ≡ journal ++ entry ∷ [] = rw (pushed, map-append, c.in_ok-kept.ensures.ok.0) refl in
    let taken : rules.takes (replay rules journal) entry ≡ true = rw c.self.view_is c.requires.taken in
    let next : tag.call ≡ calls_of rules.tag_of tag.session journal + 1 = rw c.self.view_is c.requires.next in
    let next_of : (rules.tag_of entry).call ≡ calls_of rules.tag_of (rules.tag_of entry).session journal + 1 = rw c.requires.tagged next in
    let counted : AreCounted rules.tag_of c.make_ready.new.calls journal = λ session. c.make_ready.ensures.calls session ∙ c.self.invariant.1 session in
    rw items (
      journal_push rules g.met.M.Machine.after_consistent journal entry c.self.invariant.0 taken next_of,
      counted_push rules.tag_of c.make_ready.new.calls c.set_count.new.calls journal entry tag counted c.requires.tagged c.set_count.ensures next,
      omega (arith, ap length pushed, length-append kept (c.in_ok-kept.kept ∷ []), ap length c.make_ready.ensures.journal, c.in_ok-make_ready.ensures.few),
    )
