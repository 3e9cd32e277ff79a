use Rattle.std.proofs.Common.{◌≡◌, ◌+◌, [], ◌∷◌, ◌++◌, take, ap, sym, ◌∙◌}
use Rattle.std.proofs.lemmas.List.{take_more}
use Rattle.std.proofs.lemmas.Option.{get_or_from_slice_get, slice_get_within}
use Rattle.line_text.proofs.LinesOf.{text-append}
use Rattle.journal_text.specs.Line.{line}
use Rattle.journal_text.specs.Text.{header, lines, text_of}
use Rattle.journal_text.specs.declared.versions.Version.TheVariants.{Two}
use Rattle.osm_serve.proofs.play.text_of.Goals as goal

pub loop-place-preserved : goal.loop-place-preserved
loop-place-preserved c =
    let es = c.args.entries.now in
    let i = c.loop-place.place in
    let e = c.in_ok-entry.entry in
    let there = c.in_ok-entry.ensures in
    let next : take (i + 1) es ≡ take i es ++ e ∷ [] = take_more es i e (slice_get_within es i e there) ∙ ap (λ x. take i es ++ x ∷ []) (get_or_from_slice_get es i e e there) in
    c.in_ok-text-2.ensures.lines ∙ ap (λ xs. c.loop-place.text.items ++ lines xs) c.from_ref.ensures.value ∙ ap (λ ts. ts ++ lines (e ∷ [])) c.loop-place.invariant ∙ sym (text-append line (header Two) (take i es) (e ∷ [])) ∙ ap text_of (sym next)
