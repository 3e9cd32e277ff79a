use Rattle.std.proofs.Common.{sym, ◌∙◌, subst}
use Rattle.std.specs.List.{AllByRecursion}
use mathlib.Core.List.{IsPrefix}
use Rattle.kept_steps.proofs.serve.is_matched.Goals as goal

pub returns : goal.returns
returns g c is = record {
  first = subst (λ l. IsPrefix c.args.had.now l) c.receipts-given.ensures (c.begins.ensures.begins c.if-not-begins.false);
  given =
      subst (λ l. AllByRecursion (λ held. IsPrefix held c.args.shelf.now.receipts) l) c.deref.ensures.value
      (subst (λ l. AllByRecursion (λ held. IsPrefix held l) c.deref.result.now) c.receipts-given.ensures (c.are_given.ensures c.if-not-are_given.false));
  seen = subst (λ l. IsPrefix l c.args.back.now.list) c.front.ensures (c.begins-2.ensures.begins is);
  failed = λ was. sym c.is_broken.ensures ∙ c.has_cause.ensures c.if-not-has_cause.false was;
}
