use Rattle.std.proofs.Common.{◌∙◌, ap, sym}
use Rattle.net_model.specs.Ends.{with_outcome}
use Rattle.net_model.proofs.Noting as noting
use Rattle.net_model.proofs.ends.set_outcome.Goals as goal

pub returns-then-at-made : goal.returns-then-at-made
returns-then-at-made c =
    noting.set_outcome c.args.made.now c.saturating_sub-at.result c.args.outcome c.index-made-at.result c.if-at-made.true
    ∙ ap (λ k. with_outcome c.args.outcome k c.args.made.now) c.saturating_sub-at.ensures

pub returns-else-at-made : goal.returns-else-at-made
returns-else-at-made c =
    sym (ap (λ k. with_outcome c.args.outcome k c.args.made.now) (sym c.saturating_sub-at.ensures)
    ∙ noting.outcome_past c.args.made.now c.saturating_sub-at.result c.args.outcome c.if-at-made.false)
