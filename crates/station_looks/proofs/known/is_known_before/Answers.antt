use Rattle.std.proofs.Common.{◌∙◌, ℕ, ap, sym}
use Rattle.std.specs.Prelude.{is_some}
use Rattle.std.specs.List.{list_any}
use Rattle.station_looks.specs.Nodes.{best_at}
use Rattle.station_looks.proofs.Places.{any_here, any_later, any_none, rest_all}
use Rattle.station_looks.proofs.known.is_known_before.Goals as goal

pub loop-before-init : goal.loop-before-init
loop-before-init c = λ s stand. ap (list_any (λ (k : ℕ). is_some (best_at k c.args.dest.now s))) (sym (rest_all c.args.at))

pub returns-then-is_some : goal.returns-then-is_some
returns-then-is_some c = λ s stand.
    sym (c.loop-before.invariant s stand ∙ any_here (λ (k : ℕ). is_some (best_at k c.args.dest.now s)) c.loop-before.before c.args.at c.loop-before-test.true
    (ap is_some (sym (c.best_at.ensures s stand)) ∙ (sym c.is_some.ensures ∙ c.if-is_some.true)))

pub loop-before-preserved : goal.loop-before-preserved
loop-before-preserved c = λ s stand.
    c.loop-before.invariant s stand ∙ any_later (λ (k : ℕ). is_some (best_at k c.args.dest.now s)) c.loop-before.before c.args.at c.loop-before-test.true
    (ap is_some (sym (c.best_at.ensures s stand)) ∙ (sym c.is_some.ensures ∙ c.if-is_some.false))

pub returns : goal.returns
returns c = λ s stand.
    sym (c.loop-before.invariant s stand ∙ any_none (λ (k : ℕ). is_some (best_at k c.args.dest.now s)) c.loop-before.before c.args.at c.loop-before-test.false)
