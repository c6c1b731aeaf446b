use Rattle.std.proofs.Common.{sym, ◌∙◌}
use Rattle.link_life.proofs.Living.{late_refused, time_goes}
use Rattle.link_life.proofs.life.tick_on.Goals as goal

pub returns-then-is_too_late-clause-does : goal.returns-then-is_too_late-clause-does
returns-then-is_too_late-clause-does g c = λ w s.
    late_refused g.M.Modulus.SIZE c.args.life.now c.args.text.now w c.args.passed c.saturating_add-later.result s c.saturating_add-later.ensures (sym c.is_too_late.ensures ∙ c.if-is_too_late.true)

pub returns-clause-does : goal.returns-clause-does
returns-clause-does g c = λ w s.
    time_goes g.M.Modulus.SIZE c.args.life.now c.tick_both.new.life c.args.text.now c.tick_both.new.text w c.args.passed c.saturating_add-later.result s c.saturating_add-later.ensures
    (sym c.is_too_late.ensures ∙ c.if-is_too_late.false) c.in_ok-tick_both.ensures.does
