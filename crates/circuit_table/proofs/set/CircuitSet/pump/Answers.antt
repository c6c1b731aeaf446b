use Rattle.std.proofs.Common.{◌≡◌, ◌∙◌, ap, is_err, sym}
use Rattle.circuit_table.proofs.Kept.{pump_keeps_on}
use Rattle.circuit_table.proofs.set.CircuitSet.pump.Goals as goal

pub returns-clause-kept : goal.returns-clause-kept
returns-clause-kept g c = pump_keeps_on _ _ _ _ _ _ _ _ _ c.in_ok-done.was (rw (← c.self-2.view_is) at c.go_on-done.ensures.pumps)

-- (written, since `search` takes seconds for it)
pub returns-clause-pumps : goal.returns-clause-pumps
returns-clause-pumps g c =
    let went = rw (← c.self-2.view_is, ← c.self.view_is, c.in_ok-done.was) at c.go_on-done.ensures.spent in
    let spent : c.is_err-self-inside.result ≡ c.self-2.inside.spent = c.is_err-self-inside.ensures.value ∙ ap is_err c.in_ok-done.was ∙ sym (went ∙ c.if-self.false) in
    rw (← c.self.view_is, spent) (rw (← c.self-2.view_is, ← c.self.view_is, c.in_ok-done.was) at c.go_on-done.ensures.pumps)
