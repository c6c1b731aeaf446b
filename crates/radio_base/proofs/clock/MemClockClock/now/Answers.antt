use Rattle.std.proofs.Common.{arith}
use Rattle.radio_base.proofs.ClockLemmas.{moments_told-after}
use Rattle.radio_base.proofs.clock.MemClockClock.now.Goals as goal

pub returns-clause-told : goal.returns-clause-told
returns-clause-told c = rw (← c.self.view_is) (moments_told-after _ _ _ c.saturating_add-self-inside.ensures (omega arith))
