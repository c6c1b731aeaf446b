use Rattle.std.proofs.Common.{arith}
use Rattle.radio_base.proofs.MemoryLemmas.{drop-copied}
use Rattle.radio_base.proofs.mem_source.MemSourceSource.read.Goals as goal

pub returns-then-count-gt0-clause-bytes : goal.returns-then-count-gt0-clause-bytes
returns-then-count-gt0-clause-bytes c = (
  rw (← c.self.view_is) (drop-copied _ _ _ _ (let h = c.copy_front-count.ensures.front in rw c.deref-2.ensures.value at h)),
  λ none _. absurd (omega arith),
)
