use Rattle.std.proofs.Common.{min}
use Rattle.radio_base.specs.declared.modulus.TheConstants.{COUNT_MAX}
use Rattle.ax_link.proofs.PairSteps.{pair_step_left, pair_step_right, pair_fill, pair_finish}
use Rattle.ax_link.proofs.Pairs.{pair_lost, pair_swap}
use Rattle.ax_link.proofs.laws.pair_step.Goals as goal

pub returns-clause-left : goal.returns-clause-left
returns-clause-left c = λ now l r i tl tl2 tr. pair_step_left (min now COUNT_MAX) l r i tl tl2 tr

pub returns-clause-right : goal.returns-clause-right
returns-clause-right c = λ now l r i tl tr tr2. pair_step_right (min now COUNT_MAX) l r i tl tr tr2

pub returns-clause-lost : goal.returns-clause-lost
returns-clause-lost c = λ l r f tl tr. pair_lost l r f tl tr

pub returns-clause-filled : goal.returns-clause-filled
returns-clause-filled c = λ now l r tl tr. pair_fill now l r tl tr

pub returns-clause-finished : goal.returns-clause-finished
returns-clause-finished c = λ now l r tl tr. pair_finish now l r tl tr

pub returns-clause-swapped : goal.returns-clause-swapped
returns-clause-swapped c = λ l r tl tr. pair_swap l r tl tr
