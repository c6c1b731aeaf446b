use Rattle.std.proofs.Common.{min}
use Rattle.radio_base.specs.declared.modulus.TheConstants.{COUNT_MAX}
use Rattle.ax_link.proofs.Inputs.{fine_send}
use Rattle.ax_link.proofs.Leaving.{both_opens, both_step}
use Rattle.ax_link.proofs.Pairs.{both_lost_first}
use Rattle.ax_link.proofs.laws.pair_left.Goals as goal

pub returns-clause-both : goal.returns-clause-both
returns-clause-both c = λ now l i other to_l to_l2 to_other. both_step (min now COUNT_MAX) l i other to_l to_l2 to_other

pub returns-clause-opens : goal.returns-clause-opens
returns-clause-opens c = λ now l f other to_l to_other. both_opens (min now COUNT_MAX) l f other to_l to_other

pub returns-clause-sends : goal.returns-clause-sends
returns-clause-sends c = λ now l p other to_l to_other. fine_send (min now COUNT_MAX) p l other to_l to_other

pub returns-clause-lost : goal.returns-clause-lost
returns-clause-lost c = λ l r f to_l to_r. both_lost_first l r f to_l to_r
