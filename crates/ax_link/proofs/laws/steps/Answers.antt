use Rattle.std.specs.Prelude.{min}
use Rattle.ax_link.specs.State.{count_end}
use Rattle.ax_link.specs.Table.{step}
use Rattle.ax_link.proofs.KindsOut.{kinds_go_out}
use Rattle.ax_link.proofs.Notices.{notices_are, settings_stay}
use Rattle.ax_link.proofs.PutSteps.{good_step}
use Rattle.ax_link.proofs.PutFrames.{bounds_stay, have_payloads}
use Rattle.ax_link.proofs.laws.steps.Goals as goal

pub returns-clause-settings : goal.returns-clause-settings
returns-clause-settings c = settings_stay

pub returns-clause-bounds : goal.returns-clause-bounds
returns-clause-bounds c = bounds_stay

pub returns-clause-payloads : goal.returns-clause-payloads
returns-clause-payloads c = λ given came s i now bounds brings have.
    let g = good_step given came (min now count_end) s i brings (bounds, have) in (g.0.1, have_payloads given _ (step s i now).outs g.1)

pub returns-clause-notices : goal.returns-clause-notices
returns-clause-notices c = notices_are

pub returns-clause-kinds : goal.returns-clause-kinds
returns-clause-kinds c = kinds_go_out
