use Rattle.ax_link.proofs.RunExamples.{carries, carries_early, new_starts}
use Rattle.ax_link.proofs.Runs.{run_safe, clean_front}
use Rattle.ax_link.proofs.Takings.{new_bounds, run_bounds, taken_safe}
use Rattle.ax_link.specs.Opening.{rules_new}
use Rattle.ax_link.specs.Runs.{run}
use Rattle.ax_link.proofs.laws.link_safe.Goals as goal

pub returns-clause-safe : goal.returns-clause-safe
returns-clause-safe c = λ w events. run_safe w events

pub returns-clause-new : goal.returns-clause-new
returns-clause-new c = λ size a b m s. new_starts size a b m s

pub returns-clause-met : goal.returns-clause-met
returns-clause-met c = λ p. carries p

pub returns-clause-early : goal.returns-clause-early
returns-clause-early c = λ p q. carries_early p q

pub returns-clause-begun : goal.returns-clause-begun
returns-clause-begun c = λ w early later. clean_front w early later

pub returns-clause-taken : goal.returns-clause-taken
returns-clause-taken c = λ w events starts bounds clean. taken_safe (run w events) (run_bounds w events bounds) (run_safe w events starts clean)

pub returns-clause-bounded : goal.returns-clause-bounded
returns-clause-bounded c = λ size a b m s.
    let starts = new_starts size a b m s in new_bounds (rules_new size a) (rules_new size b) starts.rightward.window starts.leftward.window
