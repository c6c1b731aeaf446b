use Rattle.std.proofs.Common.{◌≡◌, rules}
use Rattle.std.specs.Prelude.{is_some, true, false}
use Rattle.circuit_verdict.proofs.Runs.{goes_on, stays_late}
use Rattle.circuit_verdict.proofs.verdict.Verdict.heed.Goals as goal

pub returns-then-is_some-clause-goes_on : goal.returns-then-is_some-clause-goes_on
returns-then-is_some-clause-goes_on c events stands =
    let some : is_some c.args.self.now.late ≡ true = search rules in
    stays_late c.args.self.now.allowance c.args.self.now.late c.args.self.now.book events _ some stands

pub returns-clause-goes_on : goal.returns-clause-goes_on
returns-clause-goes_on c events stands =
    let none : is_some c.args.self.now.late ≡ false = search rules in
    rw c.late_at-self.ensures
    (goes_on c.args.self.now.allowance c.args.self.now.late c.args.line c.args.event.now c.in_ok-judged.field-0 c.args.self.now.book c.take_in-judged.new.self events none stands
    (rw c.in_ok-judged.was at c.take_in-judged.ensures))
