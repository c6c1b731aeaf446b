use Rattle.std.proofs.Common.{◌≡◌, ◌<◌, ◌∙◌, ap, arith, sym, subst, length}
use Rattle.std.proofs.lemmas.Bool.Decides.{nat_tests}
use Rattle.std.proofs.lemmas.Result.{err_from_is_err_and}
use Rattle.net_model.specs.Mailing.{write_answer_to}
use Rattle.net_world.specs.Running.{Stands, course}
use Rattle.net_world.proofs.Turning.{answer_goes, answer_stops, no_answer}
use Rattle.net_world.proofs.world.World.write_answer.Goals as goal

pub returns-then-is_empty : goal.returns-then-is_empty
returns-then-is_empty c = λ wire e w t.
    let empty : length c.args.answer.now ≡ 0 = grind (arith, nat_tests, c.is_empty.ensures, c.if-is_empty.true) in
    let none = no_answer wire (ap length (sym e) ∙ empty) in
    subst (λ o. Stands (course c.args.self.now) (write_answer_to c.args.here.line c.args.here.at c.args.id o w)) (sym none) t

pub returns-in_err-write_if_taken : goal.returns-in_err-write_if_taken
returns-in_err-write_if_taken c =
    let p = err_from_is_err_and c.from_residual.result c.from_residual.ensures.1 in
    let some : 0 < length c.args.answer.now = grind (arith, nat_tests, c.is_empty.ensures, c.if-is_empty.false) in
    rw (p.1, p.2) (λ wire e. answer_stops (course c.args.self.now) (course c.args.self.now) c.args.here.line c.args.here.at c.args.id c.args.answer.now wire _ e
    (λ none. omega (arith, some, none)) c.in_err-write_if_taken.ensures.err)

pub returns : goal.returns
returns c = λ wire e.
    let some : 0 < length c.args.answer.now = grind (arith, nat_tests, c.is_empty.ensures, c.if-is_empty.false) in
    answer_goes (course c.args.self.now) (course c.write_if_taken.new.self) c.args.here.line c.args.here.at c.args.id c.args.answer.now wire e
    (λ none. omega (arith, some, none)) c.in_ok-write_if_taken.ensures.goes
