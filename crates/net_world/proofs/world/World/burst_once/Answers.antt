use Rattle.std.proofs.Common.{sym, subst}
use Rattle.std.proofs.lemmas.Result.{err_from_is_err_and}
use Rattle.net_world.specs.Running.{Stands, course}
use Rattle.net_model.specs.World.{answer}
use Rattle.net_world.proofs.Answered.{was_done, was_refused}
use Rattle.net_world.proofs.Bursts.{refused_stops, taken, taken_stops, text, when_refused, when_taken}
use Rattle.net_world.proofs.world.World.burst_once.Goals as goal

pub returns-in-None-clause-ok : goal.returns-in-None-clause-ok
returns-in-None-clause-ok c = λ w t.
    let is = was_done c.in_ok-answer.answer (answer c.args.here.at (text c.args.end c.args.nth) w) c.in-None.ensures (c.in_ok-answer.ensures.answer w t) in (
      taken c.args.here.line c.args.here.at c.args.here.node c.args.end c.args.nth c.args.more w,
      c.in_ok-put_in_air-in-None.ensures _ (c.in_ok-tell_written-in-None.ensures _ (c.in_ok-answer.ensures.goes w t)),
      when_taken c.args.here.line c.args.here.at c.args.here.node c.args.end c.args.nth c.args.more is.0 w is.1,
    )

pub returns-in_err-put_in_air-in-None-clause-err : goal.returns-in_err-put_in_air-in-None-clause-err
returns-in_err-put_in_air-in-None-clause-err c =
    let p = err_from_is_err_and c.from_residual-in_err-put_in_air-in-None.result c.from_residual-in_err-put_in_air-in-None.ensures.1 in
    rw (p.1, p.2) (λ w t.
    let is = was_done c.in_ok-answer.answer (answer c.args.here.at (text c.args.end c.args.nth) w) c.in-None.ensures (c.in_ok-answer.ensures.answer w t) in
    taken_stops c.args.here.line c.args.here.at c.args.here.node c.args.end c.args.nth c.args.more is.0 w _ is.1
    (c.in_err-put_in_air-in-None.ensures _ (c.in_ok-tell_written-in-None.ensures _ (c.in_ok-answer.ensures.goes w t))))

pub returns-clause-ok : goal.returns-clause-ok
returns-clause-ok c = λ w t.
    let is = was_refused c.in_ok-answer.answer (answer c.args.here.at (text c.args.end c.args.nth) w) c.in-Some.why c.in-Some.ensures (c.in_ok-answer.ensures.answer w t) in
    subst (λ v. Stands (course c.put_in_air-in-Some.new.self) v)
    (sym (when_refused c.args.here.line c.args.here.at c.args.here.node c.args.end c.args.nth c.args.more c.in-Some.why w is))
    (c.in_ok-put_in_air-in-Some.ensures _ (c.in_ok-tell-in-Some-2.ensures.goes _ (c.in_ok-tell-in-Some.ensures.goes _ (c.in_ok-answer.ensures.goes w t))))

pub returns-in_err-put_in_air-in-Some-clause-err : goal.returns-in_err-put_in_air-in-Some-clause-err
returns-in_err-put_in_air-in-Some-clause-err c =
    let p = err_from_is_err_and c.from_residual-in_err-put_in_air-in-Some.result c.from_residual-in_err-put_in_air-in-Some.ensures.1 in
    rw (p.1, p.2) (λ w t.
    let is = was_refused c.in_ok-answer.answer (answer c.args.here.at (text c.args.end c.args.nth) w) c.in-Some.why c.in-Some.ensures (c.in_ok-answer.ensures.answer w t) in
    refused_stops c.args.here.line c.args.here.at c.args.here.node c.args.end c.args.nth c.args.more c.in-Some.why w _ is
    (c.in_err-put_in_air-in-Some.ensures _ (c.in_ok-tell-in-Some-2.ensures.goes _ (c.in_ok-tell-in-Some.ensures.goes _ (c.in_ok-answer.ensures.goes w t)))))
