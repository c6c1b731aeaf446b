use Rattle.link_life.proofs.Living.{writes_done, writes_refused}
use Rattle.link_life.specs.Lives.{act_on}
use Rattle.link_life.proofs.life.write_line.Goals as goal

pub returns-in_ok-write_refused-in-Some-clause-does : goal.returns-in_ok-write_refused-in-Some-clause-does
returns-in_ok-write_refused-in-Some-clause-does g c = λ w s.
    writes_refused g.M.Modulus.SIZE c.args.numbered.now.line c.in-Some.why c.act_on.new.life c.args.report.now c.act_on.new.text c.write_refused.new.text w (act_on c.args.numbered.now.act w)
    (rw c.in-Some.is at (c.in_ok-why.ensures.does w s)) c.in_ok-write_refused-in-Some.ensures

pub returns-in-None-clause-does : goal.returns-in-None-clause-does
returns-in-None-clause-does g c = λ w s.
    writes_done g.M.Modulus.SIZE c.args.numbered.now.line c.act_on.new.life c.args.report.now c.act_on.new.text w (act_on c.args.numbered.now.act w)
    (rw c.in-None.is at (c.in_ok-why.ensures.does w s))
