use Rattle.ax_link.specs.Table.{Close}
use Rattle.link_life.proofs.Acting.{moves}
use Rattle.link_life.proofs.Books.{facts_stand}
use Rattle.link_life.proofs.turn.close.Goals as goal

pub returns-clause-does : goal.returns-clause-does
returns-clause-does g c = λ p s.
    let size = g.M.Modulus.SIZE in
    moves size c.args.turn.now Close c.facts-before.result (record { link = c.close.new.self; book = c.args.near.now.book }) c.args.far.now c.settle.new.near c.settle.new.far
    c.args.text.now c.settle.new.text p p (rw c.facts-before.ensures (facts_stand size c.args.near.now.link p.near.link s.near.link))
    (c.close.ensures.does p.near.link s.near.link) s.near.book s.far c.in_ok-settle.ensures.stands c.in_ok-settle.ensures.tells
