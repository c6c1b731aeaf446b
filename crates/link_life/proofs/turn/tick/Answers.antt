use Rattle.link_life.proofs.Acting.{comes_ticked}
use Rattle.link_life.proofs.Books.{facts_stand}
use Rattle.link_life.proofs.turn.tick.Goals as goal

pub returns-clause-does : goal.returns-clause-does
returns-clause-does g c = λ p s.
    let size = g.M.Modulus.SIZE in
    comes_ticked size c.args.turn.now c.facts-before.result (record { link = c.tick.new.self; book = c.args.near.now.book }) c.heed.new.near c.args.far.now c.put_out.new.near c.put_out.new.far
    c.args.notices.now c.heed.new.notices c.args.frames.now c.put_out.new.frames p (rw c.facts-before.ensures (facts_stand size c.args.near.now.link p.near.link s.near.link))
    (c.tick.ensures.does p.near.link s.near.link) s.near.book s.far
    c.in_ok-heed.ensures.link c.in_ok-heed.ensures.book c.in_ok-put_out.ensures.stands c.in_ok-heed.ensures.tells c.in_ok-put_out.ensures.tells
