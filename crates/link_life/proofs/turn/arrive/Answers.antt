use Rattle.link_life.proofs.Arriving.{arrives}
use Rattle.link_life.proofs.turn.arrive.Goals as goal

pub returns-in_ok-settle-in-Some-clause-does : goal.returns-in_ok-settle-in-Some-clause-does
returns-in_ok-settle-in-Some-clause-does g c = λ p s.
    let size = g.M.Modulus.SIZE in
    arrives size c.args.turn.now c.in-Some.flight c.pop_front.new.self.items c.facts-before.result c.args.near.now (record { link = c.hand.new.link; book = c.hear.new.book }) c.args.far.now c.settle.new.near
    c.settle.new.far c.args.text.now c.settle.new.text p s c.facts-before.ensures c.in-Some.ensures.items c.hand.ensures c.hear.ensures.over c.hear.ensures.lasting c.hear.ensures.down c.hear.ensures.coming
    c.in_ok-settle-in-Some.ensures.stands c.in_ok-settle-in-Some.ensures.tells
