use Rattle.std.proofs.Common.{refl}
use Rattle.link_life.proofs.Living.{ticks}
use Rattle.link_life.proofs.life.tick_both.Goals as goal

pub returns-clause-does : goal.returns-clause-does
returns-clause-does g c = λ w s.
    let k = c.args.life.now in
    ticks g.M.Modulus.SIZE k (record k { a = c.tick.new.near; b = c.tick.new.far }) (record k { a = c.tick-2.new.far; b = c.tick-2.new.near })
    c.args.text.now c.tick.new.notices c.tick-2.new.notices c.new-frames.result c.tick.new.frames c.tick-2.new.frames c.append.new.self w
    (record { srej = refl; delay = refl; moment = refl }) (record { srej = refl; delay = refl; moment = refl }) s c.new-frames.ensures
    c.in_ok-tick.ensures.does c.in_ok-tick-2.ensures.does c.in_ok-append.ensures.ok
