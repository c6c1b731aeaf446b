use Rattle.std.proofs.Common.{[]}
use Rattle.link_life.proofs.Acting.{settles}
use Rattle.link_life.proofs.Settling.{heeded_link, told_so}
use Rattle.link_life.proofs.settle.settle.Goals as goal

pub returns-clause-stands : goal.returns-clause-stands
returns-clause-stands g c =
    settles g.M.Modulus.SIZE c.args.turn.now c.args.before.now c.args.near.now c.heed.new.near c.args.far.now c.put_out.new.near c.put_out.new.far
    c.in_ok-heed.ensures.link c.in_ok-heed.ensures.book c.in_ok-put_out.ensures.stands

pub returns-clause-tells : goal.returns-clause-tells
returns-clause-tells g c = λ g2 s.
    told_so g.M.Modulus.SIZE c.args.turn.now.side g2 c.args.text.now c.heed.new.notices c.put_out.new.frames (c.in_ok-heed.ensures.tells g2 s)
    (c.in_ok-put_out.ensures.tells (record g2 { notes = [] }) (heeded_link g.M.Modulus.SIZE c.args.near.now.link c.heed.new.near.link g2 s c.in_ok-heed.ensures.link))
