use Rattle.link_life.proofs.Settling.{book_heeds, notices_so}
use Rattle.link_life.proofs.settle.heed.Goals as goal

pub returns-clause-book : goal.returns-clause-book
returns-clause-book g c = λ e g2 facts step book.
    book_heeds g.M.Modulus.SIZE c.args.near.now.link c.args.near.now.book c.tell.new.book g2 e c.args.before.now step facts book
    c.in_ok-tell.ensures.over c.in_ok-tell.ensures.lasting c.in_ok-tell.ensures.down c.in_ok-tell.ensures.coming

pub returns-clause-tells : goal.returns-clause-tells
returns-clause-tells g c = λ g2 s. notices_so g.M.Modulus.SIZE c.args.turn.now.side c.args.near.now.link g2 c.args.notices.now c.tell.new.notices s c.in_ok-tell.ensures.notices
