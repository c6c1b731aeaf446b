use Rattle.std.proofs.Common.{[], Some, sym, subst}
use Rattle.ax_link.specs.Table.{Send}
use Rattle.link_life.specs.Lives.{moved, send_refusal, unless}
use Rattle.link_life.specs.declared.life_refusals.LifeRefusal.{LifeRefusal}
use Rattle.link_life.specs.Standing.{ComesTo, EndStands, of_send, turn_of}
use Rattle.link_life.proofs.Acting.{allows, moves, refuses, send_refused, send_taken}
use Rattle.link_life.proofs.Books.{facts_stand}
use Rattle.link_life.proofs.turn.send.Goals as goal

pub returns-in_ok-settle-in-Ok-clause-does : goal.returns-in_ok-settle-in-Ok-clause-does
returns-in_ok-settle-in-Ok-clause-does g c = λ p s.
    let size = g.M.Modulus.SIZE in
    allows size c.settle.new.near c.settle.new.far c.args.text.now c.settle.new.text p (send_refusal p.near.link) (moved (turn_of size c.args.turn.now) (Send c.args.sent.now) [] p)
    (send_taken size c.args.near.now.link p.near.link c.in-Ok.field-0 s.near.link (sym c.in-Ok.ensures.answer))
    (moves size c.args.turn.now (Send c.args.sent.now) c.facts-before.result (record { link = c.send.new.self; book = c.args.near.now.book }) c.args.far.now c.settle.new.near c.settle.new.far
    c.args.text.now c.settle.new.text p p (rw c.facts-before.ensures (facts_stand size c.args.near.now.link p.near.link s.near.link))
    (rw c.payload.ensures at (c.in-Ok.ensures.does p.near.link s.near.link)) s.near.book s.far c.in_ok-settle-in-Ok.ensures.stands c.in_ok-settle-in-Ok.ensures.tells)

pub returns-in-Err-clause-does : goal.returns-in-Err-clause-does
returns-in-Err-clause-does g c = λ p s.
    let size = g.M.Modulus.SIZE in
    let near : EndStands size (record { link = c.send.new.self; book = c.args.near.now.book }) p.near =
    record { link = rw c.in-Err.ensures.err s.near.link; book = s.near.book } in
    subst
    (λ (r : LifeRefusal). ComesTo size (Some r) (record { link = c.send.new.self; book = c.args.near.now.book }) c.args.far.now c.args.text.now c.args.text.now p
    (unless (send_refusal p.near.link) (moved (turn_of size c.args.turn.now) (Send c.args.sent.now) [] p)))
    (sym c.of_send.ensures)
    (refuses size _ _ c.args.text.now p (of_send c.in-Err.refusal) (send_refusal p.near.link) (moved (turn_of size c.args.turn.now) (Send c.args.sent.now) [] p)
    (send_refused size c.args.near.now.link p.near.link c.in-Err.refusal s.near.link (sym c.in-Err.ensures.answer)) (record { near = near; far = s.far }))
