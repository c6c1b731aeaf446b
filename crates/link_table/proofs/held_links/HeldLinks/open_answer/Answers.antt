use Rattle.std.proofs.Common.{◌∙◌, arith, sym}
use Rattle.link_table.proofs.LinkOffers.{some_looks}
use Rattle.link_table.proofs.Opens.{answers_full, answers_long, answers_room, answers_standing}
use Rattle.link_table.proofs.held_links.HeldLinks.open_answer.Goals as goal

pub returns-then-contains_key-clause-answer : goal.returns-then-contains_key-clause-answer
returns-then-contains_key-clause-answer c = λ t s. answers_standing c.args.self.now c.args.peer.now c.args.path.now t s (sym c.contains_key.ensures ∙ c.if-contains_key.true)

pub returns-then-len-gt-MAX_ORIGINATED-clause-answer : goal.returns-then-len-gt-MAX_ORIGINATED-clause-answer
returns-then-len-gt-MAX_ORIGINATED-clause-answer c = λ t s.
    answers_long c.args.self.now c.args.peer.now c.args.path.now t s (some_looks _ (sym c.contains_key.ensures ∙ c.if-contains_key.false)) (omega (arith, c.if-len-gt-MAX_ORIGINATED.true, c.len.ensures))

pub returns-then-len-ge-MAX_LINKS-clause-answer : goal.returns-then-len-ge-MAX_LINKS-clause-answer
returns-then-len-ge-MAX_LINKS-clause-answer c = λ t s.
    answers_full c.args.self.now c.args.peer.now c.args.path.now t s (some_looks _ (sym c.contains_key.ensures ∙ c.if-contains_key.false))
    (omega (arith, c.if-len-gt-MAX_ORIGINATED.false, c.len.ensures)) (omega (arith, c.if-len-ge-MAX_LINKS.true, c.len-2.ensures.len))

pub returns-clause-answer : goal.returns-clause-answer
returns-clause-answer c = λ t s.
    answers_room c.args.self.now c.args.peer.now c.args.path.now t s (some_looks _ (sym c.contains_key.ensures ∙ c.if-contains_key.false))
    (omega (arith, c.if-len-gt-MAX_ORIGINATED.false, c.len.ensures)) (omega (arith, c.if-len-ge-MAX_LINKS.false, c.len-2.ensures.len))

pub returns-clause-none : goal.returns-clause-none
returns-clause-none c = some_looks _ (sym c.contains_key.ensures ∙ c.if-contains_key.false)
