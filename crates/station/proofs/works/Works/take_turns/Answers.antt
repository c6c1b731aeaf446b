use Rattle.std.proofs.Common.{◌∙◌, refl, sym}
use Rattle.station.specs.States.{StationState, all_turns, turn}
use Rattle.station.proofs.Going.{same_stands}
use Rattle.station.proofs.Loops.{turns_done, turns_last, turns_next}
use Rattle.station.proofs.works.Works.take_turns.Goals as goal

pub loop-init : goal.loop-init
loop-init c = λ s stands. (s, stands, refl)

pub loop-preserved : goal.loop-preserved
loop-preserved c = λ s stands.
    let i = c.loop.invariant s stands in
    let t : StationState = i.0 in (
      turn c.args.now t,
      c.in_ok-turn.ensures.goes t i.1,
      sym (turns_next c.loop.counter c.args.now t c.loop-test.true (sym c.if-not-branch.false ∙ c.in_ok-turn.ensures.does t i.1)) ∙ i.2,
    )

pub returns-then-not-branch : goal.returns-then-not-branch
unfolding all_turns
returns-then-not-branch c = λ s stands.
    let i = c.loop.invariant s stands in
    let t : StationState = i.0 in
    same_stands _ _ _ (sym (turns_last c.loop.counter c.args.now t c.loop-test.true (sym c.if-not-branch.true ∙ c.in_ok-turn.ensures.does t i.1)) ∙ i.2)
    (c.in_ok-turn.ensures.goes t i.1)

pub returns : goal.returns
unfolding all_turns
returns c = λ s stands.
    let i = c.loop.invariant s stands in
    same_stands c.loop.self _ _ (sym (turns_done c.loop.counter c.args.now i.0 c.loop-test.false) ∙ i.2) i.1
