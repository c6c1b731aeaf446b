use Rattle.std.proofs.Common.{◌∙◌, sym}
use Rattle.circuit_l4.proofs.Bounds.{few_of}
use Rattle.circuit_l4.proofs.Receives.{fitted, unfitted_few}
use Rattle.circuit_l4.proofs.incoming.Incoming.append.Goals as goal

pub invariant_of-self-2 : goal.invariant_of-self-2
invariant_of-self-2 c =
    let done =
    fitted c.self.inside _ _ c.args.piece.now.more _ _ _ _ _ c.self.invariant (rw (← c.self.view_is) at c.requires) c.as_slice-text.ensures.value
    c.as_slice-text.ensures.fits c.push_back.ensures.items c.gather_next.ensures.held c.gather_next.ensures.messages c.from.ensures
    (sym c.gather_next.ensures.answer ∙ c.in_ok-whole.was) in
    done.is_inbox

pub returns-clause-does : goal.returns-clause-does
returns-clause-does c =
    let done =
    fitted c.self.inside _ _ c.args.piece.now.more _ _ _ _ _ c.self.invariant (rw (← c.self.view_is) at c.requires) c.as_slice-text.ensures.value
    c.as_slice-text.ensures.fits c.push_back.ensures.items c.gather_next.ensures.held c.gather_next.ensures.messages c.from.ensures
    (sym c.gather_next.ensures.answer ∙ c.in_ok-whole.was) in
    rw (← c.self.view_is) done.does

pub returns-clause-few : goal.returns-clause-few
returns-clause-few c =
    let done =
    fitted c.self.inside _ _ c.args.piece.now.more _ _ _ _ _ c.self.invariant (rw (← c.self.view_is) at c.requires) c.as_slice-text.ensures.value
    c.as_slice-text.ensures.fits c.push_back.ensures.items c.gather_next.ensures.held c.gather_next.ensures.messages c.from.ensures
    (sym c.gather_next.ensures.answer ∙ c.in_ok-whole.was) in
    few_of _ done.is_inbox

pub returns-in_err-whole-clause-few : goal.returns-in_err-whole-clause-few
returns-in_err-whole-clause-few c =
    unfitted_few c.self.inside _ c.args.piece.now.more _ _ _ c.self.invariant c.gather_next.ensures.held c.gather_next.ensures.messages
    (sym c.gather_next.ensures.answer ∙ c.in_err-whole.was)
