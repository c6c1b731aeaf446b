use Rattle.std.proofs.Common.{◌≡◌, ◌∙◌, ℕ, false, subst, sym}
use Rattle.std.specs.Prelude.{Bool}
use Rattle.link_table.proofs.Sending.{when_ok}
use Rattle.node_core.specs.Inputs.{after_tick}
use Rattle.node_core.specs.Standing.{NodeStands, view_of}
use Rattle.node_core.specs.Broadcasts as rounds
use Rattle.node_core.specs.Sound.{IsSound}
use Rattle.node_model.specs.States.{State}
use Rattle.node_core.specs.Bridged.{Ticks}
use Rattle.node_core.proofs.Nodes.{led, sound_on, stands_on}
use Rattle.node_core.proofs.Outcomes.{ok_then}
use Rattle.node_core.proofs.node.Node.tick.Goals as goal

pub invariant_of-self : goal.invariant_of-self
invariant_of-self c unspent =
    let r = c.tick-ticked.result in
    let e = c.tick-ticked.ensures in
    let no_error = sym c.is_err-self-inside.ensures.value ∙ unspent in
    subst (λ (b : Bool). IsSound (view_of c.self.inside.deframer c.tick-ticked.new.self b)) (sym unspent)
    (sound_on c.settles.ensures.nothing (λ (m : ℕ) (n : State). rounds.tick m n) c.args.now.0 c.moment.result.0
    (view_of c.self.inside.deframer c.self.inside.station c.self.inside.spent) c.tick-ticked.new.self c.moment.ensures.value
    (when_ok r _ e.goes no_error) (when_ok r _ e.drained no_error) (led (Ticks c.args.now.0) tt) (c.self.invariant c.if-self.false))

pub returns-clause-goes : goal.returns-clause-goes
returns-clause-goes c = ok_then c.tick-ticked.result (λ no_error n h.
    let unspent : c.is_err-self-inside.result ≡ false = c.is_err-self-inside.ensures.value ∙ no_error in
    subst (λ (b : Bool). NodeStands (view_of c.self.inside.deframer c.tick-ticked.new.self b) (after_tick c.args.now.0 n)) (sym unspent)
    (stands_on c.settles.ensures.nothing (λ (m : ℕ) (n : State). rounds.tick m n) c.args.now.0 c.moment.result.0
    (view_of c.self.inside.deframer c.self.inside.station c.self.inside.spent) c.tick-ticked.new.self c.moment.ensures.value
    (when_ok c.tick-ticked.result _ c.tick-ticked.ensures.goes no_error) n (subst (λ k. NodeStands k n) (sym c.self.view_is) h)))

pub returns-clause-kept : goal.returns-clause-kept
returns-clause-kept c = ok_then c.tick-ticked.result (λ no_error. c.keeps_within.ensures (c.is_err-self-inside.ensures.value ∙ no_error))
