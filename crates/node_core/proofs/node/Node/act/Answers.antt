use Rattle.std.proofs.Common.{◌≡◌, ◌∙◌, ℕ, false, subst, sym}
use Rattle.std.specs.Prelude.{Bool}
use Rattle.node_core.specs.Acts.{do_act, act_of}
use Rattle.node_core.specs.Inputs.{after_act}
use Rattle.node_core.specs.Standing.{NodeStands, view_of, IsAnswer}
use Rattle.node_core.specs.Sound.{IsSound}
use Rattle.node_model.specs.States.{State}
use Rattle.node_core.specs.declared.station.Station.{Station}
use Rattle.node_core.proofs.Answering.{answer_is, is_answer}
use Rattle.node_core.specs.Bridged.{Acts}
use Rattle.node_core.proofs.Nodes.{led, sound_on, stands_on}
use Rattle.node_core.proofs.node.Node.act.Goals as goal

pub invariant_of-self : goal.invariant_of-self
invariant_of-self c unspent =
    let answered : IsAnswer c.act-outcome.result = is_answer c.act-outcome.result (sym unspent ∙ c.wants_memory-self-inside.ensures) in
    let s : Station = c.act-outcome.new.self in
    subst (λ (b : Bool). IsSound (view_of c.self.inside.deframer s b)) (sym unspent)
    (sound_on c.settles.ensures.nothing (λ (m : ℕ) (n : State). (do_act m (act_of c.args.act.now) n).node) c.args.now.0 c.moment.result.0
    (view_of c.self.inside.deframer c.self.inside.station c.self.inside.spent) s c.moment.ensures.value
    (λ n h told. (c.act-outcome.ensures.acts answered n h told).stands) (c.act-outcome.ensures.drained answered) (led (Acts c.args.now.0 (act_of c.args.act.now)) c.asks_for_call.ensures) (c.self.invariant c.if-self.false))

pub returns-clause-answer : goal.returns-clause-answer
returns-clause-answer c answered n h =
    let k = subst (λ k. NodeStands k n) (sym c.self.view_is) h in
    subst (λ (m : ℕ). c.act-outcome.result ≡ (do_act m (act_of c.args.act.now) n.station).answer) c.moment.ensures.value
    (c.act-outcome.ensures.acts answered n.station k.station k.told).answer

pub returns-clause-goes : goal.returns-clause-goes
returns-clause-goes c answered n h =
    let s : Station = c.act-outcome.new.self in
    let unspent : c.wants_memory-self-inside.result ≡ false = c.wants_memory-self-inside.ensures ∙ answer_is c.act-outcome.result answered in
    subst (λ (b : Bool). NodeStands (view_of c.self.inside.deframer s b) (after_act c.args.now.0 (act_of c.args.act.now) n)) (sym unspent)
    (stands_on c.settles.ensures.nothing (λ (m : ℕ) (n : State). (do_act m (act_of c.args.act.now) n).node) c.args.now.0 c.moment.result.0
    (view_of c.self.inside.deframer c.self.inside.station c.self.inside.spent) s c.moment.ensures.value
    (λ n h told. (c.act-outcome.ensures.acts answered n h told).stands) n (subst (λ k. NodeStands k n) (sym c.self.view_is) h))

pub returns-clause-kept : goal.returns-clause-kept
returns-clause-kept c answered = c.keeps_within.ensures (c.wants_memory-self-inside.ensures ∙ answer_is c.act-outcome.result answered)
