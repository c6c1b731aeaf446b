use Rattle.std.proofs.Common.{◌∙◌, ap, sym}
use Rattle.circuit_l4.specs.declared.facts.EndFacts.{EndFacts}
use Rattle.circuit_table.specs.Sets.{heeds}
use Rattle.circuit_table.proofs.Searching.{hands_some}
use Rattle.circuit_table.proofs.Moving.{rests_at}
use Rattle.circuit_table.proofs.held_ends.HeldEnds.hand.Goals as goal

pub arrive-requires : goal.arrive-requires
arrive-requires c = rests_at c.args.id c.args.self.now.ends.entries c.in-Some.holder.now c.requires (sym c.in-Some.ensures.value)

pub returns-in-Some-clause-hands : goal.returns-in-Some-clause-hands
returns-in-Some-clause-hands c =
    let k = c.in-Some.holder.now in
    hands_some c.args.id _ k c.args.transport.now c.args.now.0 c.heeds-heeded.result c.args.self.now.ends.entries _ c.arrive.new.self c.in-Some.ensures.value
    (λ x s. c.heeds-heeded.ensures ∙ ap (λ (f : EndFacts). heeds f.phase c.args.transport.now) (c.facts.ensures x s)) c.arrive.ensures.does (c.get_mut.follows.holds (record k { end = c.arrive.new.self })).0 c.arrive.ensures.most

pub invariant_of-self-clause-others : goal.invariant_of-self-clause-others
invariant_of-self-clause-others c =
    let k = record c.in-Some.holder.now { end = c.arrive.new.self } in
    c.after-self.ensures c.args.self.now.ends.entries _ c.loud_at-loud.ensures (c.get_mut.follows.holds k).0
