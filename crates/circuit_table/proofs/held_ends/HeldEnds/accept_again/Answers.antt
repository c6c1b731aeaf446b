use Rattle.std.proofs.Common.{sym, ap}
use Rattle.circuit_l4.specs.declared.facts.EndFacts.{EndFacts}
use Rattle.circuit_table.proofs.Making.{accepts_again}
use Rattle.circuit_table.proofs.Moving.{never_missing}
use Rattle.circuit_table.proofs.held_ends.HeldEnds.accept_again.Goals as goal

pub returns-in-Some : goal.returns-in-Some
returns-in-Some c = record {
  gives = λ s h st is held asked.
      accepts_again c.args.self.now c.args.id c.in-Some.holder.now (sym c.in-Some.ensures.value) c.args.asked c.facts.result.window (λ x y. ap (λ (f : EndFacts). f.window) (c.facts.ensures x y)) s h st is held asked;
}

pub returns-in-None : goal.returns-in-None
returns-in-None c = record { gives = λ s h st is held asked. absurd (never_missing c.args.self.now c.args.id (sym c.in-None.ensures.value) s st h is held) }
