use Rattle.std.proofs.Common.{◌≡◌, ℕ, Option, subst}
use Rattle.circuit_l4.specs.Moves.{acknowledge_by, on_state}
use Rattle.circuit_l4.specs.Standing.{EndView, KeepsEffect, effect_of, view_of}
use Rattle.circuit_l4.proofs.Standings.{itself, standing_all}
use Rattle.circuit_l4.proofs.machine.Machine.acknowledge.Goals as goal

pub returns-in-Some-clause-does : goal.returns-in-Some-clause-does
returns-in-Some-clause-does c =
    let k : EndView = view_of c.args.self.now in
    standing_all k _ (λ s r a b.
    subst (λ (found : Option ℕ). KeepsEffect (view_of c.acknowledge_at.new.self) (on_state (λ x. (acknowledge_by c.args.now c.args.flags found x).end) (effect_of k s r))
    × (c.acknowledge_at.result ≡ (acknowledge_by c.args.now c.args.flags found (effect_of k s r).end).owed))
    (c.in-Some.ensures.exact s a) (c.acknowledge_at.ensures.does _ (itself k s r a b)))

pub returns-in-None-clause-does : goal.returns-in-None-clause-does
returns-in-None-clause-does c =
    let k : EndView = view_of c.args.self.now in
    standing_all k _ (λ s r a b.
    subst (λ (found : Option ℕ). KeepsEffect k (on_state (λ x. (acknowledge_by c.args.now c.args.flags found x).end) (effect_of k s r))
    × (c.nothing_owed.result ≡ (acknowledge_by c.args.now c.args.flags found (effect_of k s r).end).owed))
    (c.in-None.ensures.exact s a) (itself k s r a b, c.nothing_owed.ensures.exact s r a))
