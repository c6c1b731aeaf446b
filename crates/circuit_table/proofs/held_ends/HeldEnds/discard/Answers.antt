use Rattle.std.proofs.Common.{refl, subst, sym, true}
use Rattle.circuit_table.specs.Standing.{HasEnded}
use Rattle.circuit_table.proofs.Moving.{discard_goes}
use Rattle.circuit_table.proofs.Stillness.{set_beside}
use Rattle.circuit_table.proofs.held_ends.HeldEnds.discard.Goals as goal

pub returns-in-Some-clause-goes : goal.returns-in-Some-clause-goes
returns-in-Some-clause-goes c =
    let k = c.in-Some.holder.now in
    discard_goes c.args.self.now _ c.args.id k (record { own = refl; user = refl; config = refl; next = refl; number = refl }) (sym c.in-Some.ensures.value)
    (c.get_mut.follows.holds (record k { discarded = true })).0 (subst HasEnded (sym c.in-Some.ensures.value) c.requires)

pub returns-in_default-clause-goes : goal.returns-in_default-clause-goes
returns-in_default-clause-goes c = absurd (subst HasEnded (sym c.in_default.ensures.value) c.requires)

pub invariant_of-self-clause-others : goal.invariant_of-self-clause-others
invariant_of-self-clause-others c =
    let k = record c.in-Some.holder.now { discarded = true } in
    set_beside c.args.id _ c.args.self.now.ends.entries _ k c.loud_at-loud.ensures (c.get_mut.follows.holds k).0
