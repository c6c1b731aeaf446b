use Rattle.std.proofs.Common.{sym, ap, refl, ◌∙◌}
use Rattle.circuit_l4.specs.Table.{Close}
use Rattle.circuit_table.specs.Sets as sets
use Rattle.circuit_table.proofs.Moving.{call_goes, call_of_none, no_close, rests_at, some_close}
use Rattle.circuit_table.specs.Standing.{capped_count}
use Rattle.circuit_table.proofs.Taken.{taken_same}
use Rattle.circuit_table.proofs.Stillness.{set_beside}
use Rattle.circuit_table.proofs.held_ends.HeldEnds.close.Goals as goal

pub close-requires : goal.close-requires
close-requires c = rests_at c.args.id c.args.self.now.ends.entries c.in-Some.holder.now c.requires (sym c.in-Some.ensures.value)

pub returns-in-Some-clause-goes : goal.returns-in-Some-clause-goes
returns-in-Some-clause-goes c =
    let k = c.in-Some.holder.now in
    call_goes c.args.self.now _ c.args.id k c.close.new.self k.taken sets.Closes c.args.now.0 (record { own = refl; user = refl; config = refl; next = refl; number = refl })
    (sym c.in-Some.ensures.value) (c.get_mut.follows.holds (record k { end = c.close.new.self })).0 c.close.ensures.does
    (λ x s e. e ∙ ap capped_count (sym (taken_same x Close c.args.now.0 tt)))

pub returns-in-None-clause-goes : goal.returns-in-None-clause-goes
returns-in-None-clause-goes c =
    call_of_none c.args.self.now _ c.args.id sets.Closes c.args.now.0 (record { own = refl; user = refl; config = refl; next = refl; number = refl })
    (sym c.in-None.ensures.value) (ap (λ m. m.entries) c.get_mut.follows.holds-at-none)

pub returns-in-Some-clause-answer : goal.returns-in-Some-clause-answer
returns-in-Some-clause-answer c = λ s st. some_close c.args.self.now c.args.id s st c.in-Some.holder.now (sym c.in-Some.ensures.value)

pub returns-in-None-clause-answer : goal.returns-in-None-clause-answer
returns-in-None-clause-answer c = λ s st. no_close c.args.self.now c.args.id s st (sym c.in-None.ensures.value)

pub invariant_of-self-clause-others : goal.invariant_of-self-clause-others
invariant_of-self-clause-others c =
    let k = record c.in-Some.holder.now { end = c.close.new.self } in
    set_beside c.args.id _ c.args.self.now.ends.entries _ k c.loud_at-loud.ensures (c.get_mut.follows.holds k).0
