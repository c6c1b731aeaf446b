use Rattle.std.proofs.Common.{sym, ap, refl, ◌∙◌}
use Rattle.std.proofs.Common.{nat_eq}
use Rattle.std.specs.Map.{set_value}
use Rattle.circuit_table.specs.Sets as sets
use Rattle.circuit_table.proofs.Moving.{call_goes, no_take, rests_at, no_message, call_of_none, some_message, some_take}
use Rattle.circuit_table.proofs.held_ends.HeldEnds.take.Goals as goal

pub take-took-requires : goal.take-took-requires
take-took-requires c = rests_at c.args.id c.args.self.now.ends.entries c.in-Some.holder.now c.requires (sym c.in-Some.ensures.value)

pub returns-in-Some-clause-answer : goal.returns-in-Some-clause-answer
returns-in-Some-clause-answer c = λ s st. some_take c.args.self.now c.args.id s st c.in-Some.holder.now (sym c.in-Some.ensures.value) c.take-took.result c.take-took.ensures.answer

pub returns-in-Some-clause-message : goal.returns-in-Some-clause-message
returns-in-Some-clause-message c = λ s st.
    some_message c.args.self.now c.args.id s st c.in-Some.holder.now (sym c.in-Some.ensures.value) c.args.out.now.items c.take-took.new.out.items c.take-took.ensures.message

pub returns-in-None-clause-answer : goal.returns-in-None-clause-answer
returns-in-None-clause-answer c = λ s st. no_take c.args.self.now c.args.id s st (sym c.in-None.ensures.value)

pub returns-in-None-clause-message : goal.returns-in-None-clause-message
returns-in-None-clause-message c = λ s st. no_message c.args.self.now c.args.id s st (sym c.in-None.ensures.value) c.args.out.now.items

pub returns-in-Some-clause-goes : goal.returns-in-Some-clause-goes
returns-in-Some-clause-goes c =
    let k = c.in-Some.holder.now in
    call_goes c.args.self.now _ c.args.id k c.take-took.new.self.end c.take-took.new.self.taken sets.Takes c.args.now.0 (record { own = refl; user = refl; config = refl; next = refl; number = refl })
    (sym c.in-Some.ensures.value) ((c.get_mut.follows.holds c.take-took.new.self).0 ∙ ap (set_value (nat_eq c.args.id) c.args.self.now.ends.entries) c.take-took.ensures.rest) c.take-took.ensures.does c.take-took.ensures.taken

pub returns-in-None-clause-goes : goal.returns-in-None-clause-goes
returns-in-None-clause-goes c =
    call_of_none c.args.self.now _ c.args.id sets.Takes c.args.now.0 (record { own = refl; user = refl; config = refl; next = refl; number = refl })
    (sym c.in-None.ensures.value) (ap (λ m. m.entries) c.get_mut.follows.holds-at-none)

pub invariant_of-self-clause-others : goal.invariant_of-self-clause-others
invariant_of-self-clause-others c =
    c.after-self.ensures c.args.self.now.ends.entries _ c.loud_at-loud.ensures (c.get_mut.follows.holds c.take-took.new.self).0
