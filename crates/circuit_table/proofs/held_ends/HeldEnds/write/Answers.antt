use Rattle.std.proofs.Common.{sym, ap, refl, subst, ◌∙◌, ◌≤◌, Ok, Err, List, length, nat_eq, ℕ}
use Rattle.std.specs.Map.{set_value}
use Rattle.circuit_l4.specs.Standing.{EndView}
use Rattle.circuit_l4.specs.Table.{Write}
use Rattle.circuit_table.specs.declared.holder.Holder.{Holder}
use Rattle.circuit_table.specs.Sets as sets
use Rattle.circuit_table.specs.Still.{OthersAreStill}
use Rattle.circuit_table.proofs.Moving.{call_goes, no_write, rests_at, set_back, some_write}
use Rattle.circuit_table.specs.Standing.{capped_count}
use Rattle.circuit_table.proofs.Taken.{taken_same}
use Rattle.circuit_table.proofs.Stillness.{set_beside}
use Rattle.circuit_table.proofs.held_ends.HeldEnds.write.Goals as goal

pub write-requires : goal.write-requires
write-requires c = rests_at c.args.id c.args.self.now.ends.entries c.in-Some.holder.now c.requires (sym c.in-Some.ensures.value)

pub returns-in-Ok-clause-answer : goal.returns-in-Ok-clause-answer
returns-in-Ok-clause-answer c = λ s st.
    some_write c.args.self.now c.args.id s st c.in-Some.holder.now (sym c.in-Some.ensures.value) c.args.message.now (Ok tt) (λ x y. sym c.in-Ok.is ∙ c.write.ensures.answer x y)

pub returns-in-Err-clause-answer : goal.returns-in-Err-clause-answer
returns-in-Err-clause-answer c = λ s st.
    some_write c.args.self.now c.args.id s st c.in-Some.holder.now (sym c.in-Some.ensures.value) c.args.message.now (Err c.in-Err.refusal) (λ x y. sym c.in-Err.is ∙ c.write.ensures.answer x y)

pub returns-in-None-clause-answer : goal.returns-in-None-clause-answer
returns-in-None-clause-answer c = λ s st. no_write c.args.self.now c.args.id s st (sym c.in-None.ensures.value) c.args.message.now

pub returns-in-Ok-clause-goes : goal.returns-in-Ok-clause-goes
returns-in-Ok-clause-goes c =
    let k = c.in-Some.holder.now in
    call_goes c.args.self.now _ c.args.id k c.write.new.self k.taken (sets.Writes c.args.message.now) c.args.now.0 (record { own = refl; user = refl; config = refl; next = refl; number = refl })
    (sym c.in-Some.ensures.value) (c.get_mut.follows.holds (record k { end = c.write.new.self })).0 c.in-Ok.ensures.does
    (λ x s e. e ∙ ap capped_count (sym (taken_same x (Write c.args.message.now) c.args.now.0 tt)))

pub returns-in-Err-clause-err : goal.returns-in-Err-clause-err
returns-in-Err-clause-err c =
    let k = c.in-Some.holder.now in
    let es = c.args.self.now.ends.entries in
    (c.get_mut.follows.holds (record k { end = c.write.new.self })).0
    ∙ ap (λ (e : EndView). set_value (nat_eq c.args.id) es (record k { end = e })) c.in-Err.ensures.err
    ∙ set_back c.args.id es k (sym c.in-Some.ensures.value)

pub invariant_of-self-clause-others : goal.invariant_of-self-clause-others
invariant_of-self-clause-others c =
    let k = record c.in-Some.holder.now { end = c.write.new.self } in
    set_beside c.args.id _ c.args.self.now.ends.entries _ k c.loud_at-loud.ensures (c.get_mut.follows.holds k).0

pub invariant_of-self-in-Err-1 : goal.invariant_of-self-in-Err-1
invariant_of-self-in-Err-1 c =
    let k = c.in-Some.holder.now in
    let es = c.args.self.now.ends.entries in
    let put = (c.get_mut.follows.holds (record k { end = c.write.new.self })).0 in
    let back = ap (λ (e : EndView). set_value (nat_eq c.args.id) es (record k { end = e })) c.in-Err.ensures.err ∙ set_back c.args.id es k (sym c.in-Some.ensures.value) in
    record {
      config_fits = c.args.self.now.config_fits;
      few = subst (λ (now : List (ℕ × Holder)). length now ≤ 64) (sym (put ∙ back)) c.args.self.now.few;
      others = subst (OthersAreStill c.args.self.now.loud) (sym (put ∙ back)) c.args.self.now.others;
    }
