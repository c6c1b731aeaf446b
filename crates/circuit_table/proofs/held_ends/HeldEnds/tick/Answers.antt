use Rattle.std.proofs.Common.{ap, sym, ◌∙◌, subst, length, ◌≡◌, arith, suc, ◌+◌}
use Rattle.circuit_table.specs.Standing.{TicksTo}
use Rattle.circuit_table.proofs.Ticking.{rests_in, same_node, tick_goes, ticks_more, untouched}
use Rattle.circuit_table.proofs.held_ends.HeldEnds.tick.Goals as goal

pub tick_nth-requires : goal.tick_nth-requires
tick_nth-requires c = λ e f.
    let old = c.args.self.now.ends.entries in
    rests_in c.loop-nth.nth old e c.requires (sym (untouched c.args.now.0 c.loop-nth.nth old c.loop-nth.self.ends.entries c.loop-nth.invariant.1) ∙ f)

pub loop-nth-preserved : goal.loop-nth-preserved
loop-nth-preserved c =
    let old = c.args.self.now.ends.entries in
    let n = c.loop-nth.nth in
    let next : suc n ≡ n + 1 = omega arith in (
      same_node c.args.self.now c.loop-nth.self c.tick_nth.new.self c.loop-nth.invariant.0 c.tick_nth.ensures.same,
      subst (λ k. TicksTo c.args.now.0 k old c.tick_nth.new.self.ends.entries) next (ticks_more c.args.now.0 n old c.loop-nth.self.ends.entries c.tick_nth.new.self.ends.entries c.loop-nth.invariant.1 c.tick_nth.ensures.ticks),
    )

pub returns-clause-goes : goal.returns-clause-goes
returns-clause-goes c = λ s st.
    let old = c.args.self.now.ends.entries in
    let n = c.loop-nth.nth in
    let len = c.len-nth-end.ensures.len in
    let bound = c.loop-nth.auto.nth-end in
    let done = c.loop-nth-test.false in
    let all : n ≡ length old = omega arith in
    let ticks = subst (λ k. TicksTo c.args.now.0 k old c.loop-nth.self.ends.entries) all c.loop-nth.invariant.1 in
    tick_goes c.args.self.now c.look.new.self c.args.now.0 s (same_node c.args.self.now c.loop-nth.self c.look.new.self c.loop-nth.invariant.0 c.look.ensures.same) st
    (subst (TicksTo c.args.now.0 (length old) old) (sym (ap (λ m. m.entries) c.look.ensures.ends)) ticks)
