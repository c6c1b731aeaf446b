use Rattle.std.proofs.Common.{◌≤◌, subst, sym}
use Rattle.indexmap.specs.Layout.{length-set_value_at}
use Rattle.circuit_table.proofs.Ticking.{no_value, ticks_none, ticks_some, value_at}
use Rattle.circuit_table.proofs.held_ends.HeldEnds.tick_nth.Goals as goal

pub tick-requires : goal.tick-requires
tick-requires c = let at = value_at c.args.nth c.args.self.now.ends.entries c.in-Some.holder.now c.in-Some.ensures.value in c.requires (at.0, c.in-Some.holder.now) at.1

pub returns-in-Some-clause-ticks : goal.returns-in-Some-clause-ticks
returns-in-Some-clause-ticks c =
    let k = c.in-Some.holder.now in
    let at = value_at c.args.nth c.args.self.now.ends.entries k c.in-Some.ensures.value in
    ticks_some c.args.nth c.args.now.0 at.0 k c.tick.new.self c.args.self.now.ends.entries at.1 c.tick.ensures.does

pub returns-in_default-clause-ticks : goal.returns-in_default-clause-ticks
returns-in_default-clause-ticks c = ticks_none c.args.nth c.args.now.0 c.args.self.now.ends.entries (no_value c.args.nth c.args.self.now.ends.entries c.in_default.ensures.value)

pub invariant_of-self : goal.invariant_of-self
invariant_of-self c =
    let k = c.in-Some.holder.now in
    record {
      config_fits = c.args.self.now.config_fits;
      others = tt;
      few = subst (λ n. n ≤ 64) (sym (length-set_value_at c.args.self.now.ends.entries c.args.nth (record k { end = c.tick.new.self }))) c.args.self.now.few;
    }
