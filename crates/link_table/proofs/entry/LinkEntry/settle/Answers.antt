use Rattle.std.proofs.Common.{◌-◌, ◌+◌, ◌∙◌, sym, arith}
use Rattle.link_table.proofs.Lifting.{left_none, left_end, left_one, none_taken, none_waits, one_waits, untexted}
use Rattle.link_table.proofs.entry.LinkEntry.settle.Goals as goal

pub loop-turn-init : goal.loop-turn-init
loop-turn-init c = record { drained = c.requires.drained; left = none_taken c.args.now.0 c.args.self.now c.args.pending.now }

pub loop-turn-preserved : goal.loop-turn-preserved
loop-turn-preserved c =
    let one = one_waits _ (sym c.goes_up.ensures ∙ c.if-not-goes_up.false) in
    record {
      drained = c.in_ok-take_one.ensures.drained;
      left = left_one (192 - c.loop-turn.turn) (192 - (c.loop-turn.turn + 1)) c.args.now.0 one.0 c.args.self.now c.loop-turn.self _ _ _ _ (omega (arith, c.loop-turn-test.true)) c.loop-turn.invariant.left one.1
          (c.in_ok-take_one.ensures.goes one.0 (untexted c.loop-turn.self.joiner _ one.0 one.1));
    }

pub returns-clause-goes : goal.returns-clause-goes
returns-clause-goes c = left_end (192 - c.loop-turn.turn) c.args.now.0 _ _ _ _ (omega (arith, c.loop-turn-test.false)) c.loop-turn.invariant.left

pub returns-then-not-goes_up-clause-goes : goal.returns-then-not-goes_up-clause-goes
returns-then-not-goes_up-clause-goes c =
    left_none (192 - c.loop-turn.turn) c.args.now.0 _ _ _ _ c.loop-turn.invariant.left (none_waits _ (sym c.goes_up.ensures ∙ c.if-not-goes_up.true))
