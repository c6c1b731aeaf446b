use Rattle.std.proofs.Common.{◌≤◌, ◌∙◌, sym, subst, ap, arith, length}
use Rattle.route_table.specs.Places.{Stand}
use Rattle.route_table.specs.Table.{placed}
use Rattle.route_table.specs.Rows.{beside}
use Rattle.route_table.proofs.Changing.{placed_stand}
use Rattle.route_table.proofs.LogSteps.{locked}
use Rattle.route_table.proofs.LockSteps.{lock_count, lock_stands}
use Rattle.route_table.proofs.table.RouteTable.lock.Goals as goal

pub returns-then-would_be-gt-MAX_PAIRS-clause-refused :
    goal.returns-then-would_be-gt-MAX_PAIRS-clause-refused
returns-then-would_be-gt-MAX_PAIRS-clause-refused c =
    let enough : c.self.inside.rules.minq ≤ c.args.quality = omega arith in
    rw (← c.self.view_is) (
      record { other = sym c.eq.ensures ∙ c.if-eq.false; enough = enough },
      record {
        held = rw (← c.self.view_is) at c.live-live.ensures.usable;
        after = λ log s. lock_count c.self.inside.own c.self.inside.rules c.self.inside.rows.items _ c.args.dest.now c.args.alias.now c.args.neighbour.now c.args.quality _ enough c.self.invariant.1.1 c.deref.ensures.value c.count_with_lock-would_be.ensures.value log s;
        over = omega arith;
      },
    )

pub invariant_of-self-2 : goal.invariant_of-self-2
invariant_of-self-2 c =
    let lock = locked c.args.dest.now c.args.alias.now c.args.neighbour.now c.args.quality in
    let count = c.count_with_lock-would_be.ensures.value ∙ (ap (λ xs. length (placed lock (beside lock xs))) c.deref.ensures.value ∙ ap length (sym c.in_ok-lock_in.ensures.ok)) in (
      c.self.invariant.0,
      (
        (omega (arith, count, c.if-would_be-gt-MAX_PAIRS.false)),
        subst Stand (sym c.in_ok-lock_in.ensures.ok) (placed_stand lock c.self.inside.rows.items c.self.invariant.1.1),
      ),
    )

pub returns-clause-stands : goal.returns-clause-stands
returns-clause-stands c =
    let enough : c.self.inside.rules.minq ≤ c.args.quality = omega arith in
    rw (← c.self.view_is)
    (λ log s. lock_stands c.self.inside.own c.self.inside.rules c.self.inside.rows.items _ c.args.dest.now c.args.alias.now c.args.neighbour.now c.args.quality log enough c.self.invariant.1.1 c.in_ok-lock_in.ensures.ok s)

pub returns-clause-room : goal.returns-clause-room
returns-clause-room c =
    let enough : c.self.inside.rules.minq ≤ c.args.quality = omega arith in
    rw (← c.self.view_is)
    (λ log s. let count = lock_count c.self.inside.own c.self.inside.rules c.self.inside.rows.items _ c.args.dest.now c.args.alias.now c.args.neighbour.now c.args.quality _ enough c.self.invariant.1.1 c.deref.ensures.value c.count_with_lock-would_be.ensures.value log s in omega (arith, count, c.if-would_be-gt-MAX_PAIRS.false))
