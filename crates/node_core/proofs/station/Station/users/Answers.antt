use Rattle.std.proofs.Common.{append-nil, arith, sym}
use Rattle.circuit_table.specs.CircuitSets.{held_ids}
use Rattle.node_model.specs.Asking as views
use Rattle.node_core.proofs.Seeing.{next_pushed}
use Rattle.node_core.proofs.station.Station.users.Goals as goal
use Rattle.node_core.proofs.station.Station.users.Goals.{in-Some, in_default}

pub loop-nth-preserved : goal.loop-nth-preserved
loop-nth-preserved c =
    let nth = c.loop-nth.nth in
    let before = c.loop-nth.invariant in
    let olds = c.loop-nth.users.items in
    elim c.match-user.branch [
      | in-Some w ↦ (
        λ n h. rw w.users-is (next_pushed (views.partner n.set.set.ends) (held_ids n.set.set.ends) nth c.user.result olds w.push.new.self.items (before.0 n h) (c.user.ensures n h) (rw w.in-Some.is w.push.ensures.items)),
        rw w.users-is (omega (arith, w.push.ensures.len, before.1)),
      )
      | in_default w ↦ (
        λ n h. rw w.users-is (next_pushed (views.partner n.set.set.ends) (held_ids n.set.set.ends) nth c.user.result olds olds (before.0 n h) (c.user.ensures n h) (rw w.in_default.is (sym (append-nil olds)))),
        rw w.users-is (omega (arith, before.1)),
      )
    ]
