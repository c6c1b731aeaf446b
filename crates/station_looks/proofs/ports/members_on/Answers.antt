use Rattle.std.proofs.Common.{◌≡◌, ◌++◌, ◌∙◌, ap, arith, length}
use Rattle.station_looks.specs.Rows.{by_member, on_port_at}
use Rattle.station_looks.proofs.Places.{all_collected, collected}
use Rattle.station_looks.proofs.ports.members_on.Goals as goal

pub loop-at-preserved : goal.loop-at-preserved
loop-at-preserved c = λ s stand.
    collected (by_member (on_port_at c.args.port s) s) c.loop-at.at c.loop-at.all.items c.push_some.new.all.items (c.loop-at.invariant s stand)
    (c.in_ok-push_some.ensures ∙ ap (λ xs. c.loop-at.all.items ++ xs) (c.standing_at.ensures s stand))

pub returns : goal.returns
returns c = λ s stand.
    let e : c.loop-at.at ≡ length s.nodes = omega (arith, c.loop-at-test.false, c.loop-at.auto.at-end, c.len-at-end.ensures s stand) in
    all_collected (by_member (on_port_at c.args.port s) s) c.loop-at.at (length s.nodes) c.loop-at.all.items e (c.loop-at.invariant s stand)
