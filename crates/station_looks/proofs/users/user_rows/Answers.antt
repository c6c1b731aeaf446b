use Rattle.std.proofs.Common.{[], map}
use Rattle.station_lists.specs.Lists.{user_line}
use Rattle.station_looks.specs.Rows.{user_by}
use Rattle.station_looks.proofs.Slices.{lined}
use Rattle.station_looks.proofs.users.user_rows.Goals as goal

pub loop-session-preserved : goal.loop-session-preserved
loop-session-preserved c = λ s stand.
    lined user_line (user_by c.args.about.now s) c.args.sessions.now c.loop-session.session-index c.session-item.result
    [] (map user_line c.loop-session.all.items) (map user_line c.add_row.new.all.items)
    c.loop-session-test.true c.session-item.is (c.loop-session.invariant s stand) (c.in_ok-add_row.ensures s stand)
