use Rattle.std.proofs.Common.{refl}
use Rattle.node_core.proofs.Hearing.{heard_gone, heard_notice}
use Rattle.node_core.proofs.Outcomes.{on_ok}
use Rattle.node_core.proofs.station.Station.hear_circuits.Goals as goal

pub returns-in-Notice-clause-goes : goal.returns-in-Notice-clause-goes
returns-in-Notice-clause-goes c =
    let s = c.args.self.now in
    on_ok c.hear_notice.result c.hear_notice.ensures (λ e n h. rw c.in-Notice.is (heard_notice s (record s { sessions = c.hear_notice.new.all }) c.in-Notice.id c.in-Notice.notice e refl n h))

pub returns-in-Gone-clause-goes : goal.returns-in-Gone-clause-goes
returns-in-Gone-clause-goes c =
    let s = c.args.self.now in
    on_ok c.hear_gone.result c.hear_gone.ensures (λ e n h. rw c.in-Gone.is (heard_gone s (record s { sessions = c.hear_gone.new.all }) c.in-Gone.id e refl n h))
