use Rattle.std.proofs.Common.{refl}
use Rattle.node_core.specs.declared.entry.NodeEntry.TheVariants.{Overflow}
use Rattle.node_core.proofs.Holding.{entered}
use Rattle.node_core.proofs.station.Station.tell_overflow.Goals as goal

pub returns : goal.returns
returns c = λ n h.
    let s = c.args.self.now in
    entered s (record s { entries = c.push_back.new.self }) (Overflow c.args.live c.args.would_be) c.in_ok-push_back.ensures.items refl n h
