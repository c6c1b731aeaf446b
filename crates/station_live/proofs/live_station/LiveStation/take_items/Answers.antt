use Rattle.std.proofs.Common.{sym, subst}
use Rattle.node_core.proofs.Nodes.{given_is_new}
use Rattle.station.specs.Standing.{StationStand}
use Rattle.station_live.specs.Lives.{after_items}
use Rattle.station_live.proofs.live_station.LiveStation.take_items.Goals as goal

pub returns : goal.returns
returns c = λ l stands.
    let goes = c.in_ok-take_items.ensures.goes l.stream stands.stream in
    record {
      stream = c.in_ok-take_items.ensures.fed l.stream stands.stream;
      station = subst (λ items. StationStand c.take_items.new.station (after_items c.args.now items l.station)) (sym (given_is_new l.stream c.args.bytes.now goes.0 goes.1)) (goes.2 l.station stands.station);
      every = stands.every;
      next = stands.next;
    }
