use Rattle.std.proofs.Common.{rules}
use Rattle.std.specs.Prelude.{not}
use Rattle.arrayvec.proofs.ArrayVecLemmas.{filter-from_retain}
use Rattle.ax_address.specs.Callsign.{Callsign, same_call}
use Rattle.station_ports.proofs.alias_peers.AliasPeers.remove.Goals as goal

pub returns : goal.returns
returns c =
    let test : Callsign → _ = λ one. not (same_call one c.args.peer.now) in
    rw (← c.self.view_is) (filter-from_retain _ test _ (λ x b f y h. (search rules, search rules, search rules)) _ _ c.retain.ensures.filtered)
