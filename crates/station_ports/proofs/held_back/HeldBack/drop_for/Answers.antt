use Rattle.std.proofs.Common.{rules}
use Rattle.std.specs.Prelude.{not}
use Rattle.std.proofs.lemmas.Fn.{filter_same}
use Rattle.station_ports.specs.declared.held_back.Held.{Held}
use Rattle.station_ports.specs.Holding.{is_for}
use Rattle.station_ports.proofs.held_back.HeldBack.drop_for.Goals as goal

pub returns : goal.returns
returns c =
    let test : Held → _ = λ h. not (is_for c.args.peer.now c.args.port h) in
    rw (← c.self.view_is) (filter_same _ test _ (λ x b f h. (search rules, search rules)) _ _ c.retain.ensures.filtered)
