use Rattle.std.proofs.Common.{rules}
use Rattle.std.specs.Prelude.{not}
use Rattle.arrayvec.proofs.ArrayVecLemmas.{filter-from_retain}
use Rattle.ax_address.specs.Callsign.{same_call}
use Rattle.station_ports.specs.declared.heard_list.Heard.{Heard}
use Rattle.station_ports.proofs.heard_list.forget.Goals as goal

pub returns : goal.returns
returns c =
    let test : Heard → _ = λ h. not (same_call h.call c.args.call.now) in
    filter-from_retain _ test _ (λ x b f y h. (search rules, search rules, search rules)) _ _ c.retain.ensures.filtered
