use Rattle.std.proofs.Common.{rules}
use Rattle.std.specs.Prelude.{not}
use Rattle.arrayvec.proofs.ArrayVecLemmas.{filter-from_retain}
use Rattle.ax_address.specs.declared.entry.Entry.{Entry}
use Rattle.station_members.specs.Telling.{is_of_member}
use Rattle.station_members.proofs.broadcasts.leave_out.Goals as goal

pub returns : goal.returns
returns c =
    let test : Entry → _ = λ e. not (is_of_member c.args.seats.now e) in
    let kept = filter-from_retain _ test _ (λ x b f y h. (search rules, search rules, search rules)) _ _ c.retain.ensures.filtered in
    λ i. record { alias = c.args.nodes.now.alias; entries = kept i }
