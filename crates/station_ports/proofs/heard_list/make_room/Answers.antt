use Rattle.std.proofs.Common.{◌≤◌, sym, length, arith}
use Rattle.std.proofs.lemmas.List.{take_all}
use Rattle.std.proofs.lemmas.Bool.Decides.{nat_tests}
use Rattle.station_ports.proofs.heard_list.make_room.Goals as goal

pub returns-else-is_full-clause-items : goal.returns-else-is_full-clause-items
returns-else-is_full-clause-items c =
    let few : length c.args.heard.now.items ≤ 31 = grind (arith, nat_tests) in
    sym (take_all 31 c.args.heard.now.items few)
