use Rattle.std.proofs.Common.{arith, length, ◌≤◌}
use Rattle.std.proofs.lemmas.List.{length-take-le}
use Rattle.route_table.proofs.Waiting.{moved}
use Rattle.route_table.proofs.entering.enter_before.Goals as goal

pub returns-clause-rows : goal.returns-clause-rows
returns-clause-rows c =
    let start : c.args.end ≤ length c.args.rows.now = omega (arith, c.requires.within) in
    let within : c.place_of-at.result ≤ c.args.end = omega (arith, c.place_of-at.ensures.within, length-take-le c.args.end c.args.rows.now start) in
    moved c.args.rows.now c.copy_within.new.self c.place_of-at.result c.args.end c.args.gap c.args.route.now within c.requires.within c.copy_within.ensures.len c.copy_within.ensures.after
