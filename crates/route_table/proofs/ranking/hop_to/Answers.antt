use Rattle.std.proofs.Common.{◌≡◌, true, false, rules}
use Rattle.ax_address.specs.Callsign.{same_call}
use Rattle.route_table.proofs.Placing.{hop_found, hop_elsewhere, hop_behind}
use Rattle.route_table.proofs.ranking.hop_to.Goals as goal

pub returns-then-eq : goal.returns-then-eq
returns-then-eq c =
    let same : same_call c.in-Some.row.now.dest c.args.dest.now ≡ true = search rules in
    hop_found c.args.dest.now c.args.rows.now c.start_of.result c.in-Some.row.now c.start_of.ensures.place c.in-Some.ensures.value same

pub returns-else-eq : goal.returns-else-eq
returns-else-eq c =
    let other : same_call c.in-Some.row.now.dest c.args.dest.now ≡ false = search rules in
    hop_elsewhere c.args.dest.now c.args.rows.now c.start_of.result c.in-Some.row.now c.requires c.start_of.ensures.place c.in-Some.ensures.value other

pub returns-in-None : goal.returns-in-None
returns-in-None c = hop_behind c.args.dest.now c.args.rows.now c.start_of.result c.start_of.ensures.place c.in-None.ensures.value
