use Rattle.std.proofs.Common.{◌∙◌, sym}
use Rattle.std.proofs.lemmas.Result.{on_ok_weaker}
use Rattle.ax_address.specs.Callsign.{same_call}
use Rattle.station_lists.specs.Lists.{neighbour_line}
use Rattle.station_looks.specs.Rows.{neighbour_row}
use Rattle.station_looks.proofs.Lines.{no_row_by, row_added_by}
use Rattle.station_looks.proofs.neighbours.add_row.Goals as goal

pub returns-then-eq : goal.returns-then-eq
returns-then-eq c = on_ok_weaker c.push_row.result
    (λ more s stand. row_added_by neighbour_line (same_call c.args.route.now.dest c.args.route.now.neighbour) c.args.all.now.items
    c.push_row.new.all.items c.row_of.result (neighbour_row c.args.about.now s c.args.at c.args.member c.args.route.now)
    (sym c.eq.ensures ∙ c.if-eq.true) more (c.row_of.ensures s stand))
    c.push_row.ensures

pub returns-else-eq : goal.returns-else-eq
returns-else-eq c = λ s stand.
    no_row_by neighbour_line (same_call c.args.route.now.dest c.args.route.now.neighbour) c.args.all.now.items
    (neighbour_row c.args.about.now s c.args.at c.args.member c.args.route.now) (sym c.eq.ensures ∙ c.if-eq.false)
