use Rattle.std.proofs.Common.{rules, arith, ◌≡◌, ap, false, length}
use Rattle.ax_address.specs.Callsign.{same_call}
use Rattle.route_table.proofs.Placing.{from_start, whole_tail, best_full, best_elsewhere, best_end}
use Rattle.route_table.proofs.ranking.best_of.Goals as goal
use Rattle.route_table.proofs.ranking.best_of.Goals.{then-is_full-via-then-is_full, then-is_full-via-else-is_full+then-ne}

pub loop-row-init : goal.loop-row-init
loop-row-init c = record {
  told = rw (c.new-best.ensures, whole_tail c.start_of.result c.args.rows.now, c.start_of.ensures.place) (from_start c.args.dest.now c.args.rows.now);
  few = omega (arith, ap length c.new-best.ensures);
}

pub returns-then-is_full : goal.returns-then-is_full
returns-then-is_full c =
    elim c.then-is_full.branch [
      | then-is_full-via-then-is_full w ↦
          let full : length c.loop-row.best.items ≡ 3 = search rules in
          best_full c.args.dest.now c.args.rows.now _ c.loop-row.best.items c.loop-row.row-index full c.loop-row.invariant.told
      | then-is_full-via-else-is_full+then-ne w ↦
          let other : same_call c.row-item.result.dest c.args.dest.now ≡ false = search rules in
          best_elsewhere c.args.dest.now c.args.rows.now _ c.loop-row.best.items c.loop-row.row-index c.start_of.result c.row-item.result c.requires (whole_tail c.start_of.result c.args.rows.now) c.start_of.ensures.place c.loop-row-test.true c.row-item.is other c.loop-row.invariant.few c.loop-row.invariant.told
    ]

pub returns : goal.returns
returns c = best_end c.args.dest.now c.args.rows.now _ c.loop-row.best.items c.loop-row.row-index c.loop-row-test.false c.loop-row.invariant.few c.loop-row.invariant.told
