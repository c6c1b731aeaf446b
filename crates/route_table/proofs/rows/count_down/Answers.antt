use Rattle.std.proofs.Common.{◌≡◌, ◌<◌, ◌∙◌, ap, sym, length, arith}
use Rattle.std.proofs.lemmas.List.Edits.{map_over_more}
use Rattle.route_table.specs.Rows as spec
use Rattle.route_table.proofs.rows.count_down.Goals as goal

pub loop-row-preserved : goal.loop-row-preserved
loop-row-preserved c =
    let k : c.grow_older.new.row ≡ spec.older c.row-item.result = c.grow_older.ensures ∙ ap spec.older (sym c.row-item.is) in
    let within : c.loop-row.row-index < length c.args.rows.now.items = omega (arith, ap length c.deref_mut-row-items.ensures.value) in
    rw k (map_over_more spec.older c.args.rows.now.items c.loop-row.row-items c.loop-row.row-index c.row-item.result within c.loop-row.invariant c.row-item.is)
