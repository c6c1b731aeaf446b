use Rattle.std.proofs.Common.{◌∙◌, sym, ap, subst}
use Rattle.route_table.specs.Places.{Stand}
use Rattle.route_table.specs.Table.{all_placed}
use Rattle.route_table.proofs.Waiting.{waiting_stand}
use Rattle.route_table.proofs.entering.take_all.Goals as goal

pub returns-clause-stand : goal.returns-clause-stand
returns-clause-stand c =
    subst Stand (sym (c.enter_all.ensures ∙ ap (λ xs. all_placed xs c.take_entries.new.rows.items) c.deref.ensures.0))
    (waiting_stand c.take_entries.new.waiting.items c.take_entries.new.rows.items c.take_entries.ensures.waiting)
