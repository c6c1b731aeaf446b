use Rattle.std.proofs.Common.{◌∙◌, ap}
use Rattle.route_table.specs.Rows.{best_of}
use Rattle.route_table.proofs.Standing.{table_is}
use Rattle.route_table.proofs.table.RouteTable.routes.Goals as goal

pub returns : goal.returns
returns c =
    rw (← c.self.view_is)
    (λ log s. c.best_of.ensures ∙ ap (λ xs. best_of xs c.args.dest.now) (c.deref.ensures.value ∙ table_is c.self.inside.own c.self.inside.rules c.self.inside.rows.items log c.self.invariant.1.1 s))
