use Rattle.std.proofs.Common.{◌∙◌, ap, slice_get}
use Rattle.route_table.specs.Rows.{calls_of}
use Rattle.route_table.proofs.Standing.{table_is}
use Rattle.route_table.proofs.table.RouteTable.destination.Goals as goal

pub returns : goal.returns
returns c =
    rw (← c.self.view_is)
    (λ log s. c.destination_of.ensures ∙ ap (λ xs. slice_get (calls_of xs) c.args.nth) (c.deref.ensures.value ∙ table_is c.self.inside.own c.self.inside.rules c.self.inside.rows.items log c.self.invariant.1.1 s))
