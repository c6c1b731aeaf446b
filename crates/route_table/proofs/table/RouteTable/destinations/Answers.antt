use Rattle.std.proofs.Common.{◌∙◌, ap}
use Rattle.std.proofs.lemmas.Result.{IfOk-weaker}
use Rattle.route_table.specs.Rows.{calls_of}
use Rattle.route_table.proofs.Standing.{table_is}
use Rattle.route_table.proofs.table.RouteTable.destinations.Goals as goal

pub returns : goal.returns
returns c =
    rw (← c.self.view_is)
    (IfOk-weaker c.destinations_of.result _ _ (λ x e. λ log s. e ∙ ap (λ xs. calls_of xs) (c.deref.ensures.value ∙ table_is c.self.inside.own c.self.inside.rules c.self.inside.rows.items log c.self.invariant.1.1 s)) c.destinations_of.ensures)
