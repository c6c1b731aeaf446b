use Rattle.std.proofs.Common.{◌∙◌, ap, take, drop}
use Rattle.route_table.proofs.Groups.{told}
use Rattle.route_table.proofs.Standing.{table_is}
use Rattle.route_table.proofs.table.RouteTable.entries.Goals as goal

pub returns : goal.returns
returns c =
    rw (← c.self.view_is)
    (λ log s. c.entries_of.ensures ∙ ap (λ xs. take 11 (drop c.args.from (told c.self.inside.rules.least xs))) (c.deref.ensures.value ∙ table_is c.self.inside.own c.self.inside.rules c.self.inside.rows.items log c.self.invariant.1.1 s))
