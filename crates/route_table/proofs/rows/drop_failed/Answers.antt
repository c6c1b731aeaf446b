use Rattle.std.proofs.Common.{rules}
use Rattle.std.proofs.lemmas.Fn.{filter_same}
use Rattle.route_table.specs.Rows as spec
use Rattle.route_table.proofs.rows.drop_failed.Goals as goal

pub returns-clause-items : goal.returns-clause-items
returns-clause-items c = filter_same _ (spec.outlives c.args.neighbour.now) _ (λ x b f h. (search rules, search rules)) _ _ c.retain.ensures.filtered
