use Rattle.std.proofs.Common.{◌∙◌, ap, take}
use Rattle.std.specs.List.{prefix_len}
use Rattle.route_table.specs.Table.{is_to}
use Rattle.route_table.proofs.Groups.{few_of_first, take_few}
use Rattle.route_table.proofs.listing.best_of_first.Goals as goal

pub returns-in-Some : goal.returns-in-Some
returns-in-Some c =
    ap (λ n. take n c.args.rows.now) (c.run_to.ensures.run ∙ ap (prefix_len (is_to c.in-Some.first.now.dest)) (take_few 3 c.args.rows.now c.min.result c.min.ensures))
    ∙ few_of_first c.args.rows.now c.in-Some.first.now c.in-Some.ensures.value
