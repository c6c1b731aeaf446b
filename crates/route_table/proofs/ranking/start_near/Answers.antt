use Rattle.std.proofs.Common.{◌∙◌, ◌+◌, ap}
use Rattle.route_table.specs.Places.{start_of}
use Rattle.route_table.proofs.Placing.{start_behind, drop_rows, whole_tail}
use Rattle.route_table.proofs.ranking.start_near.Goals as goal

pub start_soon-requires : goal.start_soon-requires
start_soon-requires c = rw (whole_tail c.args.from c.args.rows.now) (drop_rows c.args.from c.args.rows.now c.requires)

pub returns-then-leads_lower-clause-place :
    goal.returns-then-leads_lower-clause-place
returns-then-leads_lower-clause-place c =
    let place = c.start_soon.ensures.place ∙ ap (start_of c.args.dest.now) (whole_tail c.args.from c.args.rows.now) in
    ap (λ n. c.args.from + n) place
    ∙ start_behind c.args.dest.now c.args.rows.now c.args.from c.requires (c.leads_lower.ensures.within c.if-leads_lower.true) (c.leads_lower.ensures.lower c.if-leads_lower.true)
