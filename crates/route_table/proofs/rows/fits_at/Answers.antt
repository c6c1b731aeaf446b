use Rattle.std.proofs.Common.{◌≡◌, ◌∙◌, sym, ap, rules}
use Rattle.std.proofs.lemmas.List.{get_or_default}
use Rattle.route_table.specs.declared.route.Route.{Route}
use Rattle.route_table.proofs.Changing.{fits_same}
use Rattle.route_table.proofs.rows.fits_at.Goals as goal

pub returns-then-rows-at : goal.returns-then-rows-at
returns-then-rows-at c = λ _.
    let as_good : c.index-rows-at.result.quality ≡ c.args.route.now.quality = search rules in
    let there = get_or_default c.args.rows.now c.args.at c.args.route.now c.index-rows-at.result c.requires.pair.0 ∙ sym c.index-rows-at.is in
    fits_same c.args.route.now c.args.rows.now c.args.at c.requires.order c.requires.pair (ap (λ (r : Route). r.quality) there ∙ as_good)
