use Rattle.std.proofs.Common.{◌≡◌, ◌∙◌, true, false, arith, ap, sym, rules}
use Rattle.std.proofs.lemmas.List.Sums.{prefix_len-drop_yes, prefix_len-drop_no, prefix_len-drop_all}
use Rattle.ax_address.specs.Callsign.{same_call}
use Rattle.route_table.specs.declared.route.Route.{Route}
use Rattle.route_table.specs.Table.{is_to}
use Rattle.route_table.proofs.listing.run_to.Goals as goal

pub loop-at-init : goal.loop-at-init
loop-at-init c = omega arith

pub loop-at-preserved : goal.loop-at-preserved
loop-at-preserved c =
    let same : same_call c.index-rows-at.result.dest c.args.dest.now ≡ true = search rules in
    omega (arith, c.loop-at.invariant, prefix_len-drop_yes (is_to c.args.dest.now) c.args.rows.now c.loop-at.at c.index-rows-at.result c.loop-at-test.true (ap (λ (r : Route). same_call r.dest c.args.dest.now) (sym c.index-rows-at.is) ∙ same))

pub returns-then-ne-clause-run : goal.returns-then-ne-clause-run
returns-then-ne-clause-run c =
    let other : same_call c.index-rows-at.result.dest c.args.dest.now ≡ false = search rules in
    omega (arith, c.loop-at.invariant, prefix_len-drop_no (is_to c.args.dest.now) c.args.rows.now c.loop-at.at c.index-rows-at.result c.loop-at-test.true (ap (λ (r : Route). same_call r.dest c.args.dest.now) (sym c.index-rows-at.is) ∙ other))

pub returns-clause-run : goal.returns-clause-run
returns-clause-run c = omega (arith, c.loop-at.invariant, prefix_len-drop_all (is_to c.args.dest.now) c.args.rows.now c.loop-at.at c.loop-at-test.false)
