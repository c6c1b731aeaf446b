use Rattle.std.proofs.Common.{◌≡◌, ◌<◌, ◌∙◌, true, false, arith, ap, sym, rules, length}
use Rattle.std.proofs.lemmas.List.Sums.{prefix_len-drop_yes, prefix_len-drop_no}
use Rattle.ax_address.specs.Callsign.{call_lt}
use Rattle.route_table.specs.declared.route.Route.{Route}
use Rattle.route_table.proofs.ranking.start_soon.Goals as goal

pub loop-at-init : goal.loop-at-init
loop-at-init c = omega arith

pub loop-at-preserved : goal.loop-at-preserved
loop-at-preserved c =
    let lower : call_lt c.index-rows-at.result.dest c.args.dest.now ≡ true = search rules in
    let within : c.loop-at.at < length c.args.rows.now = omega (arith, c.loop-at-test.true) in
    omega (arith, c.loop-at.invariant, prefix_len-drop_yes (λ (r : Route). call_lt r.dest c.args.dest.now) c.args.rows.now c.loop-at.at c.index-rows-at.result within (ap (λ (r : Route). call_lt r.dest c.args.dest.now) (sym c.index-rows-at.is) ∙ lower))

pub returns-then-not-is_lt-clause-place : goal.returns-then-not-is_lt-clause-place
returns-then-not-is_lt-clause-place c =
    let higher : call_lt c.index-rows-at.result.dest c.args.dest.now ≡ false = search rules in
    let within : c.loop-at.at < length c.args.rows.now = omega (arith, c.loop-at-test.true) in
    omega (arith, c.loop-at.invariant, prefix_len-drop_no (λ (r : Route). call_lt r.dest c.args.dest.now) c.args.rows.now c.loop-at.at c.index-rows-at.result within (ap (λ (r : Route). call_lt r.dest c.args.dest.now) (sym c.index-rows-at.is) ∙ higher))
