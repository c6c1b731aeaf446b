use Rattle.std.proofs.Common.{◌<◌, ◌≤◌, ◌∙◌, ℕ, List, arith, ap, length, sym}
use Rattle.std.specs.List.{find}
use Rattle.station_looks.specs.Ports.{is_on}
use Rattle.station_looks.proofs.Places.{found, not_found, not_here, rest_all}
use Rattle.station_looks.proofs.ports.first_on.Goals as goal

pub loop-at-init : goal.loop-at-init
loop-at-init c = λ s stand. ap (λ (xs : List ℕ). find (is_on c.args.port s) xs) (sym (rest_all (length s.nodes)))

pub returns-then-is_on : goal.returns-then-is_on
returns-then-is_on c = λ s stand.
    let h : c.loop-at.at < length s.nodes = omega (arith, c.loop-at-test.true, c.len-at-end.ensures s stand) in
    sym (c.loop-at.invariant s stand ∙ found (is_on c.args.port s) c.loop-at.at (length s.nodes) h (sym (c.is_on.ensures s stand) ∙ c.if-is_on.true))

pub loop-at-preserved : goal.loop-at-preserved
loop-at-preserved c = λ s stand.
    let h : c.loop-at.at < length s.nodes = omega (arith, c.loop-at-test.true, c.len-at-end.ensures s stand) in
    c.loop-at.invariant s stand ∙ not_here (is_on c.args.port s) c.loop-at.at (length s.nodes) h (sym (c.is_on.ensures s stand) ∙ c.if-is_on.false)

pub returns : goal.returns
returns c = λ s stand.
    let h : length s.nodes ≤ c.loop-at.at = omega (arith, c.loop-at-test.false, c.len-at-end.ensures s stand) in
    sym (c.loop-at.invariant s stand ∙ not_found (is_on c.args.port s) c.loop-at.at (length s.nodes) h)
