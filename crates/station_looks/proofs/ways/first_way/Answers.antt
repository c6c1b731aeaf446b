use Rattle.std.proofs.Common.{◌<◌, ◌≤◌, ◌∙◌, ℕ, List, arith, ap, flat_map, length, sym}
use Rattle.std.specs.Prelude.{None, slice_get}
use Rattle.station_looks.specs.Naming.{ways_at}
use Rattle.station_looks.proofs.Places.{first_here, first_later, first_none, rest_all}
use Rattle.station_looks.proofs.ways.first_way.Goals as goal

pub loop-at-init : goal.loop-at-init
loop-at-init c = λ s stand. ap (λ (xs : List ℕ). slice_get (flat_map (ways_at None c.args.dest.now s) xs) 0) (sym (rest_all (length s.nodes)))

pub returns-in-Some : goal.returns-in-Some
returns-in-Some c = λ s stand.
    let h : c.loop-at.at < length s.nodes = omega (arith, c.loop-at-test.true, c.len-at-end.ensures s stand) in
    sym (c.loop-at.invariant s stand ∙ first_here (ways_at None c.args.dest.now s) c.in-Some.way c.loop-at.at (length s.nodes) h (sym (c.in-Some.ensures s stand)))

pub loop-at-preserved : goal.loop-at-preserved
loop-at-preserved c = λ s stand.
    let h : c.loop-at.at < length s.nodes = omega (arith, c.loop-at-test.true, c.len-at-end.ensures s stand) in
    c.loop-at.invariant s stand ∙ first_later (ways_at None c.args.dest.now s) c.loop-at.at (length s.nodes) h (sym (c.in_default.ensures s stand))

pub returns : goal.returns
returns c = λ s stand.
    let h : length s.nodes ≤ c.loop-at.at = omega (arith, c.loop-at-test.false, c.len-at-end.ensures s stand) in
    sym (c.loop-at.invariant s stand ∙ first_none (ways_at None c.args.dest.now s) c.loop-at.at (length s.nodes) h)
