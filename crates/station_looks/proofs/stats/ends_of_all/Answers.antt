use Rattle.std.proofs.Common.{◌≡◌, ◌++◌, ◌∙◌, ℕ, ap, arith, length}
use Rattle.station_looks.specs.Nodes.{ends_at}
use Rattle.station_looks.proofs.Places.{all_collected, collected}
use Rattle.station_looks.proofs.stats.ends_of_all.Goals as goal

pub loop-at-preserved : goal.loop-at-preserved
loop-at-preserved c = λ s stand.
    collected (λ (at : ℕ). ends_at at s) c.loop-at.at c.loop-at.all.items c.extend_from_slice.new.self.items (c.loop-at.invariant s stand)
    (c.in_ok-extend_from_slice.ensures.items
    ∙ ap (λ xs. c.loop-at.all.items ++ xs) (c.deref.ensures.value ∙ c.in_ok-ends_at.ensures s stand))

pub returns : goal.returns
returns c = λ s stand.
    let e : c.loop-at.at ≡ length s.nodes = omega (arith, c.loop-at-test.false, c.loop-at.auto.at-end, c.len-at-end.ensures s stand) in
    all_collected (λ (at : ℕ). ends_at at s) c.loop-at.at (length s.nodes) c.loop-at.all.items e (c.loop-at.invariant s stand)
