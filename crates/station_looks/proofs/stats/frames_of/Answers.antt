use Rattle.std.proofs.Common.{◌≡◌, ◌+◌, ◌-◌, ◌^◌, ◌∙◌, ℕ, ap, arith, map, sym}
use Rattle.std.specs.Prelude.{min, sum}
use Rattle.std.specs.List.{range_with_len}
use Rattle.std.proofs.lemmas.List.FromFn.{map-range_with_len_more}
use Rattle.std.proofs.lemmas.List.Sums.{sum_by_push}
use Rattle.station_members.specs.Looks.{came_at, went_at}
use Rattle.station_looks.specs.Rows.{total}
use Rattle.station_looks.proofs.stats.frames_of.Goals as goal

-- what stands still at the most stands still whatever is added
still : (a b most : ℕ) → min (min a most + b) most ≡ min (a + b) most
still a b most = omega arith

total_more : (f : ℕ → ℕ) (port count : ℕ) → count ≡ total (map f (range_with_len 0 port))
    → min (count + f port) (2 ^ 64 - 1) ≡ total (map f (range_with_len 0 (port + 1)))
total_more f port count was =
    let before = map f (range_with_len 0 port) in
    ap (λ k. min (k + f port) (2 ^ 64 - 1)) was
    ∙ (still (sum before) (f port) (2 ^ 64 - 1)
    ∙ ap (λ k. min k (2 ^ 64 - 1))
    (sym (ap sum (map-range_with_len_more f 0 port port (omega arith)) ∙ sum_by_push (λ (n : ℕ). n) before (f port))))

pub loop-port-preserved : goal.loop-port-preserved
loop-port-preserved c = λ s stand.
    let was = c.loop-port.invariant s stand in
    let came = λ (port : ℕ). came_at port s in
    let went = λ (port : ℕ). went_at port s in (
      c.saturating_add-came.ensures ∙ (ap (λ k. min (c.loop-port.came + k) (2 ^ 64 - 1)) (c.came.ensures s stand) ∙ total_more came c.loop-port.port c.loop-port.came was.0),
      c.saturating_add-went.ensures ∙ (ap (λ k. min (c.loop-port.went + k) (2 ^ 64 - 1)) (c.went.ensures s stand) ∙ total_more went c.loop-port.port c.loop-port.went was.1),
    )
