-- The air is emptied, frame by frame.
use Rattle.std.proofs.Common.{◌≡◌, ◌<◌, ◌≤◌, ◌+◌, ◌-◌, suc, ℕ, refl, sym, ap, arith}
use Rattle.std.specs.Prelude.{Some, None}
use Rattle.station_trial.specs.declared.air.Flight.{Flight}
use Rattle.station_trial.specs.Outlets.{landed}
use Rattle.station_trial.specs.Trials.{TrialState, at_outlet, clear, clear_by, deliver, first_flight}

pub next : (k : ℕ) (s : TrialState) (flight : Flight) → k < 1000000 → Some flight ≡ first_flight s → clear (1000000 - k) s ≡ clear (1000000 - (k + 1)) (deliver flight (at_outlet landed s))
next k s flight h is =
    let left : 1000000 - k ≡ suc (1000000 - (k + 1)) = omega (arith, h) in
    rw left (ap (λ f. clear_by f (clear (1000000 - (k + 1))) s) (sym is))

pub last : (k : ℕ) (s : TrialState) → k < 1000000 → None ≡ first_flight s → clear (1000000 - k) s ≡ at_outlet landed s
last k s h is =
    let left : 1000000 - k ≡ suc (1000000 - (k + 1)) = omega (arith, h) in
    rw left (ap (λ f. clear_by f (clear (1000000 - (k + 1))) s) (sym is))

pub done : (k : ℕ) (s : TrialState) → 1000000 ≤ k → clear (1000000 - k) s ≡ s
done k s h = let left : 1000000 - k ≡ 0 = omega (arith, h) in rw left refl
