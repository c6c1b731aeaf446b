use Rattle.std.proofs.Common.{◌≡◌, ap, arith, length, refl}
use Rattle.std.specs.Prelude.{nat_lt}
use Rattle.station_trial.specs.Outlets.{new_outlet}
use Rattle.station_trial.proofs.Placing.{as_many}
use Rattle.station_trial.proofs.Stands.{outlet_as}
use Rattle.station_trial.proofs.trial.Trial.new.Goals as goal

pub returns : goal.returns
returns c =
    let made = c.in_ok-tried.ensures in
    let all : length c.in_ok-tried.tried.items ≡ length made.0 = as_many c.in_ok-tried.tried.items made.0 made.2 in
    let many : c.len-numbers.result ≡ length made.0 = omega (arith, c.len-numbers.ensures, made.3, all) in (
      made.0,
      made.1,
      record { tried = made.2; outlet = outlet_as _ _ _ (ap (λ n. new_outlet (nat_lt 1 n)) many) c.new.ensures; time = refl; at = refl },
    )
