-- The last items of a list, of which there is at most one too many.
use Rattle.std.proofs.Common.{◌≡◌, ◌≤◌, ◌-◌, ℕ, suc, List, refl, length, drop, arith}
use Rattle.station_ports.specs.Lasts.{last}

-- where they fit, they are all
pub last_all : {A : Type 0} (n : ℕ) (xs : List A) → length xs ≤ n → last n xs ≡ xs
last_all n xs h = let none : length xs - n ≡ 0 = omega (arith, h) in rw none refl

-- where there is one more, the first one isn't among them
pub last_but_one : {A : Type 0} (n : ℕ) (xs : List A) → length xs ≡ suc n → last n xs ≡ drop 1 xs
last_but_one n xs h = let one : length xs - n ≡ 1 = omega (arith, h) in rw one refl
