-- What a joiner keeps.
use Rattle.std.proofs.Common.{◌≡◌, ◌≤◌, ◌+◌, ◌*◌, ◌-◌, ◌%◌, ◌==◌, ℕ, zero, suc, Bool, true, false, List, [], ◌∷◌, ◌++◌, length, length-append, refl, arith, if◌then◌else◌}
use Rattle.std.specs.Prelude.{nat_lt, None, Some}
use Rattle.ax_segment.specs.declared.TheConstants.{FIRST_BIT}
use Rattle.ax_segment.specs.Joining.{Answer, Broken, HeldMessage, Nothing, Part, More, Whole, begun_by, begun_with, continued_by, counted, IsWithin, KeepsFew, StaysWithin}

counted_within : (pid : ℕ) (bytes : List ℕ) (to_come : ℕ) → length bytes + 255 * to_come ≤ 32639 → IsWithin (counted pid bytes to_come).0
counted_within pid bytes to_come few = by (to_come == 0)
  where
    both : Bool → HeldMessage × Answer
    both b = if b then (Nothing, Whole pid bytes) else (Part pid bytes to_come, More)

    by : (b : Bool) → IsWithin (both b).0
    by true = tt
    by false = few

begun_within : (to_come : ℕ) (rest : List ℕ) → to_come ≤ 127 → length rest ≤ 255 → IsWithin (begun_with to_come rest).0
begun_within to_come [] few short = tt
begun_within to_come (pid ∷ bytes) few short = counted_within pid bytes to_come (omega (arith, few, short))

first_within : (header : ℕ) (rest : List ℕ) → length rest ≤ 255 → IsWithin (begun_by header rest).0
first_within header rest short = by (nat_lt header FIRST_BIT)
  where
    both : Bool → HeldMessage × Answer
    both b = if b then (Nothing, Broken None header) else begun_with (header % FIRST_BIT) rest

    by : (b : Bool) → IsWithin (both b).0
    by true = tt
    by false = begun_within (header % FIRST_BIT) rest (omega arith) short

next_within : (pid : ℕ) (bytes : List ℕ) (to_come header : ℕ) (rest : List ℕ) → length rest ≤ 255 → length bytes + 255 * to_come ≤ 32639 → IsWithin (continued_by pid bytes to_come header rest).0
next_within pid bytes to_come header rest short few = by (header == to_come - 1)
  where
    counted_by : Bool → HeldMessage × Answer
    counted_by b = if b then (Nothing, Whole pid (bytes ++ rest)) else (Part pid (bytes ++ rest) (to_come - 1), More)

    more : (n : ℕ) → to_come - 1 ≡ n → (b : Bool) → (n == 0) ≡ b → IsWithin (counted_by b).0
    more n e true f = tt
    more zero e false f = absurd (cc f)
    more (suc n) e false f = omega (arith, length-append bytes rest, e, short, few)

    both : Bool → HeldMessage × Answer
    both b = if b then counted pid (bytes ++ rest) (to_come - 1) else (Nothing, Broken (Some (to_come - 1)) header)

    by : (b : Bool) → IsWithin (both b).0
    by true = more (to_come - 1) refl (to_come - 1 == 0) refl
    by false = tt

pub stays_within : StaysWithin
stays_within held [] short within = tt
stays_within Nothing (header ∷ rest) short within = first_within header rest (omega (arith, short))
stays_within (Part pid bytes to_come) (header ∷ rest) short within = next_within pid bytes to_come header rest (omega (arith, short)) within

pub keeps_few : KeepsFew
keeps_few Nothing within = omega arith
keeps_few (Part pid bytes to_come) within = omega (arith, within)
