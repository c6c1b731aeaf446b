-- Numbers on the air: those of links count modulo 8 or 128 (AX.25 2.2, section 4.2), those of circuits modulo 256
-- (NET/ROM Appendix B).
use Rattle.std.specs.Prelude.{◌≡◌, ℕ, ◌+◌, ◌-◌, ◌%◌, ◌<◌, ◌≤◌, ◌==◌, ◌&&◌, nat_lt, if◌then◌else◌, Bool, Option, Some, None}
use Rattle.radio_base.specs.declared.modulus.LinkModulus.{LinkModulus}
use Rattle.radio_base.specs.declared.modulus.LinkModulus.TheVariants.{Modulo8, Modulo128}

-- d is the least number of steps from one number to another
pub record IsDistance (size from to d : ℕ) : Type 0 where
  pub meets : (from + d) % size ≡ to
  pub least : (other : ℕ) → (from + other) % size ≡ to → d ≤ other

-- x is one of the len numbers from base on, and n on the air
pub record IsPlace (size n base len x : ℕ) : Type 0 where
  pub from : base ≤ x
  pub below : x < base + len
  pub wire : x % size ≡ n

-- how far behind base the next number is that is n on the air
abbrev pub steps_to : ℕ → ℕ → ℕ → ℕ
steps_to size n base = (n + (size - base % size)) % size

-- the first number from base on that is n on the air, if it is one of the first len; a number from size on has no place
abbrev pub place_of : ℕ → ℕ → ℕ → ℕ → Option ℕ
place_of size n base len =
    if nat_lt n size && nat_lt (steps_to size n base) len then Some (base + steps_to size n base) else None

-- among as many numbers as there are on the air, at most one is n on the air
abbrev pub OnePlace : Type 0
OnePlace =
    (size n base len x y : ℕ) → 0 < size → len ≤ size → IsPlace size n base len x → IsPlace size n base len y → x ≡ y

-- ---- the modulus of a link, as a value

-- how many numbers there are
abbrev pub modulus_size : LinkModulus → ℕ
modulus_size Modulo8 = 8
modulus_size Modulo128 = 128

-- the modulus with so many numbers, which are 8 or 128
abbrev pub link_modulus : ℕ → LinkModulus
link_modulus size = if size == 8 then Modulo8 else Modulo128

-- modulo 128 where this holds, else modulo 8
abbrev pub extended_if : Bool → LinkModulus
extended_if extended = if extended then Modulo128 else Modulo8
