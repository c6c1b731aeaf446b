-- Addresses and routes as texts: A.B.C.D, and A.B.C.D/L,A.B.C.D. (RFC 791, section 3.2, as numbers in decimal; own profile.)
use Rattle.std.specs.Prelude.{ℕ, ◌≡◌, ◌+◌, ◌-◌, ◌*◌, List, [], ◌∷◌, position, ◌&&◌, ◌==◌, nat_le, not, Option, Some, None, MatchOption, if◌then◌else◌}
use Rattle.text_lines.specs.Lines.{is_digit, parted}
use Rattle.tool_cmd.specs.declared.ip.texts.RouteText.{RouteText}

-- a call answers with what there is, as `view` shows it, or with none where there is none
abbrev pub Gives : {A X : Type 0} → Option X → Option A → (X → A) → Type 0
Gives result answer view = MatchOption result (answer ≡ None) (λ x. answer ≡ Some (view x))

abbrev pub small : ℕ → Option ℕ
small n = if nat_le n 255 then Some n else None

-- a decimal number from 0 to 255 without leading zeros
abbrev pub octet_at : List ℕ → Option ℕ
octet_at (a ∷ []) = if is_digit a then Some (a - 48) else None
octet_at (a ∷ b ∷ []) = if is_digit a && not (a == 48) && is_digit b then Some (10 * (a - 48) + (b - 48)) else None
octet_at (a ∷ b ∷ c ∷ []) =
    if is_digit a && not (a == 48) && is_digit b && is_digit c
    then small (100 * (a - 48) + 10 * (b - 48) + (c - 48)) else None
octet_at _ = None

infixl 10 ◌>>=◌
abbrev pub ◌>>=◌ : {A B : Type 0} → Option A → (A → Option B) → Option B
(Some x) >>= f = f x
None >>= f = None

-- what stands before and behind the first such character
abbrev pub parts_at : ℕ → List ℕ → Option (List ℕ × List ℕ)
parts_at mark text = parted (position (λ b. b == mark) text) text

-- four numbers with points between them
unfoldable pub address_at : List ℕ → Option ℕ
address_at text = do
  first ← parts_at 46 text
  second ← parts_at 46 first.1
  third ← parts_at 46 second.1
  a ← octet_at first.0
  b ← octet_at second.0
  c ← octet_at third.0
  d ← octet_at third.1
  Some (16777216 * a + 65536 * b + 256 * c + d)

-- what stands before and behind the comma, and before and behind the stroke of the former
unfoldable pub route_at : List ℕ → Option RouteText
route_at text = do
  whole ← parts_at 44 text
  front ← parts_at 47 whole.0
  prefix ← address_at front.0
  len ← octet_at front.1
  hop ← address_at whole.1
  Some (record { prefix = prefix; len = len; hop = hop })
