-- What the code of a screen keeps, and for which states it stands.
use Rattle.std.specs.Prelude.{ℕ, ◌≡◌, Bool, List, Option}
use Rattle.station_screen.specs.Screens.{Shown, Spells}

-- what contracts see of a screen
pub record Kept : Type 0 where
  pub numbers : Bool
  pub unended : Option ℕ
  pub text : List ℕ

abbrev pub view_of : Bool → Option ℕ → List ℕ → Kept
view_of numbers unended text = record { numbers = numbers; unended = unended; text = text }

pub record ScreenStands (k : Kept) (s : Shown) : Type 0 where
  pub numbers : k.numbers ≡ s.numbers
  pub unended : k.unended ≡ s.unended
  pub spells : Spells s.pieces k.text

abbrev pub ScreenGoes : (Shown → Shown) → Kept → Kept → Type 0
ScreenGoes step old new = (s : Shown) → ScreenStands old s → ScreenStands new (step s)
