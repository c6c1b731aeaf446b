-- The end of a list.
use Rattle.std.specs.Prelude.{ℕ, ◌-◌, List, length, drop}

-- the last n
abbrev pub last : {A : Type 0} → ℕ → List A → List A
last n xs = drop (length xs - n) xs
