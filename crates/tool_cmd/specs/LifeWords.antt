-- The words of `life`: `modulo=8` or `modulo=128`, `srej=0` or `srej=1`, and `delay=D`. Own profile.
use Rattle.std.specs.Prelude.{ℕ, ◌≡◌, ◌⊎◌, ◌≤◌, ◌++◌, List, [], ◌∷◌, length, Bool, true, false, codes}
use Rattle.std.specs.Fmt.{decimal}
use Rattle.tool_cmd.specs.declared.lives.settings.LifeSettings.{LifeSettings}
use Rattle.tool_cmd.specs.Frames.{modulo_word}

abbrev pub srej_word : Bool → List ℕ
srej_word false = codes "srej=0"
srej_word true = codes "srej=1"

-- the milliseconds in decimal, without a sign and without leading zeros
abbrev pub delay_word : ℕ → List ℕ
delay_word delay = codes "delay=" ++ decimal delay

-- the word is one of these
abbrev pub Among : List ℕ → List (List ℕ) → Type 0
Among word [] = ⊥
Among word (w ∷ ws) = (w ≡ word) ⊎ Among word ws

-- three words, and among them one for each setting
unfoldable pub AreSettings : List (List ℕ) → LifeSettings → Type 0
AreSettings words s =
    (length words ≡ 3) × Among (modulo_word s.modulus) words × Among (srej_word s.srej) words
    × Among (delay_word s.delay) words × (s.delay ≤ 1499)
