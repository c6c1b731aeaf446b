-- The commands, and the words that ask for them.
use Rattle.std.specs.Prelude.{ℕ, ◌≡◌, List, [], ◌∷◌, map, codes, Option, None, Some, String, string_bytes}
use Rattle.std.specs.declared.alloc.Global.{Global}
use Rattle.radio_base.specs.declared.modulus.LinkModulus.{LinkModulus}
use Rattle.radio_base.specs.declared.modulus.LinkModulus.TheVariants.{Modulo8, Modulo128}
use Rattle.look_cmd.specs.declared.command.LookCommand.{LookCommand}
use Rattle.look_cmd.specs.declared.command.LookCommand.TheVariants.{Listen, Trace}

abbrev pub modulo_word : Option LinkModulus → List ℕ
modulo_word None = codes "modulo=auto"
modulo_word (Some Modulo8) = codes "modulo=8"
modulo_word (Some Modulo128) = codes "modulo=128"

abbrev pub Ask : List (List ℕ) → LookCommand → Type 0
Ask words (Listen m) = words ≡ codes "listen" ∷ modulo_word m ∷ []
Ask words Trace = words ≡ codes "trace" ∷ []

-- these words ask for the command
abbrev pub AskFor : List (String Global) → LookCommand → Type 0
AskFor words command = Ask (map (λ w. string_bytes w) words) command
