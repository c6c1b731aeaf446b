-- What holds of every network that a file lays down. Own profile.
use Rattle.std.specs.Prelude.{ℕ, ◌≡◌, ◌≤◌, ◌==◌, ◌&&◌, List, [], ◌∷◌, Ok, true, false}
use Rattle.std.specs.List.{AllByRecursion}
pub use Rattle.ax_address.specs.Callsign.{IsCall}
use Rattle.network_file.specs.declared.plan.instructions.NumberedInstruction.{NumberedInstruction}
use Rattle.network_file.specs.declared.plan.declarations.Declaration.{Declaration}
use Rattle.network_file.specs.declared.plan.instructions.Instruction.{Instruction}
use Rattle.network_file.specs.declared.plan.instructions.Instruction.TheVariants as instructions
use Rattle.network_file.specs.declared.plan.keys.Key.TheVariants.{Mail, Prompt}
use Rattle.network_file.specs.declared.plan.vias.Via.{Via}
use Rattle.network_file.specs.Keys.{Assignment, is_known, least_of, most_of, takes, value_of}
use Rattle.network_file.specs.Networks.{network_of}
use Rattle.network_file.specs.Pairs.{PairNumbers}
use Rattle.network_file.specs.Places.{has_call, has_node}
use Rattle.network_file.specs.Plan.{Plan, version_of}

-- a setting is one that files of a version may have: the key and the value
abbrev pub IsAllowed : ℕ → Assignment → Type 0
IsAllowed version s = (is_known version s.key ≡ true) × (takes version s.key s.value ≡ true)

-- each setting is one that files of the network's version may have
abbrev pub SettingsFit : Type 0
SettingsFit = (bytes : List ℕ) (plan : Plan) → network_of bytes ≡ Ok plan → AllByRecursion (IsAllowed (version_of plan)) plan.settings

-- no node both serves users at a prompt and keeps mail
abbrev pub NoMailAtPrompts : Type 0
NoMailAtPrompts =
    (bytes : List ℕ) (plan : Plan) (node : ℕ) → network_of bytes ≡ Ok plan
    → ((value_of plan.settings node Mail == 1) && (value_of plan.settings node Prompt == 1)) ≡ false

-- and its value is within the range of its key
abbrev pub IsInRange : Assignment → Type 0
IsInRange s = (least_of s.key ≤ s.value) × (s.value ≤ most_of s.key)

abbrev pub SettingsInRange : Type 0
SettingsInRange = (bytes : List ℕ) (plan : Plan) → network_of bytes ≡ Ok plan → AllByRecursion IsInRange plan.settings

-- no two of them have one number
abbrev pub AreDifferent : List Declaration → Type 0
AreDifferent [] = Unit {0}
AreDifferent (d ∷ ds) = (has_node ds d.node ≡ false) × AreDifferent ds

-- each node is declared once
abbrev pub DeclaredOnce : Type 0
DeclaredOnce = (bytes : List ℕ) (plan : Plan) → network_of bytes ≡ Ok plan → AreDifferent plan.declared

-- no two of them have one call
abbrev pub HaveOwnCalls : List Declaration → Type 0
HaveOwnCalls [] = Unit {0}
HaveOwnCalls (d ∷ ds) = (has_call ds d.call ≡ false) × HaveOwnCalls ds

-- each call is that of one node
abbrev pub CallsDeclaredOnce : Type 0
CallsDeclaredOnce = (bytes : List ℕ) (plan : Plan) → network_of bytes ≡ Ok plan → HaveOwnCalls plan.declared

-- who is heard, to whom a route is locked, for whom a circuit is asked, and a mail's user and the user's node
abbrev pub NamesCalls : Instruction → Type 0
NamesCalls (instructions.Heard node call nodes) = IsCall call
NamesCalls (instructions.Lock node dest alias neighbour quality) = IsCall neighbour
NamesCalls (instructions.Open node dest) = IsCall dest
NamesCalls (instructions.Post node to dest text) = IsCall to × IsCall dest
NamesCalls _ = Unit {0}

-- these are calls, those of the nodes, and all repeaters
pub record HasCalls (plan : Plan) : Type 0 where
  pub nodes : AllByRecursion (λ (d : Declaration). IsCall d.call) plan.declared
  pub vias : AllByRecursion (λ (v : Via). AllByRecursion IsCall v.repeaters.items) plan.vias
  pub lines : AllByRecursion (λ (l : NumberedInstruction). NamesCalls l.instruction) plan.instructions

abbrev pub CallsAreCalls : Type 0
CallsAreCalls = (bytes : List ℕ) (plan : Plan) → network_of bytes ≡ Ok plan → HasCalls plan

-- a node starts again at two numbers from 1 to 255
pub record ArePairNumbers (p : PairNumbers) : Type 0 where
  pub index_some : 1 ≤ p.index
  pub index_most : p.index ≤ 255
  pub ident_some : 1 ≤ p.ident
  pub ident_most : p.ident ≤ 255

abbrev pub NamesPair : Instruction → Type 0
NamesPair (instructions.Restart node pair) = ArePairNumbers pair
NamesPair _ = Unit {0}

abbrev pub PairsArePairs : Type 0
PairsArePairs =
    (bytes : List ℕ) (plan : Plan) → network_of bytes ≡ Ok plan
    → AllByRecursion (λ (l : NumberedInstruction). NamesPair l.instruction) plan.instructions
