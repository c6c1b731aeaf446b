-- The commands, and the words that ask for them.
use Rattle.std.specs.Prelude.{ℕ, ◌≡◌, ◌⊎◌, ◌<◌, ◌^◌, ◌++◌, List, [], ◌∷◌, Ok, codes, String}
use Rattle.std.specs.Fmt.{decimal}
use Rattle.std.specs.declared.alloc.Global.{Global}
use Rattle.network_file.specs.declared.plan.live.LiveNode.{LiveNode}
use Rattle.network_file.specs.Live.{live_node_at}
use Rattle.tool_cmd.specs.declared.ip.gateway.Gateway.{Gateway}
use Rattle.tool_cmd.specs.declared.lives.settings.LifeSettings.{LifeSettings}
use Rattle.node_cmd.specs.declared.command.RunCommand.{RunCommand}
use Rattle.node_cmd.specs.declared.command.RunCommand.TheVariants.{Replay, Frames, Soak, Life, Node, Ip}
use Rattle.radio_base.specs.declared.modulus.LinkModulus.{LinkModulus}
use Rattle.tool_cmd.specs.Frames.{modulo_word}
use Rattle.tool_cmd.specs.IpWords.{IsGateway}
use Rattle.tool_cmd.specs.LifeWords.{AreSettings}
use Rattle.tool_cmd.specs.Standing.{state_of}
use Rattle.tool_cmd.specs.WordTexts.{texts_of}

-- decimal, without a sign and without leading zeros
abbrev pub seed_word : ℕ → List ℕ
seed_word seed = codes "seed=" ++ decimal seed

-- the words behind `node` declare it
unfoldable pub Declare : List (List ℕ) → LiveNode → Type 0
Declare words declared = live_node_at words ≡ Ok declared

-- these words ask for the command; a seed is at most 2^64 - 1
abbrev pub Ask : List (List ℕ) → RunCommand → Type 0
Ask words Replay = words ≡ codes "replay" ∷ []
Ask words (Frames m) = words ≡ codes "frames" ∷ modulo_word m ∷ []
Ask words (Soak seed) = (words ≡ codes "soak" ∷ seed_word seed ∷ []) × (seed < 2 ^ 64)
Ask words (Life s) = (later : List (List ℕ)) × (words ≡ codes "life" ∷ later) × AreSettings later s
Ask words (Node declared) = (later : List (List ℕ)) × (words ≡ codes "node" ∷ later) × Declare later declared
Ask words (Ip gateway) =
    (later : List (List ℕ)) × (words ≡ codes "ip" ∷ later) × IsGateway later (state_of gateway)

abbrev pub AskFor : List (String Global) → RunCommand → Type 0
AskFor words command = Ask (texts_of words) command

-- for a live node
abbrev pub AskForNode : List (String Global) → Type 0
AskForNode words = (declared : LiveNode) × AskFor words (Node declared)

-- for a life
abbrev pub AskForLife : List (String Global) → Type 0
AskForLife words = (s : LifeSettings) × AskFor words (Life s)

-- for one that answers a stream as it comes
abbrev pub AskForStream : List (String Global) → Type 0
AskForStream words = ((m : LinkModulus) × AskFor words (Frames m)) ⊎ ((g : Gateway) × AskFor words (Ip g))
