-- Words ask for one command at most: for one modulus, one seed, one life, one node, one gateway.
use Rattle.std.proofs.Common.{◌≡◌, ◌∙◌, ◌⊎◌, ◌∷◌, [], ℕ, List, refl, sym, subst, ap, get_or, inl, inr, String, Global}
use Rattle.std.specs.Prelude.{Ok, codes, nat_eq, false}
use Rattle.std.specs.Fmt.{decimal}
use Rattle.std.proofs.lemmas.Fmt.{decimal_injective}
use Rattle.std.proofs.lemmas.Bool.{eqb-false}
use Rattle.network_file.specs.declared.plan.live.LiveNode.{LiveNode}
use Rattle.tool_cmd.specs.declared.ip.gateway.Gateway.{Gateway}
use Rattle.tool_cmd.specs.declared.lives.settings.LifeSettings.{LifeSettings}
use Rattle.node_cmd.specs.declared.command.RunCommand.{RunCommand}
use Rattle.node_cmd.specs.declared.command.RunCommand.TheVariants.{Replay, Frames, Soak, Life, Node, Ip}
use Rattle.radio_base.specs.declared.modulus.LinkModulus.{LinkModulus}
use Rattle.radio_base.specs.declared.modulus.LinkModulus.TheVariants as modulo
use Rattle.tool_cmd.specs.IpWords.{IsGateway}
use Rattle.tool_cmd.specs.LifeWords.{AreSettings}
use Rattle.radio_base.specs.Modulus.{modulus_size}
use Rattle.tool_cmd.specs.Frames.{modulo_word}
use Rattle.tool_cmd.specs.Laws.{AreOfOneGateway, AreOfOneLife}
use Rattle.tool_cmd.specs.Standing.{state_of}
use Rattle.node_cmd.specs.Words.{Ask, AskFor, AskForLife, AskForStream, Declare, seed_word}

pub one_seed : (words : List (String Global)) (m n : ℕ) → AskFor words (Soak m) → AskFor words (Soak n) → m ≡ n
one_seed words m n a b = let same : decimal m ≡ decimal n = cc (sym a.0 ∙ b.0) in decimal_injective m n a.1 b.1 same

pub one_gateway : AreOfOneGateway → (words : List (String Global)) (g h : Gateway) → AskFor words (Ip g) → AskFor words (Ip h) → state_of g ≡ state_of h
one_gateway law words g h a b =
    let same : a.0 ≡ b.0 = cc (sym a.1 ∙ b.1) in
    law b.0 (state_of g) (state_of h) (subst (λ ws. IsGateway ws (state_of g)) same a.2) b.2

same_declared : (words : List (List ℕ)) (d e : LiveNode) → Declare words d → Declare words e → d ≡ e
unfolding Declare
same_declared words d e a b = let read : Ok d ≡ Ok e = sym a ∙ b in cc read

pub one_declared : (words : List (String Global)) (d e : LiveNode) → AskFor words (Node d) → AskFor words (Node e) → d ≡ e
one_declared words d e a b =
    let same : a.0 ≡ b.0 = cc (sym a.1 ∙ b.1) in
    same_declared b.0 d e (subst (λ ws. Declare ws d) same a.2) b.2

pub one_life : AreOfOneLife → (words : List (String Global)) (s t : LifeSettings) → AskFor words (Life s) → AskFor words (Life t) → s ≡ t
one_life law words s t a b =
    let same : a.0 ≡ b.0 = cc (sym a.1 ∙ b.1) in
    law b.0 s t (subst (λ ws. AreSettings ws s) same a.2) b.2

-- ---- the first word tells the commands apart

abbrev pub first_word : RunCommand → List ℕ
first_word Replay = codes "replay"
first_word (Frames m) = codes "frames"
first_word (Soak seed) = codes "soak"
first_word (Life s) = codes "life"
first_word (Node declared) = codes "node"
first_word (Ip gateway) = codes "ip"

headed : (words : List (List ℕ)) (c : RunCommand) → Ask words c → (later : List (List ℕ)) × (words ≡ first_word c ∷ later)
headed words Replay a = ([], a)
headed words (Frames m) a = (modulo_word m ∷ [], a)
headed words (Soak seed) a = (seed_word seed ∷ [], a.0)
headed words (Life s) a = (a.0, a.1)
headed words (Node declared) a = (a.0, a.1)
headed words (Ip gateway) a = (a.0, a.1)

same_first : (words : List (String Global)) (c d : RunCommand) → AskFor words c → AskFor words d → first_word c ≡ first_word d
same_first words c d a b = let x = headed _ c a in let y = headed _ d b in cc (sym x.1 ∙ y.1)

abbrev pub first_char : List ℕ → ℕ
first_char word = get_or word 0 0

-- the first character of that word
abbrev pub mark : RunCommand → ℕ
mark c = first_char (first_word c)

-- words that ask for one command don't ask for one of another kind
pub other : (words : List (String Global)) (c d : RunCommand) → nat_eq (mark c) (mark d) ≡ false → AskFor words c → AskFor words d → ⊥
other words c d two a b = eqb-false (mark c) (mark d) two (ap first_char (same_first words c d a b))

-- nor for one that runs no network and no node
pub runs_one : (words : List (String Global)) (c : RunCommand) → nat_eq (mark c) (first_char (codes "frames")) ≡ false → nat_eq (mark c) (first_char (codes "ip")) ≡ false → nat_eq (mark c) (first_char (codes "life")) ≡ false
    → AskFor words c → AskForStream words ⊎ AskForLife words → ⊥
runs_one words c frames ip life a (inl (inl s)) = other words c (Frames s.0) frames a s.1
runs_one words c frames ip life a (inl (inr s)) = other words c (Ip s.0) ip a s.1
runs_one words c frames ip life a (inr s) = other words c (Life s.0) life a s.1

same_size : (m n : LinkModulus) → modulo_word m ≡ modulo_word n → modulus_size m ≡ modulus_size n
same_size modulo.Modulo8 modulo.Modulo8 e = refl
same_size modulo.Modulo8 modulo.Modulo128 e = absurd (cc e)
same_size modulo.Modulo128 modulo.Modulo8 e = absurd (cc e)
same_size modulo.Modulo128 modulo.Modulo128 e = refl

pub one_modulus : (words : List (String Global)) (m n : LinkModulus) → AskFor words (Frames m) → AskFor words (Frames n) → modulus_size m ≡ modulus_size n
one_modulus words m n a b = same_size m n (cc (sym a ∙ b))
