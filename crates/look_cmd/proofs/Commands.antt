-- Words ask for one command at most, and for one modulus.
use Rattle.std.proofs.Common.{◌≡◌, ◌∙◌, List, refl, sym, String, Global}
use Rattle.std.specs.Prelude.{Option, None, Some}
use Rattle.radio_base.specs.declared.modulus.LinkModulus.{LinkModulus}
use Rattle.radio_base.specs.declared.modulus.LinkModulus.TheVariants.{Modulo8, Modulo128}
use Rattle.look_cmd.specs.declared.command.LookCommand.TheVariants.{Listen, Trace}
use Rattle.look_cmd.specs.Words.{AskFor, modulo_word}

one_word : (m n : Option LinkModulus) → modulo_word m ≡ modulo_word n → m ≡ n
one_word None None e = refl
one_word None (Some Modulo8) e = absurd (cc e)
one_word None (Some Modulo128) e = absurd (cc e)
one_word (Some Modulo8) None e = absurd (cc e)
one_word (Some Modulo8) (Some Modulo8) e = refl
one_word (Some Modulo8) (Some Modulo128) e = absurd (cc e)
one_word (Some Modulo128) None e = absurd (cc e)
one_word (Some Modulo128) (Some Modulo8) e = absurd (cc e)
one_word (Some Modulo128) (Some Modulo128) e = refl

pub one_modulus : (words : List (String Global)) (m n : Option LinkModulus) → AskFor words (Listen m) → AskFor words (Listen n) → m ≡ n
one_modulus words m n a b = let same : modulo_word m ≡ modulo_word n = cc (sym a ∙ b) in one_word m n same

pub never_both : (words : List (String Global)) (m : Option LinkModulus) → AskFor words Trace → AskFor words (Listen m) → ⊥
never_both words m a b = cc (sym a ∙ b)
