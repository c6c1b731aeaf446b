use Rattle.std.proofs.Common.{◌≡◌, ◌∙◌, ap}
use Rattle.std.specs.Fmt.{decimal}
use Rattle.std.proofs.lemmas.Fmt.{parse-decimal}
use Rattle.tool_cmd.proofs.words.number_of.Goals as goal

-- the text that spells a number reads as that number, of which it is the text
pub returns-in_default-clause-none : goal.returns-in_default-clause-none
returns-in_default-clause-none c = λ n small is.
    let read = parse-decimal 64 n _ _ small small is c.parse.ensures.value.0 in
    let same : n ≡ c.in-Ok.n = cc (read, c.in-Ok.is) in
    let yes = c.is_decimal.ensures.1 (is ∙ ap decimal same) in
    absurd (cc (yes, c.if-is_decimal.false))

pub returns-in_default-2-clause-none : goal.returns-in_default-2-clause-none
returns-in_default-2-clause-none c = λ n small is. absurd (cc (parse-decimal 64 n _ _ small small is c.parse.ensures.value.0, c.in_default.is))
