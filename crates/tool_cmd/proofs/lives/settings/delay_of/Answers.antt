use Rattle.std.proofs.Common.{◌≡◌, rules, arith}
use Rattle.std.specs.Fmt.{decimal}
use Rattle.std.proofs.lemmas.Fmt.{decimal_injective}
use Rattle.tool_cmd.proofs.lives.settings.delay_of.Goals as goal

-- a number that is too large has a spelling of its own
pub returns-in_default-clause-none : goal.returns-in_default-clause-none
returns-in_default-clause-none c = λ n short is.
    let same : decimal c.in-Some.delay ≡ decimal n = cc (c.in-Some.ensures.found, is) in
    let one : c.in-Some.delay ≡ n = decimal_injective c.in-Some.delay n (search rules) (omega (arith, short)) same in
    absurd (omega (arith, one, short, c.if-delay-le-MAX_DELAY.false))
