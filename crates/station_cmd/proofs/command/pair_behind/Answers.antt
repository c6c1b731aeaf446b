use Rattle.std.proofs.Common.{◌≡◌, ◌+◌, ◌∙◌, refl, ap, subst, take}
use Rattle.std.specs.Prelude.{None}
use Rattle.std.proofs.lemmas.List.{take_rest}
use Rattle.station_cmd.specs.Words.{pair_at_comma, pair_in}
use Rattle.station_cmd.proofs.command.pair_behind.Goals as goal

pub returns-in-Some-clause-value : goal.returns-in-Some-clause-value
returns-in-Some-clause-value c =
    let numbers = c.args.numbers.now in
    let at = c.in-Some.at in
    subst (λ o. c.pair_in.result ≡ pair_at_comma numbers o) c.in-Some.ensures.place
    (c.pair_in.ensures.value ∙ ap (λ rest. pair_in (take at numbers) rest) (take_rest numbers (at + 1)))

pub returns-in-None-clause-value : goal.returns-in-None-clause-value
returns-in-None-clause-value c = subst (λ o. None ≡ pair_at_comma c.args.numbers.now o) c.in-None.ensures.place refl
