use Rattle.std.proofs.Common.{◌≡◌, ◌∷◌, ap, length, arith}
use Rattle.std.specs.Prelude.{codes, string_bytes}
use Rattle.std.proofs.lemmas.List.{length-map}
use Rattle.station_cmd.specs.Words.{texts_of}
use Rattle.station_cmd.proofs.Commands.{no_check, one_file}
use Rattle.station_cmd.proofs.command.check_of.Goals as goal

pub returns-then-count-eq1 : goal.returns-then-count-eq1
returns-then-count-eq1 c =
    let one : length c.args.rest.now ≡ 1 = omega arith in
    (ap (λ ts. codes "check" ∷ ts) (one_file c.args.rest.now c.index-rest-0.result c.as_str.result.now one c.index-rest-0.is c.as_str.ensures.value), tt)

pub returns-else-count-eq1 : goal.returns-else-count-eq1
returns-else-count-eq1 c =
    no_check (texts_of c.args.rest.now) (λ e. let many = length-map c.args.rest.now (λ w. string_bytes w) in omega (arith, e, many))
