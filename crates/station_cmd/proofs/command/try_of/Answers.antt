use Rattle.std.proofs.Common.{◌≡◌, ◌<◌, refl, length, arith}
use Rattle.std.specs.Prelude.{string_bytes}
use Rattle.std.proofs.lemmas.List.{length-map}
use Rattle.station_cmd.specs.Words.{texts_of}
use Rattle.station_cmd.proofs.Commands.{no_try}
use Rattle.station_cmd.proofs.command.try_of.Goals as goal

pub returns-then-count-eq0 : goal.returns-then-count-eq0
returns-then-count-eq0 c =
    no_try (texts_of c.args.files.now) (λ some few. let many = length-map c.args.files.now (λ w. string_bytes w) in omega (arith, some, many))

pub returns-then-count-gt-MAX_FILES : goal.returns-then-count-gt-MAX_FILES
returns-then-count-gt-MAX_FILES c =
    no_try (texts_of c.args.files.now) (λ some few. let many = length-map c.args.files.now (λ w. string_bytes w) in omega (arith, few, many))

pub returns-else-count-gt-MAX_FILES : goal.returns-else-count-gt-MAX_FILES
returns-else-count-gt-MAX_FILES c =
    let many = length-map c.args.files.now (λ w. string_bytes w) in
    ((refl, omega (arith, many), omega (arith, many)), tt)
