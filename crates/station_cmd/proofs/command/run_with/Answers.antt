use Rattle.std.proofs.Common.{◌∷◌, [], refl, inr, sym}
use Rattle.station_cmd.proofs.Commands.{bad_pair}
use Rattle.station_cmd.proofs.command.run_with.Goals as goal

pub returns-in-Some : goal.returns-in-Some
returns-in-Some c =
    ((c.args.file.now ∷ c.args.word.now ∷ [], refl, inr (c.args.word.now, refl, sym c.in-Some.ensures.value)), c.in-Some.ensures.good)

pub returns-in-None : goal.returns-in-None
returns-in-None c = bad_pair c.args.file.now c.args.word.now c.in-None.ensures.value
