use Rattle.std.proofs.Common.{◌≡◌, ◌<◌, ◌∙◌, sym, ap, length, length-drop, arith}
use Rattle.station_cmd.specs.Files.{name_from, name_in}
use Rattle.station_cmd.proofs.Names.{name_behind, plain_name}
use Rattle.station_cmd.proofs.files.+name_in.Goals as goal

pub returns-in-Some : goal.returns-in-Some
unfolding name_in
returns-in-Some t c =
    let cut = c.in-Some.ensures.byte (omega arith) (λ w o f. f) in
    c.name_in.ensures ∙ (ap (λ rest. name_from rest rest) cut.1 ∙ sym (name_behind c.args.path.now c.args.path.now cut.2))

pub returns-in-None : goal.returns-in-None
unfolding name_in
returns-in-None t c = sym (plain_name c.args.path.now c.args.path.now (c.in-None.ensures.byte (omega arith) (λ w o f. f)))
