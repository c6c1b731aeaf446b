use Rattle.std.proofs.Common.{◌≡◌, ◌∙◌, ap, sym}
use Rattle.std.specs.Prelude.{Some, None, slice_get}
use Rattle.std.proofs.lemmas.Option.{slice_get-get_or, slice_get_past}
use Rattle.net_verdict.proofs.Blames.{number_found, number_missing}
use Rattle.net_verdict.proofs.causes.number_of_node.Goals as goal

pub returns-in-Some : goal.returns-in-Some
returns-in-Some c = λ nodes e.
    let found = c.in-Some.ensures.lookup in
    let here : slice_get c.args.members.now c.args.place ≡ Some c.in-Some.one.now =
    slice_get-get_or c.args.members.now c.args.place c.in-Some.one.now found.3.0 ∙ ap Some (sym found.1) in
    number_found c.args.members.now nodes c.args.place c.in-Some.one.now e here

pub returns-in-None : goal.returns-in-None
returns-in-None c = λ nodes e.
    let none : slice_get c.args.members.now c.args.place ≡ None = slice_get_past c.args.members.now c.args.place c.in-None.ensures.lookup.3 in
    number_missing c.args.members.now nodes c.args.place e none
