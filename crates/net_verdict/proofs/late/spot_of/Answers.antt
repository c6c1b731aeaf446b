use Rattle.std.proofs.Common.{◌≡◌, ◌∙◌, ap, sym}
use Rattle.std.specs.Prelude.{Some, None, slice_get}
use Rattle.std.specs.Option.{option_map}
use Rattle.std.proofs.lemmas.Option.{slice_get-get_or, slice_get_past}
use Rattle.net_verdict.proofs.Judged.{told_none, told_one}
use Rattle.net_verdict.proofs.late.spot_of.Goals as goal
use Rattle.net_model.specs.declared.members.Member.{Member}

pub returns-in-Some : goal.returns-in-Some
returns-in-Some c = λ nodes line told e.
    let found = c.in-Some.ensures.lookup in
    let here : slice_get c.args.members.now c.place_of-place.result ≡ Some c.in-Some.one.now =
    slice_get-get_or c.args.members.now c.place_of-place.result c.in-Some.one.now found.3.0 ∙ ap Some (sym found.1) in
    told_one c.args.members.now nodes line c.args.number c.place_of-place.result told c.in-Some.one.now.declared.call e c.place_of-place.ensures (ap (option_map (λ (m : Member). m.declared.call)) here)

pub returns-in-None : goal.returns-in-None
returns-in-None c = λ nodes line told e.
    let none : slice_get c.args.members.now c.place_of-place.result ≡ None = slice_get_past c.args.members.now c.place_of-place.result c.in-None.ensures.lookup.3 in
    told_none c.args.members.now nodes line c.args.number c.place_of-place.result told e c.place_of-place.ensures (ap (option_map (λ (m : Member). m.declared.call)) none)
