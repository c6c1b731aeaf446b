use Rattle.std.proofs.Common.{◌<◌, ◌≤◌, ◌∙◌, sym, ap, length, arith}
use Rattle.station_members.specs.Hearing.{hears}
use Rattle.station_members.specs.Desks.{intake_of}
use Rattle.station_members.proofs.Places.{get_past, place_past, place_set, place_get}
use Rattle.station_members.proofs.desk.hear_at.Goals as goal

pub returns-in_ok-intake-clause-goes : goal.returns-in_ok-intake-clause-goes
returns-in_ok-intake-clause-goes c =
    let h : c.args.at < length c.args.seats.now.items = omega (arith, c.if-at-len.true, c.len.ensures) in
    place_set c.args.seats.now.items c.args.at (hears c.args.port c.args.heading.now c.args.is_set_up) c.index_mut.result.now c.hear.new.self h c.index_mut.ensures.value c.in_ok-intake.ensures.goes

pub returns-else-at-len-clause-goes : goal.returns-else-at-len-clause-goes
returns-else-at-len-clause-goes c =
    let h : length c.args.seats.now.items ≤ c.args.at = omega (arith, c.if-at-len.false, c.len.ensures) in
    sym (place_past c.args.seats.now.items c.args.at (hears c.args.port c.args.heading.now c.args.is_set_up) h)

pub returns-in_ok-intake-clause-intake : goal.returns-in_ok-intake-clause-intake
returns-in_ok-intake-clause-intake c =
    let h : c.args.at < length c.args.seats.now.items = omega (arith, c.if-at-len.true, c.len.ensures) in
    c.in_ok-intake.ensures.intake ∙ sym (ap (intake_of c.args.port c.args.heading.now c.args.is_set_up) (place_get c.args.seats.now.items c.args.at c.index_mut.result.now h c.index_mut.ensures.value))

pub returns-else-at-len-clause-intake : goal.returns-else-at-len-clause-intake
returns-else-at-len-clause-intake c =
    let h : length c.args.seats.now.items ≤ c.args.at = omega (arith, c.if-at-len.false, c.len.ensures) in
    sym (ap (intake_of c.args.port c.args.heading.now c.args.is_set_up) (get_past c.args.seats.now.items c.args.at h))
