use Rattle.std.proofs.Common.{◌<◌, ◌≤◌, ◌∙◌, sym, ap, length, arith}
use Rattle.station_members.specs.Seats.{ticked}
use Rattle.station_members.specs.Desks.{first_due_of}
use Rattle.station_members.proofs.Places.{get_past, place_past, place_set, place_get}
use Rattle.station_members.proofs.desk.first_due_at.Goals as goal

pub returns-then-at-len-clause-goes : goal.returns-then-at-len-clause-goes
returns-then-at-len-clause-goes c =
    let h : c.args.at < length c.args.seats.now.items = omega (arith, c.if-at-len.true, c.len.ensures) in
    place_set c.args.seats.now.items c.args.at (ticked c.args.now.0) c.index_mut.result.now c.is_first_due.new.self h c.index_mut.ensures.value c.is_first_due.ensures.goes

pub returns-else-at-len-clause-goes : goal.returns-else-at-len-clause-goes
returns-else-at-len-clause-goes c =
    let h : length c.args.seats.now.items ≤ c.args.at = omega (arith, c.if-at-len.false, c.len.ensures) in
    sym (place_past c.args.seats.now.items c.args.at (ticked c.args.now.0) h)

pub returns-then-at-len-clause-due : goal.returns-then-at-len-clause-due
returns-then-at-len-clause-due c =
    let h : c.args.at < length c.args.seats.now.items = omega (arith, c.if-at-len.true, c.len.ensures) in
    c.is_first_due.ensures.due ∙ sym (ap (first_due_of c.args.now.0) (place_get c.args.seats.now.items c.args.at c.index_mut.result.now h c.index_mut.ensures.value))

pub returns-else-at-len-clause-due : goal.returns-else-at-len-clause-due
returns-else-at-len-clause-due c =
    let h : length c.args.seats.now.items ≤ c.args.at = omega (arith, c.if-at-len.false, c.len.ensures) in
    sym (ap (first_due_of c.args.now.0) (get_past c.args.seats.now.items c.args.at h))
