use Rattle.std.proofs.Common.{◌∙◌, ap}
use Rattle.station_members.specs.declared.seat.Seat.{Seat}
use Rattle.station_members.specs.Ports.{air_of}
use Rattle.station_members.specs.Waiting.{due_of, lets_go, put_each, without_first}
use Rattle.station_members.proofs.SeatMoves.{due_last, due_next, lets_next, lets_none}
use Rattle.station_members.proofs.seat.Seat.send_held.Goals as goal

pub loop-frame-preserved : goal.loop-frame-preserved
loop-frame-preserved c =
    let now = c.args.now in
    let seat = c.loop-frame.self in
    let goes = c.in-Some.ensures.goes in
    let next = due_next now seat c.in-Some.frame (air_of c.loop-frame.ports) c.in-Some.ensures.due in
    record {
      seat = ap (lets_go now) goes ∙ (lets_next now seat ∙ c.loop-frame.invariant.seat);
      air =
          ap (λ (s : Seat). put_each (due_of now s) (air_of c.put.new.self)) goes
          ∙ (ap (put_each (due_of now (without_first now seat))) c.in_ok-put.ensures ∙ (next ∙ c.loop-frame.invariant.air));
    }

pub returns-clause-seat : goal.returns-clause-seat
returns-clause-seat c = c.in_default.ensures.goes ∙ (lets_none c.args.now c.loop-frame.self c.in_default.ensures.due ∙ c.loop-frame.invariant.seat)

pub returns-clause-air : goal.returns-clause-air
returns-clause-air c = due_last c.args.now c.loop-frame.self (air_of c.loop-frame.ports) c.in_default.ensures.due ∙ c.loop-frame.invariant.air
