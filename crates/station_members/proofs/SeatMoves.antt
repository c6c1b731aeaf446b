-- What a member has held back long enough goes.
use Rattle.std.proofs.Common.{◌≡◌, ◌<◌, ◌∙◌, sym, ap, List, length, map}
use Rattle.std.specs.Prelude.{Some, None}
use Rattle.radio_base.specs.declared.moment.Moment.{Moment}
use Rattle.station_ports.specs.declared.held_back.Held.{Held}
use Rattle.station_ports.specs.declared.port_frame.PortFrame.{PortFrame}
use Rattle.station_ports.specs.Holding.{all_but, is_due}
use Rattle.station_members.specs.declared.seat.Seat.{Seat}
use Rattle.station_members.specs.Ports.{Air, put}
use Rattle.station_members.specs.Waiting.{due_of, first_due, frame_held, lets_go, put_each, without_first}
use Rattle.station_members.proofs.HeldFrames.{none_due, splits}

pub lets_next : (now : Moment) (seat : Seat) → lets_go now (without_first now seat) ≡ lets_go now seat
lets_next now seat = let s = splits (is_due seat.rules.t2 now) seat.held in ap (λ held. (let new : Seat = record seat { held = held } in new)) s.rest

pub due_next : (now : Moment) (seat : Seat) (f : PortFrame) (air : Air) → Some f ≡ first_due now seat
    → put_each (due_of now (without_first now seat)) (put f air) ≡ put_each (due_of now seat) air
due_next now seat f air e = let s = splits (is_due seat.rules.t2 now) seat.held in sym (ap (λ fs. put_each fs air) (s.some f e))

pub fewer : (now : Moment) (seat : Seat) (f : PortFrame) → Some f ≡ first_due now seat → length (without_first now seat).held < length seat.held
fewer now seat f e = (splits (is_due seat.rules.t2 now) seat.held).fewer f e

pub lets_none : (now : Moment) (seat : Seat) → None ≡ first_due now seat → without_first now seat ≡ lets_go now seat
lets_none now seat e =
    let s = splits (is_due seat.rules.t2 now) seat.held in
    let none = none_due (is_due seat.rules.t2 now) seat.held e in
    ap (λ o. (let new : Seat = record seat { held = all_but o seat.held } in new)) none
    ∙ sym (ap (λ held. (let new : Seat = record seat { held = held } in new)) (s.stays none))

pub due_last : (now : Moment) (seat : Seat) (air : Air) → None ≡ first_due now seat → air ≡ put_each (due_of now seat) air
due_last now seat air e =
    let s = splits (is_due seat.rules.t2 now) seat.held in
    let none = none_due (is_due seat.rules.t2 now) seat.held e in
    sym (ap (λ (hs : List Held). put_each (map frame_held hs) air) (s.none none))
