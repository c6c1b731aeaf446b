use Rattle.std.proofs.Common.{refl}
use Rattle.station_members.specs.declared.backplane.Backplane.{Backplane}
use Rattle.station_members.proofs.Moves.{ticks}
use Rattle.station_members.proofs.backplane.Backplane.tick_at.Goals as goal

pub returns-in_ok-round_at : goal.returns-in_ok-round_at
returns-in_ok-round_at c =
    let old = c.args.self.now in
    let mid : Backplane = record old { nodes = c.give_tick.new.nodes } in
    let late : Backplane = record mid { desk = c.is_first_due.new.self } in
    ticks old mid late _ c.args.at c.args.now c.is_first_due.result refl c.in_ok-give_tick.ensures.goes refl c.is_first_due.ensures.goes c.is_first_due.ensures.due
    (rw c.if-is_first_due.true c.in_ok-round_at.ensures)

pub returns-else-is_first_due : goal.returns-else-is_first_due
returns-else-is_first_due c =
    let old = c.args.self.now in
    let mid : Backplane = record old { nodes = c.give_tick.new.nodes } in
    let late : Backplane = record mid { desk = c.is_first_due.new.self } in
    ticks old mid late late c.args.at c.args.now c.is_first_due.result refl c.in_ok-give_tick.ensures.goes refl c.is_first_due.ensures.goes c.is_first_due.ensures.due
    (rw c.if-is_first_due.false (λ s t. t))
