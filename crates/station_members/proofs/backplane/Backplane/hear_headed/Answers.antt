use Rattle.std.proofs.Common.{refl}
use Rattle.station_members.specs.declared.backplane.Backplane.{Backplane}
use Rattle.station_members.proofs.Moves.{heads}
use Rattle.station_members.proofs.backplane.Backplane.hear_headed.Goals as goal

pub returns-in_ok-hear_all : goal.returns-in_ok-hear_all
returns-in_ok-hear_all c =
    let old = c.args.self.now in
    let mid : Backplane = record old { desk = c.note.new.self } in
    heads old mid _ c.args.port c.args.heading.now c.args.octets.now c.args.now c.is_heard.result refl c.note.ensures c.is_heard.ensures
    (rw c.if-is_heard.true c.in_ok-hear_all.ensures)

pub returns-else-is_heard : goal.returns-else-is_heard
returns-else-is_heard c =
    let old = c.args.self.now in
    let mid : Backplane = record old { desk = c.note.new.self } in
    heads old mid mid c.args.port c.args.heading.now c.args.octets.now c.args.now c.is_heard.result refl c.note.ensures c.is_heard.ensures
    (rw c.if-is_heard.false (λ s t. t))
