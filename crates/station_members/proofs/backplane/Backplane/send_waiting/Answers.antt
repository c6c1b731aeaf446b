use Rattle.std.proofs.Common.{refl, subst}
use Rattle.station_members.specs.declared.backplane.Backplane.{Backplane}
use Rattle.station_members.specs.Standing.{PlaneGoes}
use Rattle.station_members.specs.States.{send_each}
use Rattle.station_members.proofs.Moves.{waits}
use Rattle.station_members.proofs.backplane.Backplane.send_waiting.Goals as goal

pub returns-clause-goes : goal.returns-clause-goes
returns-clause-goes c =
    let old = c.args.self.now in
    let mid : Backplane = record old { nodes = c.fetch_frames.new.nodes } in
    waits old mid _ c.args.now c.args.at c.in_ok-frames.frames.items refl c.in_ok-frames.ensures.frames c.in_ok-frames.ensures.goes
    (subst (λ ws. PlaneGoes (send_each c.args.now c.args.at ws) mid c.send_each.new.self) c.deref.ensures.value c.in_ok-send_each.ensures)
