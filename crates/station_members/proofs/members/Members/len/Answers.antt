use Rattle.std.proofs.Common.{◌≡◌, ◌∙◌, length, arith}
use Rattle.station_members.proofs.NodesStand.{same_length}
use Rattle.station_members.proofs.members.Members.len.Goals as goal

pub returns : goal.returns
returns c = λ s t. let held = rw (← c.self.view_is) at t in
    let count : c.len.result ≡ length c.self.inside.plane.nodes.items = omega (arith, c.len.ensures) in
    count ∙ same_length c.self.inside.plane.nodes.items s.nodes held.plane.nodes
