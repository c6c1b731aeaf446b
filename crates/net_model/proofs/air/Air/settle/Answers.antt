use Rattle.std.proofs.Common.{◌<◌, ◌≤◌, ◌∙◌, sym, ap, length, arith}
use Rattle.net_model.specs.World.{settled_at}
use Rattle.net_model.proofs.Oldest.{set_settled, settled_past}
use Rattle.net_model.proofs.air.Air.settle.Goals as goal

pub returns-then-at-len : goal.returns-then-at-len
returns-then-at-len c =
    let here : c.args.at < length c.self.inside.frames.items = omega (arith, c.if-at-len.true, c.len.ensures) in
    set_settled c.self.inside.frames.items c.args.at c.index_mut.result.now here c.index_mut.ensures.value ∙ ap (settled_at c.args.at) c.self.view_is

pub returns-else-at-len : goal.returns-else-at-len
returns-else-at-len c =
    let past : length c.self.inside.frames.items ≤ c.args.at = omega (arith, c.if-at-len.false, c.len.ensures) in
    sym (settled_past c.args.self.now c.args.at (rw c.self.view_is at past))
