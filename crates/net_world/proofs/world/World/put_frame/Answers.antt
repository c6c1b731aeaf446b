use Rattle.std.proofs.Common.{◌≡◌, ◌∙◌, ◌++◌, ◌∷◌, [], ap, List, length}
use Rattle.net_model.specs.declared.air.Aired.{Aired}
use Rattle.net_model.specs.World.{in_air, aired_as}
use Rattle.net_world.specs.Running.{course}
use Rattle.net_world.proofs.Airing.{put_one}
use Rattle.net_world.proofs.world.World.put_frame.Goals as goal

pub returns-in_ok-tell-clause-runs : goal.returns-in_ok-tell-clause-runs
returns-in_ok-tell-clause-runs c =
    let old = course c.args.self.now in
    let node = c.args.node in
    let f = c.args.written in
    let air : c.put.new.self ≡ old.left.air ++ aired_as node c.args.came f ∷ [] =
    c.in_ok-put.ensures.ok
    ∙ ap (λ m. old.left.air ++ in_air node f.octets m ∷ []) c.unwrap_or-modulus.ensures
    in
    let frame = length c.frames.result.now in
    let count : frame ≡ length c.put.new.self = ap (λ (fs : List Aired). length fs) c.frames.ensures.value in
    rw c.if-on_air.true (put_one old (course c.tell.new.self) c.args.line node frame c.args.came f c.put.new.self air count c.in_ok-tell.ensures.goes)
