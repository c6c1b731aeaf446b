use Rattle.std.proofs.Common.{◌≡◌, ℕ, ◌<◌, ◌%◌, sym}
use Rattle.radio_base.specs.Modulus.{IsDistance}
use Rattle.radio_base.proofs.Places.{Placed, placed}
use Rattle.radio_base.proofs.modulus.Modulus.place.Goals as goal

placed_there : {size base wire n len d : ℕ} → 0 < size → n < size → d < size → wire ≡ base % size → IsDistance size wire n d → Placed size n base len d
placed_there {size} {base} {wire} {n} {len} {d} some small below e h = placed size n base len d some small below (rw e at h)

pub returns-then-steps-len-clause-exact : goal.returns-then-steps-len-clause-exact
returns-then-steps-len-clause-exact g c =
    let at = placed_there {len = c.args.len} g.Self.Modulus.some c.requires.n c.dist-steps.ensures.below c.wire.ensures c.dist-steps.ensures.exact in
    sym (at.exact c.if-steps-len.true)

pub returns-then-steps-len-clause-found : goal.returns-then-steps-len-clause-found
returns-then-steps-len-clause-found g c =
    let at = placed_there {len = c.args.len} g.Self.Modulus.some c.requires.n c.dist-steps.ensures.below c.wire.ensures c.dist-steps.ensures.exact in
    at.found c.if-steps-len.true

pub returns-else-steps-len-clause-exact : goal.returns-else-steps-len-clause-exact
returns-else-steps-len-clause-exact g c =
    let at = placed_there {len = c.args.len} g.Self.Modulus.some c.requires.n c.dist-steps.ensures.below c.wire.ensures c.dist-steps.ensures.exact in
    sym (at.absent c.if-steps-len.false)

pub returns-else-steps-len-clause-none : goal.returns-else-steps-len-clause-none
returns-else-steps-len-clause-none g c =
    let at = placed_there {len = c.args.len} g.Self.Modulus.some c.requires.n c.dist-steps.ensures.below c.wire.ensures c.dist-steps.ensures.exact in
    at.none c.if-steps-len.false
