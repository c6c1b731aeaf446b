use Rattle.std.proofs.Common.{subst}
use Rattle.ax_link.specs.Standing.{Stands}
use Rattle.ax_link.specs.State.{Frame}
use Rattle.ax_link.specs.Table.{Arrive, step}
use Rattle.link_life.proofs.Coming.{frame_comes}
use Rattle.link_life.proofs.turn.hand.Goals as goal

pub returns-in-Some : goal.returns-in-Some
returns-in-Some g c = λ s t.
    let same = frame_comes g.M.Modulus.SIZE c.args.out.now c.in-Some.payload c.as_slice.result.now c.in-Some.is c.as_slice.ensures.value c.as_slice.ensures.fits in
    subst (λ (f : Frame). Stands g.M.Modulus.SIZE c.arrive.new.self (step s (Arrive f) c.args.now)) same (c.arrive.ensures.does s t)
