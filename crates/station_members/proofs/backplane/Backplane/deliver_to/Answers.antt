use Rattle.std.proofs.Common.{◌≡◌, refl, arith}
use Rattle.std.specs.Prelude.{◌==◌, false}
use Rattle.std.proofs.lemmas.Bool.Decides.{nat_tests}
use Rattle.station_members.specs.States.{Fellow, frame_in}
use Rattle.station_members.proofs.Giving.{gives}
use Rattle.station_members.proofs.backplane.Backplane.deliver_to.Goals as goal

pub returns-in_ok-give_frame : goal.returns-in_ok-give_frame
returns-in_ok-give_frame c =
    let other : c.args.to == c.args.from ≡ false = grind (arith, nat_tests, c.if-to-from.false) in
    rw other (gives c.args.self.now _ c.args.to (Fellow c.args.from) (frame_in c.args.now c.args.octets.now) refl c.in_ok-give_frame.ensures.goes)
