use Rattle.std.proofs.Common.{take, arith, length, ◌+◌, ◌≤◌, ◌≡◌, ◌++◌, length-take}
use Rattle.kiss_framing.proofs.Runs.{plain_front, leads_run}
use Rattle.kiss_framing.specs.declared.TheConstants.{LONGEST}
use Rattle.kiss_framing.proofs.piece.Piece.hold_run.Goals as goal

pub returns-clause-led : goal.returns-clause-led
returns-clause-led c =
    let run = take c.min-count.result c.args.run.now in
    let fits : length c.args.self.now.bytes.items + length run ≤ LONGEST = omega (arith, length-take c.min-count.result c.args.run.now, c.min-count.ensures, c.remaining_capacity.ensures) in
    let held : c.try_extend_from_slice.new.self.items ≡ c.args.self.now.bytes.items ++ run = grind arith in
    rw (c.requires.within, held) (leads_run c.args.self.now.bytes.items run (plain_front c.min-count.result c.args.run.now c.requires.plain) fits)
