use Rattle.std.proofs.Common.{◌≤◌, arith, length}
use Rattle.node_core.proofs.feeding.read_back.Goals as goal

pub returns-then-octets-lt-LONGEST-clause-item : goal.returns-then-octets-lt-LONGEST-clause-item
returns-then-octets-lt-LONGEST-clause-item c =
    let fits : length c.args.octets.now ≤ 1023 = omega (arith, c.if-octets-lt-LONGEST.true, c.numbers.ensures.longest) in
    c.frames_read_back.ensures 0 0 c.args.octets.now (omega arith) (omega arith) fits

pub returns-else-octets-lt-LONGEST-clause-item : goal.returns-else-octets-lt-LONGEST-clause-item
returns-else-octets-lt-LONGEST-clause-item c =
    c.long_frames.ensures 0 0 c.args.octets.now (omega (arith, c.if-octets-lt-LONGEST.false, c.numbers.ensures.longest))
