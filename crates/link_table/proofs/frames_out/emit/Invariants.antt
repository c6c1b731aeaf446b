use Rattle.std.proofs.Common.{◌≡◌, ◌++◌, length}
use Rattle.link_table.specs.Standing.{gone_out}
use Rattle.link_table.proofs.frames_out.emit.Given as goal

-- the frames so far and those to come are all of them
abbrev pub invariant-loop-out : goal.invariant-loop-out
invariant-loop-out g l =
    record {
      all : l.frames.items ++ gone_out g.M.Modulus.SIZE l.route l.link ≡ l.fn.frames.items ++ gone_out g.M.Modulus.SIZE l.route l.fn.link;
      rest : l.link ≡ record l.fn.link { outs = l.link.outs };
    }

abbrev pub decreases-loop-out : goal.decreases-loop-out
decreases-loop-out g l = length l.link.outs
