use Rattle.std.proofs.Common.{◌≡◌, ◌++◌, length, map}
use Rattle.link_life.specs.Standing.{flight_of}
use Rattle.link_life.proofs.Flying.{flights_of, lines_of}
use Rattle.link_life.proofs.settle.send_out.Given as goal

-- the frames so far and those to come are all of them
abbrev pub invariant-loop-out : goal.invariant-loop-out
invariant-loop-out g l =
    record {
      frames : l.frames ++ lines_of g.M.Modulus.SIZE l.turn.side l.link.outs ≡ l.fn.frames ++ lines_of g.M.Modulus.SIZE l.turn.side l.fn.link.outs;
      coming : map (flight_of g.M.Modulus.SIZE) l.coming.items ++ flights_of g.M.Modulus.SIZE l.turn.moment l.epoch l.link.outs
          ≡ map (flight_of g.M.Modulus.SIZE) l.fn.coming.items ++ flights_of g.M.Modulus.SIZE l.turn.moment l.epoch l.fn.link.outs;
      rest : l.link ≡ record l.fn.link { outs = l.link.outs };
    }

abbrev pub decreases-loop-out : goal.decreases-loop-out
decreases-loop-out g l = length l.link.outs
