use Rattle.std.proofs.Common.{◌++◌, append_assoc, arith, drop, length-drop, take, take-add}
use Rattle.std.proofs.lemmas.List.{take_rest}
use Rattle.node_core.proofs.Nodes.{takes_both}
use Rattle.node_core.proofs.feeding.take_bytes.Goals as goal

pub loop-taken-preserved : goal.loop-taken-preserved
loop-taken-preserved c =
    let bytes = c.args.bytes.now in
    let taken = c.loop-taken.taken in
    let count = c.in_ok-taken.field-0 in
    let front = take taken bytes in
    let next = take count (drop taken bytes) in
    let i = c.loop-taken.invariant in
    let more = rw (take_rest bytes taken) at c.in_ok-taken.ensures in
    record {
      within = omega (arith, more.within, i.within, length-drop taken bytes);
      some = more.some;
      drained = λ drained. more.drained (i.drained drained);
      fed = λ stream stands. rw (take-add taken count bytes) (rw append_assoc at (more.fed (stream ++ front) (i.fed stream stands)));
      taken = λ stream stands. rw (take-add taken count bytes)
          (takes_both c.args.now.0 c.args.station.now c.loop-taken.station c.take_some.new.station stream front next (i.taken stream stands) (more.taken (stream ++ front) (i.fed stream stands)));
    }
