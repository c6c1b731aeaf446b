use Rattle.std.proofs.Common.{arith, length-drop}
use Rattle.std.proofs.lemmas.List.{take_rest}
use Rattle.kiss_framing.proofs.Runs.{ends_more, leads_on}
use Rattle.kiss_framing.proofs.piece.Piece.take_in_some.Goals as goal

pub returns-in_default : goal.returns-in_default
returns-in_default c =
    let i = c.loop-taken.invariant in
    let bytes = c.args.bytes.now in
    ends_more bytes c.loop-taken.taken c.take_in_next-count.result.0 _ _ _ c.take_in_next-count.result.1 _ i.within c.in_default.not-Nothing i.led (rw (take_rest bytes c.loop-taken.taken) at c.take_in_next-count.ensures.ends)

pub loop-taken-preserved : goal.loop-taken-preserved
loop-taken-preserved c =
    let i = c.loop-taken.invariant in
    let bytes = c.args.bytes.now in
    let next = rw (c.in-Nothing.is, take_rest bytes c.loop-taken.taken) at c.take_in_next-count.ensures.ends in
    let within = rw (take_rest bytes c.loop-taken.taken) at c.take_in_next-count.ensures.within in
    record {
      within = omega (arith, within, i.within, length-drop c.loop-taken.taken bytes);
      led = leads_on bytes c.loop-taken.taken c.take_in_next-count.result.0 _ _ _ i.led next;
    }
