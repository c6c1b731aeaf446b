use Rattle.std.proofs.Common.{◌++◌, ◌∙◌, take}
use Rattle.std.proofs.KnownBytes.{Appends-trans}
use Rattle.cmd_streams.proofs.WritingLemmas.{parts}
use Rattle.cmd_streams.proofs.writing.write_all.Goals as goal

pub loop-rest-preserved : goal.loop-rest-preserved
loop-rest-preserved g c =
    let i = c.loop-rest.invariant in (
      i.0 ++ take c.in_ok-count.count c.loop-rest.rest.now,
      Appends-trans _ _ _ _ _ i.1 c.in_ok-count.ensures.bytes,
      parts c.args.text.now i.0 c.loop-rest.rest.now c.in_ok-count.count c.in_ok-count.ensures.some.0 i.2,
      c.in_ok-count.ensures.cause.same ∙ i.3,
    )
