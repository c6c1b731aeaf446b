use Rattle.std.proofs.Common.{◌<◌, length, arith}
use Rattle.std.proofs.lemmas.Bool.Decides.{nat_tests}
use Rattle.link_table.specs.Frames.{plain_text}
use Rattle.link_table.specs.Texts.{cut, payloads}
use Rattle.link_table.proofs.Sending.{given_first, piece_first}
use Rattle.link_table.proofs.entry.LinkEntry.send_pieces.Goals as goal

pub loop-rest-preserved : goal.loop-rest-preserved
loop-rest-preserved c =
    let some : 0 < length c.loop-rest.rest.now = grind (arith, nat_tests, c.is_empty.ensures, c.loop-rest-test.true) in
    let first = piece_first c.loop-rest.rest.now some in (
      c.in_ok-give.ensures.drained,
      given_first (payloads plain_text (cut c.args.text.now)) (payloads plain_text (cut c.loop-rest.rest.now)) (payloads plain_text (cut c.split_at.result.1.now)) c.of-payload.result c.args.now.0
          c.args.self.now c.loop-rest.self c.give.new.self c.args.pending.now c.loop-rest.pending c.give.new.pending
          (rw (c.of-payload.ensures, c.split_at.ensures.front, c.split_at.ensures.back, c.min.ensures) first) c.loop-rest.invariant.1 c.in_ok-give.ensures.goes,
    )
