use Rattle.std.proofs.Common.{◌∙◌, ◌++◌, ap, get_or, take, take_all, append_assoc}
use Rattle.std.proofs.lemmas.List.{take_more}
use Rattle.station_run.specs.Typing.{TakesBytes}
use Rattle.station_run.proofs.OneByte.{bytes_more}
use Rattle.station_run.proofs.typing.Typing.take_bytes.Goals as goal

pub loop-byte-preserved : goal.loop-byte-preserved
loop-byte-preserved c = λ s stands.
    let i = c.loop-byte.invariant s stands in
    let at = c.loop-byte.byte-index in
    let bytes = c.args.bytes.now in
    let b = c.in_ok-take_byte.ensures i.1 i.4 in (
      i.0 ++ b.0,
      b.1,
      rw (take_more bytes at 0 c.loop-byte-test.true) (bytes_more (take at bytes) (get_or bytes at 0) s i.1 b.1 i.0 b.0 i.2 b.2),
      b.3 ∙ (ap (λ t. t ++ b.0) i.3 ∙ append_assoc c.args.told.now i.0 b.0),
      b.4,
    )

pub returns : goal.returns
returns c = λ s stands.
    let i = c.loop-byte.invariant s stands in
    (i.0, i.1, rw (take_all c.loop-byte.byte-index c.args.bytes.now c.loop-byte-test.false) at i.2, i.3, i.4)
