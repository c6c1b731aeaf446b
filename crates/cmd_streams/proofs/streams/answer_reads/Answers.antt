use Rattle.std.proofs.Common.{◌≡◌, ◌≤◌, ◌<◌, ◌+◌, ◌-◌, ◌++◌, ◌∙◌, ◌∷◌, [], arith, length, length-append, take, sym}
use Rattle.std.proofs.KnownBytes.{Appends-trans}
use Rattle.cmd_streams.specs.Streams.{bytes_of, max_stream, read_of}
use Rattle.cmd_streams.proofs.StreamReads.{bytes_of-more, no_answer-map, takes-more, unanswered}
use Rattle.cmd_streams.proofs.streams.answer_reads.Goals as goal

pub returns-then-count-room-clause-err : goal.returns-then-count-room-clause-err
returns-then-count-room-clause-err g c =
    let i = c.loop-count.invariant in
    let last = take c.in-Ok.count c.read.new.buf in
    let now = c.now-now.result.0 in
    let taken = takes-more _ _ _ _ i.0 last now c.in-Ok.count i.2 c.in-Ok.ensures.bytes.0 c.in-Ok.ensures.sizes c.now-now.ensures.told c.if-count-eq0.false (sym c.in-Ok.ensures.bound.1) (omega (arith, c.in-Ok.ensures.bound.0, c.read.auto.buf, i.8)) in
    let few : length (bytes_of i.0) ≤ max_stream = omega (arith, i.3) in
    let many : max_stream < length (bytes_of (i.0 ++ read_of last now ∷ [])) = rw (bytes_of-more i.0 last now) (omega (arith, i.3, length-append (bytes_of i.0) last, c.in-Ok.ensures.bound.1, c.if-count-room.true)) in (
      (record { reads = i.0; last = read_of last now; text = i.1; taken = taken; fits = few; answered = (c.loop-count.taker, i.4); written = i.5 }, many),
      c.in-Ok.ensures.cause.same ∙ i.6,
      i.7,
    )

pub loop-count-preserved : goal.loop-count-preserved
loop-count-preserved g c =
    let i = c.loop-count.invariant in
    let last = take c.in-Ok.count c.read.new.buf in
    let now = c.now-now.result.0 in
    let told = c.in-Ok-answer_read.ensures.answered in
    let taken = takes-more _ _ _ _ i.0 last now c.in-Ok.count i.2 c.in-Ok.ensures.bytes.0 c.in-Ok.ensures.sizes c.now-now.ensures.told c.if-count-eq0.false (sym c.in-Ok.ensures.bound.1) (omega (arith, c.in-Ok.ensures.bound.0, c.read.auto.buf, i.8)) in
    let room : length (bytes_of (i.0 ++ read_of last now ∷ [])) + (c.loop-count.room - c.in-Ok.count) ≡ max_stream = rw (bytes_of-more i.0 last now) (omega (arith, i.3, length-append (bytes_of i.0) last, c.in-Ok.ensures.bound.1, c.if-count-room.false)) in (
      i.0 ++ read_of last now ∷ [],
      i.1 ++ told.0,
      taken,
      room,
      told.2 c.args.taker.now i.0 i.1 i.4,
      Appends-trans _ _ _ _ _ i.5 told.1,
      c.in-Ok.ensures.cause.same ∙ i.6,
      c.in-Ok-answer_read.ensures.same ∙ i.7,
      c.read.auto.buf ∙ i.8,
    )

pub returns-in-Err-answer_read-clause-err : goal.returns-in-Err-answer_read-clause-err
returns-in-Err-answer_read-clause-err g c =
    let i = c.loop-count.invariant in
    let last = take c.in-Ok.count c.read.new.buf in
    let now = c.now-now.result.0 in
    let taken = takes-more _ _ _ _ i.0 last now c.in-Ok.count i.2 c.in-Ok.ensures.bytes.0 c.in-Ok.ensures.sizes c.now-now.ensures.told c.if-count-eq0.false (sym c.in-Ok.ensures.bound.1) (omega (arith, c.in-Ok.ensures.bound.0, c.read.auto.buf, i.8)) in
    let few : length (bytes_of i.0) ≤ max_stream = omega (arith, i.3) in
    let fits : length (bytes_of (i.0 ++ read_of last now ∷ [])) ≤ max_stream = rw (bytes_of-more i.0 last now) (omega (arith, i.3, length-append (bytes_of i.0) last, c.in-Ok.ensures.bound.1, c.if-count-room.false)) in
    unanswered g.row.T.Denot (g.T.Taker.took c.args.taker.now) c.loop-count.taker c.answer_read.new.taker _ _ _ _ _ _ i.0 (read_of last now) i.1 _ _ _ _ _ c.in-Err-answer_read.refusal taken few fits i.4 i.5 (c.in-Ok.ensures.cause.same ∙ i.6) i.7 (no_answer-map _ _ _ _ _ _ c.in-Err-answer_read.refusal (λ more answers. answers c.args.taker.now i.0 i.1 i.4) c.in-Err-answer_read.ensures.err)
