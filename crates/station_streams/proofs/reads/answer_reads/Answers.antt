use Rattle.std.proofs.Common.{◌≡◌, ◌≤◌, ◌<◌, ◌+◌, ◌-◌, ◌++◌, ◌∙◌, ◌∷◌, [], arith, length, length-append, take, sym}
use Rattle.std.proofs.KnownBytes.{Appends-trans}
use Rattle.cmd_streams.specs.Told.{told_by}
use Rattle.cmd_streams.specs.Streams.{bytes_of, max_stream, read_of}
use Rattle.cmd_streams.proofs.StreamReads.{bytes_of-more, takes-more}
use Rattle.station_streams.proofs.Unanswered.{unanswered}
use Rattle.station_streams.proofs.Saying.{says-more}
use Rattle.station_streams.proofs.reads.answer_reads.Goals as goal

pub returns-then-count-room-clause-err : goal.returns-then-count-room-clause-err
returns-then-count-room-clause-err g c =
    let i = c.loop-alloc.invariant in
    let last = take c.in-Ok.count c.read.new.buf in
    let now = c.now-now.result.0 in
    let taken = takes-more _ _ _ _ i.0 last now c.in-Ok.count i.3 c.in-Ok.ensures.bytes.0 c.in-Ok.ensures.sizes c.now-now.ensures.told c.if-count-eq0.false (sym c.in-Ok.ensures.bound.1) (omega (arith, c.in-Ok.ensures.bound.0, c.read.auto.buf, i.10)) in
    let few : length (bytes_of i.0) ≤ max_stream = omega (arith, i.4) in
    let many : max_stream < length (bytes_of (i.0 ++ read_of last now ∷ [])) = rw (bytes_of-more i.0 last now) (omega (arith, i.4, length-append (bytes_of i.0) last, c.in-Ok.ensures.bound.1, c.if-count-room.true)) in (
      (record { reads = i.0; last = read_of last now; text = i.1; taken = taken; fits = few; answered = (i.2, (c.loop-alloc.teller, i.5), i.6); written = i.7 }, many),
      c.in-Ok.ensures.cause.same ∙ i.8,
      i.9,
    )

pub loop-alloc-preserved : goal.loop-alloc-preserved
loop-alloc-preserved g c =
    let i = c.loop-alloc.invariant in
    let last = take c.in-Ok.count c.read.new.buf in
    let now = c.now-now.result.0 in
    let told = c.in-Ok-answer_read.ensures.answered in
    let taken = takes-more _ _ _ _ i.0 last now c.in-Ok.count i.3 c.in-Ok.ensures.bytes.0 c.in-Ok.ensures.sizes c.now-now.ensures.told c.if-count-eq0.false (sym c.in-Ok.ensures.bound.1) (omega (arith, c.in-Ok.ensures.bound.0, c.read.auto.buf, i.10)) in
    let room : length (bytes_of (i.0 ++ read_of last now ∷ [])) + (c.loop-alloc.room - c.in-Ok.count) ≡ max_stream = rw (bytes_of-more i.0 last now) (omega (arith, i.4, length-append (bytes_of i.0) last, c.in-Ok.ensures.bound.1, c.if-count-room.false)) in (
      i.0 ++ read_of last now ∷ [],
      i.1 ++ told.0,
      i.2 ++ told.1 ∷ [],
      taken,
      room,
      told.4 c.args.teller.now i.0 i.1 i.2 i.5,
      says-more _ _ _ _ _ _ i.2 told.1 i.6 told.3,
      Appends-trans _ _ _ _ _ i.7 told.2,
      c.in-Ok.ensures.cause.same ∙ i.8,
      c.in-Ok-answer_read.ensures.same ∙ i.9,
      c.read.auto.buf ∙ i.10,
    )

pub returns-in-Err-answer_read-clause-err : goal.returns-in-Err-answer_read-clause-err
returns-in-Err-answer_read-clause-err g c =
    let i = c.loop-alloc.invariant in
    let last = take c.in-Ok.count c.read.new.buf in
    let now = c.now-now.result.0 in
    let taken = takes-more _ _ _ _ i.0 last now c.in-Ok.count i.3 c.in-Ok.ensures.bytes.0 c.in-Ok.ensures.sizes c.now-now.ensures.told c.if-count-eq0.false (sym c.in-Ok.ensures.bound.1) (omega (arith, c.in-Ok.ensures.bound.0, c.read.auto.buf, i.10)) in
    let few : length (bytes_of i.0) ≤ max_stream = omega (arith, i.4) in
    let fits : length (bytes_of (i.0 ++ read_of last now ∷ [])) ≤ max_stream = rw (bytes_of-more i.0 last now) (omega (arith, i.4, length-append (bytes_of i.0) last, c.in-Ok.ensures.bound.1, c.if-count-room.false)) in
    unanswered g.row.T.Denot g.T.Teller.took _ c.args.teller.now c.loop-alloc.teller c.answer_read.new.teller _ _ _ (told_by g.S.Source g.K.Sink g.N.Sink c.args.source.now c.args.sink.now c.args.notes.now) (told_by g.S.Source g.K.Sink g.N.Sink c.read.new.self c.answer_read.new.sink c.answer_read.new.notes) _ _ _ _ _ i.0 (read_of last now) i.1 i.2 _ _ _ _ _ c.in-Err-answer_read.stop taken few fits i.5 i.6 i.7 (c.in-Ok.ensures.cause.same ∙ i.8) i.9 c.in-Err-answer_read.ensures.err
