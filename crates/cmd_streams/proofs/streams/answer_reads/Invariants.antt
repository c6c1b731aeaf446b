use Rattle.std.proofs.Common.{◌≡◌, ◌+◌, ℕ, List, length}
use Rattle.std.specs.Io.KnownBytes.{Appends}
use Rattle.cmd_streams.specs.Streams.{Read, Takes, bytes_of, input_of, max_stream}
use Rattle.cmd_streams.proofs.streams.answer_reads.Given as goal

-- some reads were taken without a fault, and their answer was written
abbrev pub invariant-loop-count : goal.invariant-loop-count
invariant-loop-count g l =
    (reads : List Read)
    × (text : List ℕ)
    × Takes (length l.fn.buf) (input_of (g.S.Source.left l.fn.source) (g.S.Source.reads l.fn.source) (g.C.Clock.given l.fn.clock)) (input_of (g.S.Source.left l.source) (g.S.Source.reads l.source) (g.C.Clock.given l.clock)) reads
    × (length (bytes_of reads) + l.room ≡ max_stream)
    × g.T.Taker.took l.fn.taker l.taker reads text
    × Appends (g.K.Sink.written l.fn.sink) (g.K.Sink.written l.sink) text
    × (g.S.Source.faults l.source ≡ g.S.Source.faults l.fn.source)
    × (g.K.Sink.faults l.sink ≡ g.K.Sink.faults l.fn.sink)
    × (length l.buf ≡ length l.fn.buf)

abbrev pub decreases-loop-count : goal.decreases-loop-count
decreases-loop-count g l = l.room
