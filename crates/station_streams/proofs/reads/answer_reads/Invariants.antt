use Rattle.std.proofs.Common.{◌≡◌, ◌+◌, ℕ, List, length}
use Rattle.std.specs.Io.KnownBytes.{Appends}
use Rattle.cmd_streams.specs.Streams.{Read, Takes, bytes_of, input_of, max_stream}
use Rattle.station_streams.specs.Telling.{SaysEach}
use Rattle.station_streams.proofs.reads.answer_reads.Given as goal

-- some reads were taken without a fault, what is told of them was noted, and their answer was written
abbrev pub invariant-loop-alloc : goal.invariant-loop-alloc
invariant-loop-alloc g l =
    (reads : List Read)
    × (text : List ℕ)
    × (texts : List (List ℕ))
    × Takes (length l.fn.buf) (input_of (g.S.Source.left l.fn.source) (g.S.Source.reads l.fn.source) (g.C.Clock.given l.fn.clock)) (input_of (g.S.Source.left l.source) (g.S.Source.reads l.source) (g.C.Clock.given l.clock)) reads
    × (length (bytes_of reads) + l.room ≡ max_stream)
    × g.T.Teller.took l.fn.teller l.teller reads text texts
    × SaysEach (g.N.Sink.written l.fn.notes) (g.N.Sink.written l.notes) (g.N.Sink.faults l.fn.notes) (g.N.Sink.faults l.notes) texts
    × Appends (g.K.Sink.written l.fn.sink) (g.K.Sink.written l.sink) text
    × (g.S.Source.faults l.source ≡ g.S.Source.faults l.fn.source)
    × (g.K.Sink.faults l.sink ≡ g.K.Sink.faults l.fn.sink)
    × (length l.buf ≡ length l.fn.buf)

abbrev pub decreases-loop-alloc : goal.decreases-loop-alloc
decreases-loop-alloc g l = l.room
