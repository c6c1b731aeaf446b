-- What holds of every sink in memory: the invariant of `MemSink`. No public clause cites it.
use Rattle.std.specs.Prelude.{◌≤◌, vec_len, vec_capacity}
use Rattle.radio_base.specs.declared.mem_sink.MemSink.TheInside.{Inside}

-- a write takes at least one byte, and there is memory for all that there is room for
pub record IsStored (s : Inside) : Type 0 where
  pub takes : 1 ≤ s.piece
  pub within : vec_len s.bytes ≤ s.room
  pub reserved : s.room ≤ vec_capacity s.bytes
