-- Sources and sinks in memory, as plain data.
use Rattle.std.specs.Prelude.{ℕ, ◌≢◌, ◌+◌, ◌-◌, ◌^◌, ◌<◌, ◌≤◌, ◌⊎◌, ◌++◌, List, [], length, min, take, drop, Contains}
use Rattle.radio_base.specs.Causes.{one_more}
use Rattle.radio_base.specs.Streams.{size_noted}

-- the next call's number, from 1, stands in this list; calls past the largest `u64` have none
abbrev pub NextFails : ℕ → List ℕ → Type 0
NextFails calls fails = (calls < 2 ^ 64 - 1) × Contains fails (calls + 1)

-- a source: the bytes still to come and the sizes of the reads that gave bytes; how many bytes a read gives at most and
-- the numbers of the reads that fail; and how many reads were made and how many failed, both short of the largest `u64`
pub record Supply : Type 0 where
  pub left : List ℕ
  pub reads : List ℕ
  pub piece : ℕ
  pub fails : List ℕ
  pub calls : ℕ
  pub faults : ℕ

-- nothing has been read yet
abbrev pub new_supply : List ℕ → ℕ → List ℕ → Supply
new_supply bytes piece fails = record { left = bytes; reads = []; piece = piece; fails = fails; calls = 0; faults = 0 }

-- how many bytes a read into this much room gives
abbrev pub read_size : Supply → ℕ → ℕ
read_size s room = min (min room s.piece) (length s.left)

-- a read has given n bytes
abbrev pub after_read : Supply → ℕ → Supply
after_read s n = record s { left = drop n s.left; reads = s.reads ++ size_noted n; calls = one_more s.calls }

-- a read has failed
abbrev pub after_failed_read : Supply → Supply
after_failed_read s = record s { calls = one_more s.calls; faults = one_more s.faults }

-- a sink: the bytes that were written, and for how many there is room in all; how many bytes a write takes at most and
-- the numbers of the writes that fail; and how many writes were made and how many failed, both short of the largest `u64`
pub record Store : Type 0 where
  pub written : List ℕ
  pub room : ℕ
  pub piece : ℕ
  pub fails : List ℕ
  pub calls : ℕ
  pub faults : ℕ

-- nothing has been written yet
abbrev pub new_store : ℕ → ℕ → List ℕ → Store
new_store room piece fails = record { written = []; room = room; piece = piece; fails = fails; calls = 0; faults = 0 }

-- a write of something fails: its number is one of those that do, or the room is used up
abbrev pub WriteFails : Store → List ℕ → Type 0
WriteFails s piece = (piece ≢ []) × (NextFails s.calls s.fails ⊎ (s.room ≤ length s.written))

-- how many bytes a write of this piece takes
abbrev pub write_size : Store → List ℕ → ℕ
write_size s piece = min (min (length piece) s.piece) (s.room - length s.written)

-- a write has taken n bytes of the piece
abbrev pub after_write : Store → List ℕ → ℕ → Store
after_write s piece n = record s { written = s.written ++ take n piece; calls = one_more s.calls }

-- a write has failed
abbrev pub after_failed_write : Store → Store
after_failed_write s = record s { calls = one_more s.calls; faults = one_more s.faults }
