-- What holds of every source in memory: the invariant of `MemSource`. No public clause cites it.
use Rattle.std.specs.Prelude.{◌+◌, ◌-◌, ◌≤◌, vec_len, vec_capacity}
use Rattle.radio_base.specs.declared.mem_source.MemSource.TheInside.{Inside}

-- a read gives at least one byte of those that are left, and there is room to note each read
pub record IsSupplied (s : Inside) : Type 0 where
  pub gives : 1 ≤ s.piece
  pub within : s.at ≤ vec_len s.bytes
  pub noted : vec_len s.sizes + (vec_len s.bytes - s.at) ≤ vec_capacity s.sizes
