use Rattle.std.proofs.Common.{◌≡◌, ◌++◌, ℕ, List, take}
use Rattle.station_run.specs.Typing.{TakesBytes, TypingStands, TypingState}
use Rattle.station_run.proofs.typing.Typing.take_bytes.Given as goal

-- the bytes so far were taken in
abbrev pub invariant-loop-byte : goal.invariant-loop-byte
invariant-loop-byte l = (s : TypingState) → TypingStands l.fn.self s
    → (note : List ℕ) × (mid : TypingState) × TakesBytes (take l.byte-index l.bytes) s note mid × (l.told ≡ l.fn.told ++ note) × TypingStands l.self mid
