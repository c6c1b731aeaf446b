-- The first fault of octets is at the first octet that no frame has at its place, or where the octets end and one must
-- follow. (AX.25 2.2, section 3.)
use Rattle.std.specs.Prelude.{ℕ, ◌+◌, ◌<◌, ◌≡◌, List, ◌++◌, length, take, Bool, true, false, Some, None}
use Rattle.std.specs.Bool.{MatchBool}
use Rattle.ax_frame.specs.declared.frame.FrameRefusal.{FrameRefusal}
use Rattle.ax_frame.specs.declared.frame.FrameRefusal.TheVariants.{Short, BadCall, TooManyRepeaters, BadControl, NoPid, ExtraInfo}
use Rattle.ax_frame.specs.Reading.{first_fault}

-- the place that a refusal names: where there are too many repeaters, that of the last octet of the eighth
abbrev pub refused_place : FrameRefusal → ℕ
refused_place (Short at) = at
refused_place (BadCall at) = at
refused_place TooManyRepeaters = 69
refused_place (BadControl at) = at
refused_place (NoPid at) = at
refused_place (ExtraInfo at) = at

-- whether it names an octet that is missing
abbrev pub is_missing : FrameRefusal → Bool
is_missing (Short at) = true
is_missing (NoPid at) = true
is_missing _ = false

-- the octet is there, or missing at the end
abbrev pub IsPlaced : List ℕ → FrameRefusal → Type 0
IsPlaced octets refusal = MatchBool (is_missing refusal) (refused_place refusal ≡ length octets) (refused_place refusal < length octets)

pub record FirstBad (size : ℕ) (octets : List ℕ) (refusal : FrameRefusal) : Type 0 where
  pub place : IsPlaced octets refusal
  -- what stands before it goes on to octets without a fault
  pub before : (more : List ℕ) × (first_fault size (take (refused_place refusal) octets ++ more) ≡ None)
  -- with the octet that it names nothing does: whatever follows, they are refused for it
  pub stays : refused_place refusal < length octets → (more : List ℕ) → first_fault size (take (refused_place refusal + 1) octets ++ more) ≡ Some refusal

-- octets without a fault are those of a frame, as the clauses of `read_frame` say
abbrev pub FaultIsFirst : Type 0
FaultIsFirst = (size : ℕ) (octets : List ℕ) (refusal : FrameRefusal) → first_fault size octets ≡ Some refusal → FirstBad size octets refusal
