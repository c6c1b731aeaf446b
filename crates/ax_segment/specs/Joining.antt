-- How segments are joined, one after another, and how many octets are kept of them (this project's profile).
use Rattle.std.specs.Prelude.{ℕ, ◌-◌, ◌%◌, ◌==◌, nat_lt, if◌then◌else◌, Option, None, Some, List, [], ◌∷◌, ◌++◌, length, ◌+◌, ◌*◌, ◌≤◌}
use Rattle.ax_segment.specs.declared.TheConstants.{FIRST_BIT}

-- what is held: nothing, or the PID and the bytes of a message, and how many of its segments are still to come
pub data HeldMessage : Type 0 where
  Nothing : HeldMessage
  Part : (pid : ℕ) (bytes : List ℕ) (to_come : ℕ) → HeldMessage

-- what a segment comes to
pub data Answer : Type 0 where
  More : Answer
  Whole : (pid : ℕ) (message : List ℕ) → Answer
  Short : Answer
  Broken : (expected : Option ℕ) (found : ℕ) → Answer

-- with these bytes, and so many segments still to come
abbrev pub counted : ℕ → List ℕ → ℕ → HeldMessage × Answer
counted pid bytes to_come =
    if to_come == 0 then (Nothing, Whole pid bytes) else (Part pid bytes to_come, More)

-- by the octets behind the first one of a first segment
abbrev pub begun_with : ℕ → List ℕ → HeldMessage × Answer
begun_with to_come [] = (Nothing, Short)
begun_with to_come (pid ∷ bytes) = counted pid bytes to_come

-- by a segment where a first one has to come
abbrev pub begun_by : ℕ → List ℕ → HeldMessage × Answer
begun_by header rest = if nat_lt header FIRST_BIT then (Nothing, Broken None header) else begun_with (header % FIRST_BIT) rest

-- by a segment where the one with the next lower count has to come
abbrev pub continued_by : ℕ → List ℕ → ℕ → ℕ → List ℕ → HeldMessage × Answer
continued_by pid bytes to_come header rest =
    if header == to_come - 1
    then counted pid (bytes ++ rest) (to_come - 1)
    else (Nothing, Broken (Some (to_come - 1)) header)

abbrev pub taken_in : HeldMessage → ℕ → List ℕ → HeldMessage × Answer
taken_in Nothing header rest = begun_by header rest
taken_in (Part pid bytes to_come) header rest = continued_by pid bytes to_come header rest

-- by a segment: what is held then, and what it comes to
abbrev pub join_step : HeldMessage → List ℕ → HeldMessage × Answer
join_step held [] = (Nothing, Short)
join_step held (header ∷ rest) = taken_in held header rest

-- the PID, the number of bytes and the count still to come of what is held
abbrev pub held_of : HeldMessage → Option (ℕ × ℕ × ℕ)
held_of Nothing = None
held_of (Part pid bytes to_come) = Some (pid, length bytes, to_come)

-- the PID and the number of bytes of a message that is whole
abbrev pub whole_of : Answer → Option (ℕ × ℕ)
whole_of (Whole pid message) = Some (pid, length message)
whole_of _ = None

-- what is held after these segments, and what they come to, in order
abbrev pub held_after : HeldMessage → List (List ℕ) → HeldMessage
held_after held [] = held
held_after held (segment ∷ rest) = held_after (join_step held segment).0 rest

abbrev pub answers : HeldMessage → List (List ℕ) → List Answer
answers held [] = []
answers held (segment ∷ rest) = (join_step held segment).1 ∷ answers (join_step held segment).0 rest

-- What a joiner keeps, in octets, and the most that it may (this project's profile).

-- the bytes of the message that is being joined. Its buffer has no others: that is an invariant of `Joiner`
abbrev pub kept : HeldMessage → ℕ
kept Nothing = 0
kept (Part pid bytes to_come) = length bytes

-- with 255 bytes more for each segment that is still to come, what is held is at most 32,639 bytes
abbrev pub IsWithin : HeldMessage → Type 0
IsWithin Nothing = Unit {0}
IsWithin (Part pid bytes to_come) = length bytes + 255 * to_come ≤ 32639

-- so it stays by each segment of at most 256 octets
abbrev pub StaysWithin : Type 0
StaysWithin = (held : HeldMessage) (segment : List ℕ) → length segment ≤ 256 → IsWithin held → IsWithin (join_step held segment).0

-- and so at most 32,639 octets are kept
abbrev pub KeepsFew : Type 0
KeepsFew = (held : HeldMessage) → IsWithin held → kept held ≤ 32639
