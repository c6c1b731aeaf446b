-- The fragments of a message, and how messages are gathered from them (NET/ROM, Appendix B).
use Rattle.std.specs.Prelude.{ℕ, ◌*◌, List, take, drop, map, length, Bool, nat_lt, if◌then◌else◌, [], ◌++◌}
use Rattle.std.specs.Int.{div_ceil}
use Rattle.std.specs.List.{range_with_len}
use Rattle.circuit_reassembly.specs.declared.TheConstants.{FRAGMENT, LONGEST}

-- The fragments of a message (NET/ROM, Appendix B).

-- a piece, and whether more follow
abbrev pub Fragment : Type 0
Fragment = List ℕ × Bool

-- how many fragments a message of this length has
abbrev pub fragments_in : ℕ → ℕ
fragments_in len = div_ceil len FRAGMENT

-- the fragment behind n others
abbrev pub fragment_at : List ℕ → ℕ → Fragment
fragment_at message n = let rest = drop (n * FRAGMENT) message in (take FRAGMENT rest, nat_lt FRAGMENT (length rest))

-- the fragments of a message, in order
abbrev pub fragments_of : List ℕ → List Fragment
fragments_of message = map (fragment_at message) (range_with_len 0 (fragments_in (length message)))

-- How messages are gathered from fragments (NET/ROM, Appendix B; the longest message is this project's profile).

-- what a fragment is answered by
pub data Answer : Type 0 where
  More : Answer
  Whole : List ℕ → Answer
  Too_long : Answer

-- A fragment is put behind the bytes that are held: what is held then, and the answer. Where the bytes would be too many,
-- nothing is changed.
abbrev pub gather_step : List ℕ → List ℕ → Bool → List ℕ × Answer
gather_step held piece more =
    if nat_lt LONGEST (length (held ++ piece))
    then (held, Too_long)
    else (if more then (held ++ piece, More) else ([], Whole (held ++ piece)))
