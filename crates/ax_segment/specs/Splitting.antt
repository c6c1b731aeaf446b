-- What is still to be given, by what a split holds.
use Rattle.std.specs.Prelude.{ℕ, Bool, true, false, List}
use Rattle.ax_segment.specs.Segments.{cut, counted_down, segments_of}

-- the segments of the bytes that are left: of the whole message, or of those behind its first segment
abbrev pub still_to_give : Bool → ℕ → List ℕ → List (List ℕ)
still_to_give false pid left = segments_of pid left
still_to_give true pid left = counted_down (cut left)
