-- How the lines are marked that bring a frame again. No public clause cites it: not for the reader of a contract.
use Rattle.std.specs.Prelude.{ℕ, List, slice_get, Bool, false, Option, Some, None}

abbrev pub marked : Option Bool → Bool
marked None = false
marked (Some mark) = mark

-- the mark of a line
abbrev pub mark_at : List Bool → ℕ → Bool
mark_at marks line = marked (slice_get marks line)
