-- What a gather keeps, in octets, and the most that it may (this project's profile).
use Rattle.std.specs.Prelude.{ℕ, List, length}

-- its bytes
pub record Gathering : Type 0 where
  pub held : List ℕ  -- those of a message of which more is to come
  pub buffer : List ℕ  -- all that its buffer has: these, or a message that was handed up until it is let go of

-- nothing was handed up that isn't let go of
abbrev pub still : List ℕ → Gathering
still held = record { held = held; buffer = held }

abbrev pub kept : Gathering → ℕ
kept g = length g.buffer

-- the longest message
abbrev pub share : ℕ
share = 8192
