-- What holds of every message and its segments.
use Rattle.std.specs.Prelude.{◌≡◌, ℕ, ◌-◌, ◌≤◌, List, [], ◌∷◌, ◌++◌, length, All, flat_map, replicate}
use Rattle.ax_segment.specs.declared.TheConstants.{FULL_PIECE}
use Rattle.ax_segment.specs.Segments.{cut, segments_of, IsSplittable}
use Rattle.ax_segment.specs.Joining.{Nothing, Answer, More, Whole, Short, Broken, held_after, answers}

-- the texts of a list, one after another
abbrev pub joined : List (List ℕ) → List ℕ
joined [] = []
joined (piece ∷ rest) = piece ++ joined rest

-- all pieces but the last are full, and the last has at least one octet and at most as many as a full one
abbrev pub AreFull : List (List ℕ) → Type 0
AreFull [] = Unit {0}
AreFull (last ∷ []) = (1 ≤ length last) × (length last ≤ FULL_PIECE)
AreFull (piece ∷ next ∷ rest) = (length piece ≡ FULL_PIECE) × AreFull (next ∷ rest)

-- the pieces of a text make it up
abbrev pub PiecesAreFull : Type 0
PiecesAreFull = (text : List ℕ) → (joined (cut text) ≡ text) × AreFull (cut text)

-- the segments of a message join to it
abbrev pub SegmentsJoin : Type 0
SegmentsJoin =
    (pid : ℕ) (message : List ℕ) → IsSplittable pid message →
    (answers Nothing (segments_of pid message) ≡ replicate (length (segments_of pid message) - 1) More ++ Whole pid message ∷ []) ×
    (held_after Nothing (segments_of pid message) ≡ Nothing)

-- a message with its PID
pub record Message : Type 0 where
  pub pid : ℕ
  pub bytes : List ℕ

-- the segments of a run of messages
abbrev pub segments_of_all : List Message → List (List ℕ)
segments_of_all messages = flat_map (λ m. segments_of m.pid m.bytes) messages

-- the message that has become whole by an answer
abbrev pub whole_in : Answer → List Message
whole_in (Whole pid message) = record { pid = pid; bytes = message } ∷ []
whole_in More = []
whole_in Short = []
whole_in (Broken expected found) = []

-- the messages that have become whole
abbrev pub wholes : List Answer → List Message
wholes given = flat_map whole_in given

-- whatever prefix of the segments has come, the messages that have become whole are a prefix of those split
abbrev pub JoinedPrefix : Type 0
JoinedPrefix =
    (messages : List Message) → All (λ m. IsSplittable m.pid m.bytes) messages →
    (got missing : List (List ℕ)) → got ++ missing ≡ segments_of_all messages →
    (later : List Message) × (wholes (answers Nothing got) ++ later ≡ messages)
