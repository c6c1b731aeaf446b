-- How a stream is read to its end, and each read answered before the next. Own profile.
use Rattle.std.specs.Prelude.{ℕ, ◌≡◌, ◌<◌, ◌≤◌, ◌++◌, List, [], ◌∷◌, length, map, All, Option, IsSomeAnd}
use Rattle.std.specs.Io.KnownBytes.{Consumes, IsAtEnd, Appends}
use Rattle.radio_base.specs.Causes.{Rose, Gains}
use Rattle.cmd_streams.specs.declared.streams.StreamRefusal.{StreamRefusal}
use Rattle.cmd_streams.specs.declared.streams.StreamRefusal.TheVariants.{ReadFault, WriteFault, TooLong, NoMemory}
use Rattle.cmd_streams.specs.Told.{AppendsFront}

-- the most bytes that a stream may have: one less than 2^32
abbrev pub max_stream : ℕ
max_stream = 4294967295

-- a read that gave bytes, and the moment behind it in milliseconds
pub record Read : Type 0 where
  pub bytes : List ℕ
  pub now : ℕ

abbrev pub read_of : List ℕ → ℕ → Read
read_of bytes now = record { bytes = bytes; now = now }

abbrev pub bytes_of : List Read → List ℕ
bytes_of [] = []
bytes_of (read ∷ later) = read.bytes ++ bytes_of later

abbrev pub sizes_of : List Read → List ℕ
sizes_of reads = map (λ (read : Read). length read.bytes) reads

abbrev pub moments_of : List Read → List ℕ
moments_of reads = map (λ (read : Read). read.now) reads

-- what stands where a stream comes in: the bytes still to come, the sizes of the reads, and the moments that were asked for,
-- each where it is told
pub record Input : Type 0 where
  pub left : Option (List ℕ)
  pub sizes : Option (List ℕ)
  pub moments : Option (List ℕ)

abbrev pub input_of : Option (List ℕ) → Option (List ℕ) → Option (List ℕ) → Input
input_of left sizes moments = record { left = left; sizes = sizes; moments = moments }

-- a read gave some bytes, and at most so many
abbrev pub IsRead : ℕ → Read → Type 0
IsRead most read = (0 < length read.bytes) × (length read.bytes ≤ most)

-- these reads came, and a moment was asked for behind each
pub record Takes (most : ℕ) (before after : Input) (reads : List Read) : Type 0 where
  pub bytes : Consumes before.left after.left (bytes_of reads)
  pub sizes : Appends before.sizes after.sizes (sizes_of reads)
  pub moments : Gains before.moments after.moments (moments_of reads)
  pub each : All (IsRead most) reads

-- These reads came, no more bytes than a stream may have, and their answer was written: `out` is what had been written before, where
-- that is told, and `out'` what has been after.
-- `Answered reads text` says that the text is the answer to the reads.
pub record Answers (most : ℕ) (Answered : List Read → List ℕ → Type 0) (before after : Input) (out out' : Option (List ℕ)) : Type 0 where
  pub reads : List Read
  pub text : List ℕ
  pub taken : Takes most before after reads
  pub fits : length (bytes_of reads) ≤ max_stream
  pub answered : Answered reads text
  pub written : Appends out out' text

-- a stream was read to its end, and its answer was written
abbrev pub AnswersAll : ℕ → (List Read → List ℕ → Type 0) → Input → Input → Option (List ℕ) → Option (List ℕ) → Type 0
AnswersAll most Answered before after written written' = Answers most Answered before after written written' × IsAtEnd after.left

-- These reads came, and then one more. The answer to the earlier ones was written, and nothing else.
pub record AnswersEarlier (most : ℕ) (Answered : List Read → List ℕ → Type 0) (before after : Input) (out out' : Option (List ℕ)) : Type 0 where
  pub reads : List Read
  pub last : Read
  pub text : List ℕ
  pub taken : Takes most before after (reads ++ last ∷ [])
  pub fits : length (bytes_of reads) ≤ max_stream
  pub answered : Answered reads text
  pub written : Appends out out' text

-- the same, and the last read brought more bytes than a stream may have
abbrev pub AnswersUntilTooLong : ℕ → (List Read → List ℕ → Type 0) → Input → Input → Option (List ℕ) → Option (List ℕ) → Type 0
AnswersUntilTooLong most Answered before after written written' =
    (e : AnswersEarlier most Answered before after written written') × (max_stream < length (bytes_of (e.reads ++ e.last ∷ [])))

-- these reads came, and a front of their answer was written
pub record AnswersSome (most : ℕ) (Answered : List Read → List ℕ → Type 0) (before after : Input) (out out' : Option (List ℕ)) : Type 0 where
  pub reads : List Read
  pub text : List ℕ
  pub taken : Takes most before after reads
  pub fits : length (bytes_of reads) ≤ max_stream
  pub answered : Answered reads text
  pub front : AppendsFront out out' text

-- why a stream wasn't answered to its end, and what was written
abbrev pub WhyUnanswered : ℕ → (List Read → List ℕ → Type 0) → Input → Input → Option (List ℕ) → Option (List ℕ) → ℕ → ℕ → ℕ → ℕ → StreamRefusal → Type 0
WhyUnanswered most Answered before after written written' reads reads' writes writes' ReadFault =
    Answers most Answered before after written written' × Rose reads reads' × (writes' ≡ writes)
WhyUnanswered most Answered before after written written' reads reads' writes writes' WriteFault =
    AnswersSome most Answered before after written written' × Rose writes writes' × (reads' ≡ reads)
WhyUnanswered most Answered before after written written' reads reads' writes writes' TooLong =
    AnswersUntilTooLong most Answered before after written written' × (reads' ≡ reads) × (writes' ≡ writes)
WhyUnanswered most Answered before after written written' reads reads' writes writes' NoMemory =
    AnswersEarlier most Answered before after written written' × (reads' ≡ reads) × (writes' ≡ writes)

-- the source tells its bytes, and they are a stream of no more than may be
abbrev pub TellsStream : Option (List ℕ) → Type 0
TellsStream left = IsSomeAnd left (λ bytes. length bytes ≤ max_stream)

-- the source tells its bytes, and they are more than a stream may have
abbrev pub TellsLongStream : Option (List ℕ) → Type 0
TellsLongStream left = IsSomeAnd left (λ bytes. max_stream < length bytes)
