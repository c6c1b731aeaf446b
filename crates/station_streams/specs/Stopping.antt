-- Why a stream wasn't answered to its end, and why one text wasn't written. No public clause cites it: it is for the proof of the loop over
-- the reads.
use Rattle.std.specs.Prelude.{ℕ, ◌≡◌, ◌⊎◌, List, Option, Bool}
use Rattle.radio_base.specs.Causes.{Rose}
use Rattle.cmd_streams.specs.Streams.{Read, Input, Answers, AnswersEarlier, AnswersSome, AnswersUntilTooLong}
use Rattle.cmd_streams.specs.Told.{AppendsFront}
use Rattle.station_streams.specs.declared.reads.StreamStop.{StreamStop}
use Rattle.station_streams.specs.declared.reads.StreamStop.TheVariants.{ReadFault, WriteFault, TooLong, NoMemory}

-- `Noted reads text`: the text is the answer to the reads, and what is told of them was noted. `Whole over reads text`: so it is of them
-- and the end.
abbrev pub WhyStopped : ℕ → (List Read → List ℕ → Type 0) → (Bool → List Read → List ℕ → Type 0) → Input → Input → Option (List ℕ) → Option (List ℕ) → ℕ → ℕ → ℕ → ℕ → StreamStop → Type 0
WhyStopped most Noted Whole before after written written' reads reads' writes writes' ReadFault =
    Answers most Noted before after written written' × Rose reads reads' × (writes' ≡ writes)
WhyStopped most Noted Whole before after written written' reads reads' writes writes' WriteFault =
    (AnswersSome most Noted before after written written' ⊎ ((over : Bool) × AnswersSome most (Whole over) before after written written'))
    × Rose writes writes' × (reads' ≡ reads)
WhyStopped most Noted Whole before after written written' reads reads' writes writes' TooLong =
    AnswersUntilTooLong most Noted before after written written' × (reads' ≡ reads) × (writes' ≡ writes)
WhyStopped most Noted Whole before after written written' reads reads' writes writes' NoMemory =
    (AnswersEarlier most Noted before after written written' ⊎ Answers most Noted before after written written')
    × (reads' ≡ reads) × (writes' ≡ writes)

-- `Said text`: the text is the answer to one read, or to the end, and what is told of it was noted. `Same`: nothing was noted.
abbrev pub WhyUnwritten : (List ℕ → Type 0) → Type 0 → Option (List ℕ) → Option (List ℕ) → ℕ → ℕ → StreamStop → Type 0
WhyUnwritten Said Same written written' writes writes' WriteFault =
    ((text : List ℕ) × Said text × AppendsFront written written' text) × Rose writes writes'
WhyUnwritten Said Same written written' writes writes' NoMemory = (written' ≡ written) × (writes' ≡ writes) × Same
WhyUnwritten Said Same written written' writes writes' ReadFault = ⊥
WhyUnwritten Said Same written written' writes writes' TooLong = ⊥
