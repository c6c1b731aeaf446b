-- Why one read of a stream wasn't answered. No public clause cites it: it is for the proof of the loop over the reads.
use Rattle.std.specs.Prelude.{ℕ, ◌≡◌, List, Option}
use Rattle.radio_base.specs.Causes.{Rose}
use Rattle.cmd_streams.specs.declared.streams.StreamRefusal.{StreamRefusal}
use Rattle.cmd_streams.specs.declared.streams.StreamRefusal.TheVariants.{ReadFault, WriteFault, TooLong, NoMemory}
use Rattle.cmd_streams.specs.Told.{AppendsFront}

abbrev pub WhyNoAnswer : (List ℕ → Type 0) → Option (List ℕ) → Option (List ℕ) → ℕ → ℕ → StreamRefusal → Type 0
WhyNoAnswer IsAnswer written written' writes writes' WriteFault =
    ((more : List ℕ) × IsAnswer more × AppendsFront written written' more) × Rose writes writes'
WhyNoAnswer IsAnswer written written' writes writes' NoMemory = (written' ≡ written) × (writes' ≡ writes)
WhyNoAnswer IsAnswer written written' writes writes' ReadFault = ⊥
WhyNoAnswer IsAnswer written written' writes writes' TooLong = ⊥
