-- What the code answers, and what is held once that is given back.
use Rattle.std.specs.Prelude.{◌≡◌, ℕ, Bool, List, Result, Ok, Err, ⊤}
use Rattle.std.specs.Borrow.{follows_so, MutBor, Fml}
use mathlib.Core.Option.{none}
use Rattle.circuit_reassembly.specs.declared.gather.Gathered.{Gathered}
use Rattle.circuit_reassembly.specs.declared.gather.Gathered.TheVariants as gathered
use Rattle.circuit_reassembly.specs.declared.gather.Oversize.{Oversize}
use Rattle.circuit_reassembly.specs.contracts.gather.Gather.{the_row}
use Rattle.circuit_reassembly.specs.Fragments.{Answer, More, Whole, Too_long, gather_step}
use Rattle.circuit_reassembly.specs.Holding.{answered}
use Rattle.circuit_reassembly.specs.Kept.{Gathering}

-- an answer of the code as such an answer
abbrev pub answer_of : Result Gathered Oversize → Answer
answer_of (Ok gathered.More) = More
answer_of (Ok (gathered.Whole message)) = Whole message.now
answer_of (Err _) = Too_long

-- once what was lent is given back, the gather has what the step leaves
abbrev pub StepsOn : MutBor Gathering → List ℕ → Bool → Fml
StepsOn gather piece more =
    follows_so the_row the_row gather.ghost_name none (λ _ _. ⊤) (λ later. later ≡ answered (gather_step gather.now.held piece more))
