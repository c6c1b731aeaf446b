-- How many messages were taken at an end stays in each step but that by which one is taken.
use Rattle.std.specs.Prelude.{◌≡◌, ℕ, ◌+◌, Bool, true, false, not, ◌&&◌, nat_lt, if◌then◌else◌, length, refl}
use Rattle.std.proofs.Common.{arith}
use Rattle.circuit_l4.specs.declared.notice.EndNotice.TheVariants.{FailedOversize}
use Rattle.circuit_l4.specs.State.{Effect, State, begin, is_up, Appended, busy, without_first, inbox, follow}
use Rattle.circuit_l4.specs.Moves.{end_with, with_receiving, emit_ack}
use Rattle.circuit_l4.specs.Table.{Input, Take, resume_by, step, take_from}
use Rattle.circuit_l4.proofs.Parts.{either_going}
use Rattle.circuit_table.specs.Standing.{capped_count}
use Rattle.circuit_table.proofs.Lasting.{lasts, move_on_taken}

abbrev pub IsNoTake : Input → Type 0
IsNoTake Take = ⊥
IsNoTake _ = Unit {0}

-- each step but a take leaves how many messages were taken
pub taken_same : (s : State) (i : Input) (now : ℕ) → IsNoTake i → (step s i now).end.receiving.taken ≡ s.receiving.taken
taken_same s i now h =
    lasts (λ c d. d.taken ≡ c.taken) (λ c. refl) (λ c d k e. e) (λ c d p e. e) IsNoTake (λ s to own window now a. refl) (λ s r a. absurd a) s i now h

-- one more is taken, where one waits
abbrev pub taken_by : Bool → ℕ → ℕ
taken_by b n = if b then n + 1 else n

take_case : (s : State) (b : Bool) → (if b then take_from (without_first s.receiving) (begin s) else begin s).end.receiving.taken ≡ taken_by b s.receiving.taken
take_case s true =
    let g : Effect = begin s in
    let r = without_first s.receiving in
    let a : Appended = follow r in
    let moved : a.half.taken ≡ r.taken = move_on_taken (length r.early) r in
    let P : Effect → Type 0 = λ h. h.end.receiving.taken ≡ r.taken in
    either_going P (is_up s.phase && busy s.receiving && not (busy r)) (resume_by a (with_receiving r g)) (with_receiving r g)
    (either_going P a.fits (emit_ack false (with_receiving a.half (with_receiving r g))) (end_with FailedOversize (with_receiving a.half (with_receiving r g))) moved moved) refl
take_case s false = refl

pub taken_more : (s : State) (now : ℕ) → (step s Take now).end.receiving.taken ≡ taken_by (nat_lt 0 (length (inbox s.receiving))) s.receiving.taken
taken_more s now = take_case s (nat_lt 0 (length (inbox s.receiving)))

pub one_more : (k n r : ℕ) → k ≡ capped_count n → r ≡ capped_count (k + 1) → r ≡ capped_count (n + 1)
one_more k n r e f = omega (arith, e, f)
