-- A call of a link is a step of the machine.
use Rattle.std.proofs.Common.{◌≡◌, ℕ, ◌+◌, ◌<◌, Bool, true, false, not, ◌||◌, nat_le, if◌then◌else◌, List, ◌++◌, length, Result, Ok, Err, OnOk, is_ok, ◌&&◌, nat_lt, refl, ap, sym, ◌∙◌, subst, arith, length-append}
use Rattle.std.proofs.lemmas.Bool.Decides.{nat_tests}
use Rattle.radio_base.specs.declared.payload.Payload.{Payload}
use Rattle.ax_link.specs.declared.refusal.SendRefusal.{SendRefusal}
use Rattle.ax_link.specs.State.{State, Effect, begin, count_end}
use Rattle.ax_link.specs.Table.{accept, may_close, takes}
use Rattle.ax_link.specs.Standing.{IsDrained, LinkView, KeepsEffect, Keeps, state_of}
use Rattle.ax_link.specs.Opening.{answer_by, send_answer, taken_in}

-- a step begins where nothing waits
pub begins : (size : ℕ) (h : LinkView) (s : State) → IsDrained h → Keeps size h s → KeepsEffect size h (begin s)
begins size h s drained stands =
    record {
      before = stands.before;
      received = stands.received;
      acked = stands.acked;
      got = stands.got;
      is = ap begin stands.is ∙ rw (drained.outs, drained.notice) refl;
    }

-- a part that is done from what is kept is a step
pub stepped : (size : ℕ) (h later : LinkView) (now moment : ℕ) (part : ℕ → Effect → Effect) → IsDrained h → now ≡ moment →
    ((g : Effect) → KeepsEffect size h g → KeepsEffect size later (part now g)) →
    (s : State) → Keeps size h s → KeepsEffect size later (part moment (begin s))
stepped size h later now moment part drained e does s stands =
    subst (λ (n : ℕ). KeepsEffect size later (part n (begin s))) e (does (begin s) (begins size h s drained stands))

both_hold : (up closing : Bool) → (not up || closing) ≡ false → (up ≡ true) × (closing ≡ false)
both_hold true true e = absurd (cc e)
both_hold true false e = (refl, refl)
both_hold false closing e = absurd (cc e)

takes_all : (size : ℕ) (h : LinkView) (before received : List Payload) → length before ≡ h.acked → may_close h.phase ≡ true → h.closing ≡ false →
    length h.queue < 128 → h.acked + length h.queue < count_end → takes (state_of size h before received) ≡ true
takes_all size h before received a up stays room more =
    let n : length (before ++ h.queue) ≡ h.acked + length h.queue = omega (arith, length-append before h.queue, a) in
    rw (up, stays, n) (grind (arith, nat_tests, room, more))

accepts_by : (size : ℕ) (h : LinkView) (before received : List Payload) (refused full ended : Bool) → length before ≡ h.acked →
    (not (may_close h.phase) || h.closing) ≡ refused → nat_le 128 (length h.queue) ≡ full → nat_le count_end (h.acked + length h.queue) ≡ ended →
    answer_by refused full ended ≡ taken_in →
    takes (state_of size h before received) ≡ true
accepts_by size h before received true full ended a r f e is = absurd (cc is)
accepts_by size h before received false true ended a r f e is = absurd (cc is)
accepts_by size h before received false false true a r f e is = absurd (cc is)
accepts_by size h before received false false false a r f e is =
    let both = both_hold (may_close h.phase) h.closing r in
    takes_all size h before received a both.0 both.1 (grind (arith, nat_tests, f)) (grind (arith, nat_tests, e))

-- where the answer is Ok, the machine takes the payload
pub accepts : (size : ℕ) (h later : LinkView) (now moment : ℕ) (p : Payload) → IsDrained h → now ≡ moment → send_answer h ≡ taken_in →
    ((g : Effect) → KeepsEffect size h g → KeepsEffect size later (accept now p g)) →
    (s : State) → Keeps size h s → KeepsEffect size later (if takes s then accept moment p (begin s) else begin s)
accepts size h later now moment p drained e is does s stands =
    let t : takes s ≡ true = ap takes stands.is ∙ accepts_by size h stands.before stands.received _ _ _ stands.acked refl refl refl is in
    rw t (stepped size h later now moment (λ n g. accept n p g) drained e does s stands)

pub on_ok : (r : Result (Unit {0}) SendRefusal) (P Q : Type 0) → (r ≡ taken_in → P → Q) → OnOk r P → OnOk r Q
on_ok (Ok tt) P Q f p = f refl p
on_ok (Err e) P Q f p = tt

same_tests : (a b c d : Bool) → is_ok (answer_by (not a || b) c d) ≡ (a && (not b && (not c && not d)))
same_tests true true c d = refl
same_tests false b c d = refl
same_tests true false true d = refl
same_tests true false false true = refl
same_tests true false false false = refl

-- the answer is Ok exactly where the machine takes the payload
pub takes_is : (size : ℕ) (h : LinkView) (s : State) → Keeps size h s → is_ok (send_answer h) ≡ takes s
takes_is size h s stands =
    let n : length (stands.before ++ h.queue) ≡ h.acked + length h.queue = omega (arith, length-append stands.before h.queue, stands.acked) in
    let room : nat_lt (length (stands.before ++ h.queue)) (h.acked + 128) ≡ not (nat_le 128 (length h.queue)) = more (nat_le 128 (length h.queue)) refl n in
    let left : nat_lt (length (stands.before ++ h.queue)) count_end ≡ not (nat_le count_end (h.acked + length h.queue)) = most (nat_le count_end (h.acked + length h.queue)) refl n in
    same_tests (may_close h.phase) h.closing (nat_le 128 (length h.queue)) (nat_le count_end (h.acked + length h.queue))
    ∙ sym (ap takes stands.is
    ∙ ap (λ b. may_close h.phase && (not h.closing && (b && nat_lt (length (stands.before ++ h.queue)) count_end))) room
    ∙ ap (λ b. may_close h.phase && (not h.closing && (not (nat_le 128 (length h.queue)) && b))) left)
  where
    more : (b : Bool) → nat_le 128 (length h.queue) ≡ b → length (stands.before ++ h.queue) ≡ h.acked + length h.queue → nat_lt (length (stands.before ++ h.queue)) (h.acked + 128) ≡ not b
    more true e n = grind (arith, nat_tests, e, n)
    more false e n = grind (arith, nat_tests, e, n)

    most : (b : Bool) → nat_le count_end (h.acked + length h.queue) ≡ b → length (stands.before ++ h.queue) ≡ h.acked + length h.queue → nat_lt (length (stands.before ++ h.queue)) count_end ≡ not b
    most true e n = grind (arith, nat_tests, e, n)
    most false e n = grind (arith, nat_tests, e, n)
