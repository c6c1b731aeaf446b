-- Mails by their names.
use Rattle.std.proofs.Common.{◌≡◌, ◌∙◌, ℕ, List, [], ◌∷◌, Bool, true, false, cond, filter, refl, sym, ap}
use Rattle.std.specs.Prelude.{◌&&◌, ◌==◌, not}
use Rattle.std.proofs.lemmas.Bool.{eqb-true, or_from, or_parts}
use Rattle.ax_address.specs.Callsign.{Callsign, same_call}
use Rattle.ax_address.proofs.SameCalls.{same_call-true}
use Rattle.node_mail.specs.Lists.{has_text, is_stored, killed_in, with_texts, without_text}
use Rattle.node_mail.specs.declared.mail.Mail.{Mail}
use Rattle.node_mail.proofs.Letters.{Differ}

abbrev pub is_named : Callsign → ℕ → Mail → Bool
is_named origin n m = same_call m.origin origin && (m.number == n)

-- without the mails of that name
abbrev pub unnamed : Callsign → ℕ → List Mail → List Mail
unnamed origin n ms = filter (λ (m : Mail). not (is_named origin n m)) ms

-- where none has the name
none_case : (m : Mail) (ms rest : List Mail) (b : Bool) → b ≡ false → rest ≡ ms → cond (not b) (m ∷ rest) rest ≡ m ∷ ms
none_case m ms rest true e h = absurd cc
none_case m ms rest false e h = ap (λ xs. m ∷ xs) h

pub unnamed_none : (ms : List Mail) (origin : Callsign) (n : ℕ) → is_stored ms origin n ≡ false → unnamed origin n ms ≡ ms
unnamed_none [] origin n h = refl
unnamed_none (m ∷ ms) origin n h =
    let parts = or_parts (is_named origin n m) (is_stored ms origin n) h in
    none_case m ms (unnamed origin n ms) (is_named origin n m) parts.0 (unnamed_none ms origin n parts.1)

kept_none : (m : Mail) (rest : List Mail) (origin : Callsign) (n : ℕ) (b : Bool) → is_named origin n m ≡ false → is_stored rest origin n ≡ false → is_stored (cond b (m ∷ rest) rest) origin n ≡ false
kept_none m rest origin n true e h = or_from (is_named origin n m) (is_stored rest origin n) e h
kept_none m rest origin n false e h = h

pub none_filtered : (test : Mail → Bool) (ms : List Mail) (origin : Callsign) (n : ℕ) → is_stored ms origin n ≡ false → is_stored (filter test ms) origin n ≡ false
none_filtered test [] origin n h = refl
none_filtered test (m ∷ ms) origin n h =
    let parts = or_parts (is_named origin n m) (is_stored ms origin n) h in
    kept_none m (filter test ms) origin n (test m) parts.0 (none_filtered test ms origin n parts.1)

differ_case : (m : Mail) (rest : List Mail) (b : Bool) → is_stored rest m.origin m.number ≡ false → Differ rest → Differ (cond b (m ∷ rest) rest)
differ_case m rest true h d = (h, d)
differ_case m rest false h d = d

pub differ_filtered : (test : Mail → Bool) (ms : List Mail) → Differ ms → Differ (filter test ms)
differ_filtered test [] d = tt
differ_filtered test (m ∷ ms) d = differ_case m (filter test ms) (test m) (none_filtered test ms m.origin m.number d.0) (differ_filtered test ms d.1)

-- a mail of the name is the one of it
named_none : (m : Mail) (ms : List Mail) (origin : Callsign) (n : ℕ) (same number : Bool) → same_call m.origin origin ≡ same → (m.number == n) ≡ number → (same && number) ≡ true
    → is_stored ms m.origin m.number ≡ false → is_stored ms origin n ≡ false
named_none m ms origin n true true e f h k = ap (λ o. is_stored ms o n) (sym (same_call-true m.origin origin e)) ∙ (ap (is_stored ms m.origin) (sym (eqb-true m.number n f)) ∙ k)
named_none m ms origin n true false e f h k = absurd cc
named_none m ms origin n false number e f h k = absurd cc

pub is_the_one : (m : Mail) (ms : List Mail) (origin : Callsign) (n : ℕ) → is_named origin n m ≡ true → is_stored ms m.origin m.number ≡ false → is_stored ms origin n ≡ false
is_the_one m ms origin n h k = named_none m ms origin n (same_call m.origin origin) (m.number == n) refl refl h k

-- the order of two choices doesn't matter
swap_case : (P Q : Mail → Bool) (m : Mail) (ps qs : List Mail) (p q : Bool) → P m ≡ p → Q m ≡ q → filter P qs ≡ filter Q ps
    → filter P (cond q (m ∷ qs) qs) ≡ filter Q (cond p (m ∷ ps) ps)
swap_case P Q m ps qs true true e f h = ap (λ b. cond b (m ∷ filter P qs) (filter P qs)) e ∙ (ap (λ xs. m ∷ xs) h ∙ sym (ap (λ b. cond b (m ∷ filter Q ps) (filter Q ps)) f))
swap_case P Q m ps qs true false e f h = h ∙ sym (ap (λ b. cond b (m ∷ filter Q ps) (filter Q ps)) f)
swap_case P Q m ps qs false true e f h = ap (λ b. cond b (m ∷ filter P qs) (filter P qs)) e ∙ h
swap_case P Q m ps qs false false e f h = h

pub filters_swap : (P Q : Mail → Bool) (ms : List Mail) → filter P (filter Q ms) ≡ filter Q (filter P ms)
filters_swap P Q [] = refl
filters_swap P Q (m ∷ ms) = swap_case P Q m (filter P ms) (filter Q ms) (P m) (Q m) refl refl (filters_swap P Q ms)

-- a mail that is killed has no text any more, and all others have theirs
text_case : (m : Mail) (ms : List Mail) (origin : Callsign) (n : ℕ) (t : Bool) → is_named origin n m ≡ true → is_stored ms origin n ≡ false
    → with_texts ms ≡ unnamed origin n (cond t (m ∷ with_texts ms) (with_texts ms))
text_case m ms origin n t e h =
    let none = unnamed_none (with_texts ms) origin n (none_filtered has_text ms origin n h) in by t none
  where
    by : (t : Bool) → unnamed origin n (with_texts ms) ≡ with_texts ms → with_texts ms ≡ unnamed origin n (cond t (m ∷ with_texts ms) (with_texts ms))
    by true none = sym none ∙ sym (ap (λ b. cond (not b) (m ∷ unnamed origin n (with_texts ms)) (unnamed origin n (with_texts ms))) e)
    by false none = sym none

other_case : (m : Mail) (ms killed : List Mail) (origin : Callsign) (n : ℕ) (t : Bool) → is_named origin n m ≡ false → with_texts killed ≡ unnamed origin n (with_texts ms)
    → cond t (m ∷ with_texts killed) (with_texts killed) ≡ unnamed origin n (cond t (m ∷ with_texts ms) (with_texts ms))
other_case m ms killed origin n true e h = ap (λ xs. m ∷ xs) h ∙ sym (ap (λ b. cond (not b) (m ∷ unnamed origin n (with_texts ms)) (unnamed origin n (with_texts ms))) e)
other_case m ms killed origin n false e h = h

kill_case : (m : Mail) (ms : List Mail) (origin : Callsign) (n : ℕ) (b : Bool) → is_named origin n m ≡ b → is_stored ms m.origin m.number ≡ false → with_texts (killed_in ms origin n) ≡ unnamed origin n (with_texts ms)
    → with_texts (cond b (without_text m ∷ ms) (m ∷ killed_in ms origin n)) ≡ unnamed origin n (with_texts (m ∷ ms))
kill_case m ms origin n true e h k = text_case m ms origin n (has_text m) e (is_the_one m ms origin n e h)
kill_case m ms origin n false e h k = other_case m ms (killed_in ms origin n) origin n (has_text m) e k

pub texts_killed : (ms : List Mail) (origin : Callsign) (n : ℕ) → Differ ms → with_texts (killed_in ms origin n) ≡ unnamed origin n (with_texts ms)
texts_killed [] origin n d = refl
texts_killed (m ∷ ms) origin n d = kill_case m ms origin n (is_named origin n m) refl d.0 (texts_killed ms origin n d.1)
