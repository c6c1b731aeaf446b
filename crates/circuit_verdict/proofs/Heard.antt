-- Overtakers, counted among what was heeded, and the same counted among the messages that were sent.
use Rattle.std.proofs.Common.{◌≡◌, ◌+◌, ◌∙◌, ℕ, refl, sym, ap, arith, length, List, [], ◌∷◌, ◌++◌}
use Rattle.std.specs.Prelude.{Bool, true, false, not, cond, ◌&&◌, ◌||◌, if◌then◌else◌, nat_eq, nat_lt, filter, Option, Some, None}
use Rattle.std.proofs.lemmas.Bool.Decides.{nat_tests}
use Rattle.std.proofs.lemmas.Bool.{eqb-true}
use Rattle.std.proofs.Math.Bool.{and-false}
use Rattle.ax_address.proofs.SameNumbers.{nat_refl}
use Rattle.circuit_set.specs.Books.{HeardNote, SentNote, first_place, has, is_heard, is_number, overtakers, sends}
use Rattle.circuit_table.specs.Events.{Name, same_name}
use Rattle.circuit_set.proofs.Bridge.{same_names, name_itself}
use Rattle.circuit_set.proofs.Notes.{turned}
use Rattle.circuit_verdict.specs.declared.message.Message.{Message}
use Rattle.circuit_verdict.specs.Sendings.{HearsOnce, first_sent, heard_after, messages_in, with_message}

abbrev one : Bool → ℕ
one b = if b then 1 else 0

-- ---- counts of messages ----
abbrev pub among : (Message → Bool) → List Message → ℕ
among p ms = length (filter p ms)

among_by : (b : Bool) (m : Message) (xs : List Message) → length (cond b (m ∷ xs) xs) ≡ one b + length xs
among_by true m xs = omega arith
among_by false m xs = omega arith

among_more : (p : Message → Bool) (m : Message) (ms : List Message) → among p (m ∷ ms) ≡ one (p m) + among p ms
among_more p m ms = among_by (p m) m (filter p ms)

among_push : (p : Message → Bool) (ms : List Message) (m : Message) → among p (ms ++ m ∷ []) ≡ among p ms + one (p m)
among_push p [] m = among_more p m [] ∙ omega arith
among_push p (k ∷ ms) m = among_more p k (ms ++ m ∷ []) ∙ ap (λ n. one (p k) + n) (among_push p ms m) ∙ let e = among_more p k ms in omega (arith, e)

pub among_same : (p q : Message → Bool) (ms : List Message) → ((m : Message) → p m ≡ q m) → among p ms ≡ among q ms
among_same p q [] same = refl
among_same p q (m ∷ ms) same = among_more p m ms ∙ rw (same m, among_same p q ms same) refl ∙ sym (among_more q m ms)

among_none : (p : Message → Bool) (ms : List Message) → ((m : Message) → p m ≡ false) → among p ms ≡ 0
among_none p [] none = refl
among_none p (m ∷ ms) none = among_more p m ms ∙ rw (none m, among_none p ms none) refl

either_by : (q p r : Bool) → (q ≡ true → p ≡ false) → one ((q || p) && r) ≡ one (q && r) + one (p && r)
either_by true p true apart = rw (apart refl) refl
either_by true p false apart = rw (and-false p) refl
either_by false p r apart = omega arith

-- of two tests of which no message passes both
among_either : (q p r : Message → Bool) (ms : List Message) → ((m : Message) → q m ≡ true → p m ≡ false)
    → among (λ (m : Message). (q m || p m) && r m) ms ≡ among (λ (m : Message). q m && r m) ms + among (λ (m : Message). p m && r m) ms
among_either q p r [] apart = refl
among_either q p r (m ∷ ms) apart =
    let all = among_more (λ (x : Message). (q x || p x) && r x) m ms in
    let left = among_more (λ (x : Message). q x && r x) m ms in
    let right = among_more (λ (x : Message). p x && r x) m ms in
    let here = either_by (q m) (p m) (r m) (apart m) in
    let rest = among_either q p r ms apart in
    omega (arith, all, left, right, here, rest)

-- ---- the message of one number ----
abbrev after : ℕ → ℕ → Message → Bool
after n place m = nat_eq m.number n && nat_lt place m.first

none_before : (place : ℕ) → nat_lt place 0 ≡ false
none_before place = grind (arith, nat_tests)

unplaced_by : (b h : Bool) (p place : ℕ) → b || h ≡ false → (if h then p else (if b then place else 0)) ≡ 0
unplaced_by true h p place e = absurd (cc e)
unplaced_by false true p place e = absurd (cc e)
unplaced_by false false p place e = refl

unplaced : (x : Name) (n : ℕ) (ss : List SentNote) → has x n ss ≡ false → first_place x n ss ≡ 0
unplaced x n [] e = refl
unplaced x n (s ∷ ss) e = unplaced_by (sends x n s) (has x n ss) (first_place x n ss) s.place e

kept : (h : Bool) (p : ℕ) → (h ≡ false → p ≡ 0) → p ≡ (if h then p else 0)
kept true p none = refl
kept false p none = none refl

-- an end sends the message again, or for the first time
own_same : (h : Bool) (y : Name) (n place first : ℕ) (ss : List SentNote) → has y n ss ≡ h
    → among (after n place) (messages_in ss y) ≡ one (nat_lt place (first_place y n ss))
    → among (after n place) (if not h then messages_in ss y ++ first_sent n first ∷ [] else messages_in ss y) ≡ one (nat_lt place (if h then first_place y n ss else first))
own_same true y n place first ss e before = before
own_same false y n place first ss e before =
    let none : among (after n place) (messages_in ss y) ≡ 0 = before ∙ rw (unplaced y n ss e, none_before place) refl in
    let here : one (nat_eq n n && nat_lt place first) ≡ one (nat_lt place first) = rw (nat_refl n) refl in
    among_push (after n place) (messages_in ss y) (first_sent n first) ∙ omega (arith, none, here)

-- an end sends another message
own_other : (d : Bool) (y : Name) (k n place first : ℕ) (ss : List SentNote) → nat_eq k n ≡ false
    → among (after n place) (messages_in ss y) ≡ one (nat_lt place (first_place y n ss))
    → among (after n place) (if not d then messages_in ss y ++ first_sent k first ∷ [] else messages_in ss y) ≡ one (nat_lt place (if has y n ss then first_place y n ss else 0))
own_other true y k n place first ss e before = before ∙ ap (λ (p : ℕ). one (nat_lt place p)) (kept (has y n ss) (first_place y n ss) (λ f. unplaced y n ss f))
own_other false y k n place first ss e before =
    let none : one (nat_eq k n && nat_lt place first) ≡ 0 = rw e refl in
    let same = ap (λ (p : ℕ). one (nat_lt place p)) (kept (has y n ss) (first_place y n ss) (λ f. unplaced y n ss f)) in
    among_push (after n place) (messages_in ss y) (first_sent k first) ∙ omega (arith, none, before, same)

own_by : (b : Bool) (y : Name) (k n place first : ℕ) (ss : List SentNote) → nat_eq k n ≡ b
    → among (after n place) (messages_in ss y) ≡ one (nat_lt place (first_place y n ss))
    → among (after n place) (if not (has y k ss) then messages_in ss y ++ first_sent k first ∷ [] else messages_in ss y)
    ≡ one (nat_lt place (if has y n ss then first_place y n ss else (if b then first else 0)))
own_by true y k n place first ss e before = rw (eqb-true k n e) (own_same (has y n ss) y n place first ss refl before)
own_by false y k n place first ss e before = own_other (has y k ss) y k n place first ss e before

with_by : (c : Bool) (who y : Name) (k n place first : ℕ) (ss : List SentNote) → same_name who y ≡ c
    → among (after n place) (messages_in ss y) ≡ one (nat_lt place (first_place y n ss))
    → among (after n place) (with_message who (Some k) first ss y (messages_in ss y))
    ≡ one (nat_lt place (if has y n ss then first_place y n ss else (if c && nat_eq k n then first else 0)))
with_by true who y k n place first ss e before = rw (same_names who y e, name_itself y) (own_by (nat_eq k n) y k n place first ss refl before)
with_by false who y k n place first ss e before =
    rw e (before ∙ ap (λ (p : ℕ). one (nat_lt place p)) (kept (has y n ss) (first_place y n ss) (λ f. unplaced y n ss f)))

step_by : (o : Option ℕ) (who y : Name) (n place first : ℕ) (ss : List SentNote)
    → among (after n place) (messages_in ss y) ≡ one (nat_lt place (first_place y n ss))
    → among (after n place) (with_message who o first ss y (messages_in ss y))
    ≡ one (nat_lt place (if has y n ss then first_place y n ss else (if same_name who y && is_number o n then first else 0)))
step_by None who y n place first ss before =
    rw (and-false (same_name who y)) (before ∙ ap (λ (p : ℕ). one (nat_lt place p)) (kept (has y n ss) (first_place y n ss) (λ f. unplaced y n ss f)))
step_by (Some k) who y n place first ss before = with_by (same_name who y) who y k n place first ss refl before

one_number : (y : Name) (n place : ℕ) (ss : List SentNote) → among (after n place) (messages_in ss y) ≡ one (nat_lt place (first_place y n ss))
one_number y n place [] = rw (none_before place) refl
one_number y n place (s ∷ ss) = step_by s.number s.who y n place s.place ss (one_number y n place ss)

-- ---- all that was heeded ----
abbrev pub heard_later : Name → ℕ → List HeardNote → Message → Bool
heard_later x place hs m = is_heard x m.number hs && nat_lt place m.first

counted_by : (c : Bool) (h : HeardNote) (hs : List HeardNote) (ss : List SentNote) (y x : Name) (place : ℕ) → same_name h.who x ≡ c → is_heard h.who h.number hs ≡ false
    → heard_after ss hs y x place ≡ among (heard_later x place hs) (messages_in ss y)
    → one (c && nat_lt place (first_place y h.number ss)) + heard_after ss hs y x place
    ≡ among (λ (m : Message). ((c && nat_eq m.number h.number) || is_heard x m.number hs) && nat_lt place m.first) (messages_in ss y)
counted_by true h hs ss y x place e new before =
    let new_to_x : is_heard x h.number hs ≡ false = rw (same_names h.who x e) at new in
    let both = among_either (λ (m : Message). nat_eq m.number h.number) (λ (m : Message). is_heard x m.number hs) (λ (m : Message). nat_lt place m.first) (messages_in ss y)
    (λ m q. rw (eqb-true m.number h.number q) new_to_x) in
    let here = one_number y h.number place ss in
    omega (arith, both, here, before)
counted_by false h hs ss y x place e new before = omega (arith, before)

pub heard_counted : (hs : List HeardNote) (ss : List SentNote) (y x : Name) (place : ℕ) → HearsOnce hs
    → heard_after ss hs y x place ≡ among (heard_later x place hs) (messages_in ss y)
heard_counted [] ss y x place once = sym (among_none (heard_later x place []) (messages_in ss y) (λ m. refl))
heard_counted (h ∷ hs) ss y x place once = counted_by (same_name h.who x) h hs ss y x place refl once.0 (heard_counted hs ss y x place once.1)

-- ---- both directions ----
same_by : (a : Bool) → one (a || a) ≡ one a
same_by true = refl
same_by false = refl

pub overtakers_same : (hs : List HeardNote) (ss : List SentNote) (y : Name) (place : ℕ) → overtakers y y place ss hs ≡ heard_after ss hs y y place
overtakers_same [] ss y place = refl
overtakers_same (h ∷ hs) ss y place =
    let here = same_by (same_name h.who y && nat_lt place (first_place y h.number ss)) in
    let rest = overtakers_same hs ss y place in
    omega (arith, here, rest)

apart_by : (a b p q : Bool) → (a ≡ true → b ≡ false) → one ((a && p) || (b && q)) ≡ one (a && p) + one (b && q)
apart_by true b true q apart = rw (apart refl) refl
apart_by true b false q apart = omega arith
apart_by false b p q apart = omega arith

other_way : (h y x : Name) → same_name y x ≡ false → same_name h x ≡ true → same_name h y ≡ false
other_way h y x e f = rw (same_names h x f, turned x y) e

pub overtakers_apart : (hs : List HeardNote) (ss : List SentNote) (y x : Name) (place : ℕ) → same_name y x ≡ false
    → overtakers y x place ss hs ≡ heard_after ss hs y x place + heard_after ss hs x y place
overtakers_apart [] ss y x place e = refl
overtakers_apart (h ∷ hs) ss y x place e =
    let here = apart_by (same_name h.who x) (same_name h.who y) (nat_lt place (first_place y h.number ss)) (nat_lt place (first_place x h.number ss)) (other_way h.who y x e) in
    let rest = overtakers_apart hs ss y x place e in
    omega (arith, here, rest)
