-- What a step puts out, and what it keeps.
use Rattle.std.proofs.Common.{◌≡◌, ℕ, ◌+◌, ◌<◌, ◌≤◌, Bool, true, false, ◌&&◌, List, [], ◌∷◌, ◌++◌, length, drop, replicate, Option, Some, None, slice_set, refl, ap, sym, ◌∙◌, arith, append_assoc, length-append}
use Rattle.std.proofs.lemmas.List.{length-drop, length-replicate, length-set}
use Rattle.radio_base.specs.declared.payload.Payload.{Payload}
use Rattle.ax_link.specs.declared.kind.Kind.{Kind}
use Rattle.ax_link.specs.declared.kind.Kind.TheVariants as kind
use Rattle.ax_link.specs.State.{Frame, Rules, count_end, high, places}
use mathlib.Core.List.{IsSuffix}
use Rattle.ax_link.specs.Bounds.{Bounded, Stock, Has}

-- I frames alone carry a payload, each one of those with the property; the numbers are below the modulus; a set-up is a
-- command
abbrev pub IsPut : (Payload → Bool) → ℕ → Bool → Kind → Option Payload → Type 0
IsPut test size command (kind.I ns nr pf) (Some p) = (ns < size) × (nr < size) × Has test p
IsPut test size command (kind.Rr nr pf) None = nr < size
IsPut test size command (kind.Rnr nr pf) None = nr < size
IsPut test size command (kind.Rej nr pf) None = nr < size
IsPut test size command (kind.Srej nr pf) None = nr < size
IsPut test size command (kind.SetUp pf) None = command ≡ true
IsPut test size command (kind.Disc pf) None = Unit {0}
IsPut test size command (kind.Dm pf) None = Unit {0}
IsPut test size command (kind.Ua pf) None = Unit {0}
IsPut test size command k p = ⊥

abbrev pub IsPutOut : (Payload → Bool) → ℕ → Frame → Type 0
IsPutOut test size f = IsPut test size f.command f.kind f.payload

-- every payload
abbrev pub every : Payload → Bool
every p = true

-- ---- bounds

pub some : (s : Stock) → Bounded s → 0 < s.rules.size
some s b = omega (arith, b.window)

pub with_sent : (s : Stock) (n : ℕ) → s.acked ≤ n → n ≤ s.acked + s.rules.window → n ≤ length s.given → Bounded s → Bounded (record s { sent = n })
with_sent s n low high given b =
    record { window = b.window; acked = low; sent = high; given = given; held = b.held; numbers = b.numbers; got = b.got; places = b.places; inbox = b.inbox; untaken = b.untaken }

pub with_acked : (s : Stock) (n : ℕ) → s.acked ≤ n → n ≤ s.sent → Bounded s → Bounded (record s { acked = n })
with_acked s n low high b =
    record { window = b.window; acked = high; sent = omega (arith, low, b.sent); given = b.given; held = omega (arith, low, b.held); numbers = b.numbers; got = b.got; places = b.places; inbox = b.inbox; untaken = b.untaken }

-- the end of a list is that of the longer one
suffix_more : {A : Type 0} (p : A) (xs ys : List A) → IsSuffix xs ys → IsSuffix (xs ++ p ∷ []) (ys ++ p ∷ [])
suffix_more p xs ys (front, is) = (front, sym (append_assoc front xs (p ∷ [])) ∙ ap (λ zs. zs ++ p ∷ []) is)

suffix_less : {A : Type 0} (xs ys : List A) → IsSuffix xs ys → IsSuffix (drop 1 xs) ys
suffix_less [] ys s = s
suffix_less (x ∷ xs) ys (front, is) = (front ++ x ∷ [], append_assoc front (x ∷ []) xs ∙ is)

pub room_for : (a b c d : Bool) → (a && (b && (c && d))) ≡ true → (c ≡ true) × (d ≡ true)
room_for true true true true e = (refl, refl)
room_for true true true false e = absurd (cc e)
room_for true true false d e = absurd (cc e)
room_for true false c d e = absurd (cc e)
room_for false b c d e = absurd (cc e)

-- the places stay as many as one more comes behind and the first one goes
length_shift : {A : Type 0} (xs : List A) (x : A) → length (drop 1 (xs ++ x ∷ [])) ≡ length xs
length_shift [] x = refl
length_shift (y ∷ ys) x = omega (arith, length-append ys (x ∷ []))

pub with_next : (s : Stock) (p : Payload) → length s.received < count_end → length s.inbox < 64 → Bounded s →
    Bounded (record s { received = s.received ++ p ∷ []; inbox = s.inbox ++ p ∷ []; early = drop 1 (s.early ++ None ∷ []) })
with_next s p more room b =
    record {
      window = b.window;
      acked = b.acked;
      sent = b.sent;
      given = b.given;
      held = b.held;
      numbers = b.numbers;
      got = omega (arith, more, length-append s.received (p ∷ []));
      places = length_shift s.early None ∙ b.places;
      inbox = omega (arith, room, length-append s.inbox (p ∷ []));
      untaken = suffix_more p s.inbox s.received b.untaken;
    }

pub with_early : (s : Stock) (i : ℕ) (p : Payload) → Bounded s → Bounded (record s { early = slice_set s.early i (Some p) })
with_early s i p b =
    record { window = b.window; acked = b.acked; sent = b.sent; given = b.given; held = b.held; numbers = b.numbers; got = b.got; places = length-set s.early i (Some p) ∙ b.places; inbox = b.inbox; untaken = b.untaken }

pub with_given : (s : Stock) (p : Payload) → length s.given < s.acked + 128 → length s.given < count_end → Bounded s → Bounded (record s { given = s.given ++ p ∷ [] })
with_given s p room more b =
    let n = length-append s.given (p ∷ []) in
    record {
      window = b.window;
      acked = b.acked;
      sent = b.sent;
      given = omega (arith, b.given, n);
      held = omega (arith, room, n);
      numbers = omega (arith, more, n);
      got = b.got;
      places = b.places;
      inbox = b.inbox;
      untaken = b.untaken;
    }

pub with_rest : (s : Stock) → Bounded s → Bounded (record s { inbox = drop 1 s.inbox })
with_rest s b =
    record { window = b.window; acked = b.acked; sent = b.sent; given = b.given; held = b.held; numbers = b.numbers; got = b.got; places = b.places; inbox = omega (arith, b.inbox, length-drop 1 s.inbox); untaken = suffix_less s.inbox s.received b.untaken }

pub emptied : (rules : Rules) → rules.window < rules.size →
    Bounded (record { rules = rules; acked = 0; sent = 0; given = []; received = []; inbox = []; early = replicate (places rules) None })
emptied rules fits =
    record { window = fits; acked = omega arith; sent = omega arith; given = omega arith; held = omega arith; numbers = omega arith; got = omega arith; places = length-replicate (places rules) None; inbox = omega arith; untaken = ([], refl) }
