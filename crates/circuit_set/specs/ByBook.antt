-- That the notes of the book tell the same as the events: what comes too late by them comes too late.
use Rattle.std.specs.Prelude.{◌≡◌, ◌≢◌, ◌↔◌, ℕ, false, List, [], Contains, Some, None}
use Rattle.circuit_l4.specs.declared.pair.Pair.{Pair}
use Rattle.circuit_set.specs.Books.{Book, Fresh, MadeNote, SentNote, Timely, any_ends, empty, is_lost, latest_in, latest_to, lost_in, overtakers, partner, requester, with_events}
use Rattle.circuit_table.specs.Events.{Event, Name}
use Rattle.circuit_set.specs.NotedRuns.{allowance_at}
use Rattle.circuit_set.specs.Signs.{AreTooMany, IsUnasked, IsUnsent, OvertakenBy, StillHolds}
use Rattle.circuit_set.specs.TooLate.{AllowsByWindow, HasPartner, IsFresh, IsTimely, Partners, allows_fixed}

-- of any events, whatever they are
abbrev pub FreshByBook : Type 0
FreshByBook = (events : List Event) → Fresh empty events ↔ IsFresh events

-- of fresh ones, by the allowance of the window and by that of 128
abbrev pub TimelyByBook : Type 0
TimelyByBook = (events : List Event) → Fresh empty events → Timely allowance_at empty events ↔ IsTimely AllowsByWindow events

abbrev pub TimelyBy128 : Type 0
TimelyBy128 = (events : List Event) → Fresh empty events → Timely (λ b x. 128) empty events ↔ IsTimely allows_fixed events

-- of fresh ones: whose partner an end is, and that it has none
abbrev pub PartnersByBook : Type 0
PartnersByBook =
    (events : List Event) → Fresh empty events → (x : Name)
    → ((y : Name) → (partner (with_events empty events) x ≡ Some y) ↔ Partners events x y)
    × ((partner (with_events empty events) x ≡ None) ↔ (HasPartner events x → ⊥))

-- ---- of fresh ones: by what it shows that the next one comes too late

-- what x heeds was not sent
abbrev pub UnsentByBook : Type 0
UnsentByBook =
    (events : List Event) → Fresh empty events → (x : Name) (d : List ℕ) → latest_to (with_events empty events) x d ≡ None → IsUnsent events x d

-- where it was sent last, how many have overtaken it, and how many are too many
abbrev pub OvertakenByBook : Type 0
OvertakenByBook =
    (events : List Event) → Fresh empty events → (x y : Name) (d : List ℕ) (s : SentNote)
    → let b : Book = with_events empty events in
    partner b x ≡ Some y → latest_in b.sent y d ≡ Some s → OvertakenBy events x y d s.place (overtakers y x s.place b.sent b.heard)

abbrev pub TooManyByBook : Type 0
TooManyByBook =
    (events : List Event) → Fresh empty events → (x y : Name) → partner (with_events empty events) x ≡ Some y
    → AreTooMany AllowsByWindow events x y (allowance_at (with_events empty events) x)

-- the request that opens an end was not sent
abbrev pub UnaskedByBook : Type 0
UnaskedByBook =
    (events : List Event) → Fresh empty events → (d : List ℕ) → requester (with_events empty events) (Some d) ≡ None → IsUnasked events d

-- an end still has a partner with the pair
abbrev pub HeldByBook : Type 0
HeldByBook =
    (events : List Event) → Fresh empty events → (node : ℕ) (pair : Pair) (m q : MadeNote)
    → let b : Book = with_events empty events in
    Contains b.made m → Contains b.made q → any_ends m.told ≡ false → is_lost (lost_in [] events) m.who ≡ false → m.who.node ≢ node
    → partner b m.who ≡ Some q.who → q.who.node ≡ node → q.pair ≡ pair → StillHolds events node pair m.who
