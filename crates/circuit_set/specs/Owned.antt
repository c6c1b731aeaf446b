-- Whose partner an end is, and whose datagrams it heeds (this project's profile).
use Rattle.std.specs.Prelude.{◌≡◌, ℕ, List, ◌∷◌, ◌++◌, Option, Some, None}
use Rattle.circuit_l4.specs.declared.notice.EndNotice.TheVariants.{Opened}
use Rattle.circuit_table.specs.Events.{Event, Name}
use Rattle.circuit_table.specs.Runs.{AreStarts, AreSteps, Step, end_named, events_of, sets_run}
use Rattle.circuit_table.specs.Sets.{Holder, SetState}
use Rattle.circuit_set.specs.TooLate.{AllowsByWindow, Has, Heeds, IsFresh, IsTimely, Partners, SendsCopy, WasTold}

-- x's partner has sent a copy of this datagram
abbrev pub PartnerSent : List Event → Name → List ℕ → Type 0
PartnerSent before x d = (y : Name) × Partners before x y × Has (λ p e. (number : Option ℕ) × SendsCopy y d number e) before

-- x has a partner, and this end of x sends to that one's pair
abbrev pub NamesPartner : List SetState → List Event → Name → Holder → Type 0
NamesPartner sets events x h = (y : Name) × (k : Holder) × Partners events x y × (end_named sets y ≡ Some k) × (h.end.to ≡ k.end.pair)

-- By these steps, and those that come after them: an end that has a partner keeps it, and gets no other; no two ends have the same
-- partner; each datagram that an end has heeded is a copy of one that its partner had sent; and each requester's end that was told that its
-- circuit is open sends to its partner's pair.
pub record Owned (sets : List SetState) (steps later : List Step) : Type 0 where
  pub stays : (x y : Name) → Partners (events_of sets steps) x y → Partners (events_of sets (steps ++ later)) x y
  pub only : (x y z : Name) → Partners (events_of sets steps) x y → Partners (events_of sets (steps ++ later)) x z → y ≡ z
  pub apart : (x y z : Name) → Partners (events_of sets steps) x z → Partners (events_of sets steps) y z → x ≡ y
  pub heeded : (before after : List Event) (e : Event) (x : Name) (d : List ℕ) → events_of sets steps ≡ before ++ e ∷ after → Heeds x d e → PartnerSent before x d
  pub sends : (x : Name) (h : Holder) → end_named (sets_run sets steps) x ≡ Some h → h.asked ≡ None
      → (window : ℕ) → WasTold (events_of sets steps) x (Opened window) → NamesPartner (sets_run sets steps) (events_of sets steps) x h

-- so it is at each moment of each run that is timely and fresh
abbrev pub EndsAreOwned : Type 0
EndsAreOwned =
    (sets : List SetState) → AreStarts sets → (steps later : List Step) → AreSteps (steps ++ later)
    → IsTimely AllowsByWindow (events_of sets (steps ++ later)) → IsFresh (events_of sets (steps ++ later))
    → Owned sets steps later
