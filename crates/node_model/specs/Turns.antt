-- A turn that is done again while it did something. Own profile.
use Rattle.std.specs.Prelude.{ℕ, zero, suc, ◌≡◌, Bool, true, false, ◌||◌, if◌then◌else◌}

-- what a turn comes to: whether it did something, and the state then
pub record Turn (S : Type 0) : Type 0 where
  pub did : Bool
  pub after : S

-- nothing is done
abbrev pub idle : {S : Type 0} → S → Turn S
idle s = record { did = false; after = s }

abbrev pub done : {S : Type 0} → S → Turn S
done s = record { did = true; after = s }

-- the first of two that does something
abbrev pub or_else : {S : Type 0} → (S → Turn S) → (S → Turn S) → S → Turn S
or_else first next s = if (first s).did then first s else next (first s).after

-- both, one after the other
abbrev pub and_then : {S : Type 0} → Turn S → (S → Turn S) → Turn S
and_then t next = record { did = t.did || (next t.after).did; after = (next t.after).after }

-- a turn, and so many more at most while they do something
abbrev pub turns : {S : Type 0} → (S → Turn S) → ℕ → S → S
turns turn zero s = (turn s).after
turns turn (suc more) s = if (turn s).did then turns turn more (turn s).after else (turn s).after

-- a turn, and again while it did something, as often as there is something left to do at most
unfoldable pub settle : {S : Type 0} → (S → Turn S) → (S → ℕ) → S → S
settle turn left s = turns turn (left s) s

-- Turns settle from a state to another: a turn that did nothing was the last one, and behind one that did something they go on.
pub data SettlesTo {S : Type 0} (turn : S → Turn S) : S → S → Type 0 where
  Rests : (s : S) → (turn s).did ≡ false → SettlesTo turn s (turn s).after
  Goes_on : (s t : S) → (turn s).did ≡ true → SettlesTo turn (turn s).after t → SettlesTo turn s t

-- a state to which they settle from this one
pub record Settled {S : Type 0} (turn : S → Turn S) (s : S) : Type 0 where
  pub state : S
  pub settles : SettlesTo turn s state
