-- What is kept of a user of a station, and of what he is connected with. Own profile.
use Rattle.std.specs.Prelude.{ℕ, List, [], ◌∷◌, ◌++◌, ◌+◌, drop, length, Option, Some, None, Bool, true, false, not, ◌&&◌, ◌||◌, is_some, slice_get}
use Rattle.std.specs.Option.{option_map}
use Rattle.std.specs.Borrow.{Bor}
use Rattle.ax_address.specs.Callsign.{Callsign}
use Rattle.station_sessions.specs.Places.{is_same}
use Rattle.station_sessions.specs.declared.far.Far.{Far}
use Rattle.station_sessions.specs.declared.far.Stage.{Stage}
use Rattle.station_sessions.specs.declared.far.Stage.TheVariants.{AtPrompt, Trying, With}
use Rattle.station_sessions.specs.declared.place.Place.{Place}
use Rattle.station_sessions.specs.declared.presence.Presence.{Presence}
use Rattle.station_sessions.specs.declared.presence.Presence.TheVariants.{Here, Leaving, LetGo, Gone}

pub record Session : Type 0 where
  pub user : Callsign
  pub member : ℕ  -- at whose prompt he is
  pub partner : Option Callsign  -- from where he comes, over a circuit
  pub place : Place
  pub unsent : List ℕ  -- what is left of the text that he was given last
  pub presence : Presence
  pub stage : Stage
  pub replies : List (List ℕ)  -- what he is told of what has happened
  pub typed : List (List ℕ)  -- what was typed at his console and wasn't taken
  pub rest : List ℕ  -- what is left of the text that was taken from him last
  pub since : ℕ  -- when something came from him last, or he came back to the prompt

abbrev pub new_session : Callsign → ℕ → Option Callsign → Place → ℕ → Session
new_session user member partner place now = record {
  user = user;
  member = member;
  partner = partner;
  place = place;
  unsent = [];
  presence = Here;
  stage = AtPrompt;
  replies = [];
  typed = [];
  rest = [];
  since = now;
}

-- Looks.

abbrev pub has_some : {A : Type 0} → List A → Bool
has_some [] = false
has_some (a ∷ more) = true

abbrev pub first : {A : Type 0} → List A → Option A
first [] = None
first (a ∷ more) = Some a

abbrev pub far_of : Stage → Option Far
far_of AtPrompt = None
far_of (Trying far) = Some far
far_of (With far) = Some far

abbrev pub lent_far : Option (Bor Far) → Option Far
lent_far far = option_map (λ f. f.now) far

-- how many octets these texts have
abbrev pub typed_size : List (List ℕ) → ℕ
typed_size [] = 0
typed_size (text ∷ texts) = length text + typed_size texts

abbrev pub is_gone : Presence → Bool
is_gone Here = false
is_gone Leaving = false
is_gone LetGo = false
is_gone Gone = true

-- a text of his waits that wasn't taken: one that was typed, or one that came over his circuit or link
abbrev pub has_next_text : Session → Bool → Bool
has_next_text s came = has_some s.typed || (not (is_gone s.presence) && came)

-- nothing is said to him any more
abbrev pub is_deaf : Presence → Bool → Bool
is_deaf Here ended = ended
is_deaf Leaving ended = ended
is_deaf LetGo ended = true
is_deaf Gone ended = true

abbrev pub is_shown : Presence → Bool → Bool
is_shown Here ended = not ended
is_shown Leaving ended = false
is_shown LetGo ended = false
is_shown Gone ended = false

-- he is there, and his side hasn't ended
abbrev pub is_at : Place → Session → Bool
is_at place s = not (is_gone s.presence) && is_same s.place place

abbrev pub is_far_at : Place → Stage → Bool
is_far_at place AtPrompt = false
is_far_at place (Trying far) = is_same far.place place
is_far_at place (With far) = is_same far.place place

abbrev pub is_over : Session → Bool
is_over s = is_gone s.presence && (not (is_some (far_of s.stage)) && (not (has_some s.replies) && (not (has_some s.typed) && not (has_some s.rest))))

-- Changes.

abbrev pub begin : List ℕ → ℕ → Session → Session
begin text now s = record s { rest = text; since = now }

abbrev pub cut : ℕ → Session → Session
cut size s = record s { rest = drop size s.rest }

abbrev pub drop_rest : Session → Session
drop_rest s = record s { rest = [] }

abbrev pub tell : List ℕ → Session → Session
tell reply s = record s { replies = s.replies ++ reply ∷ [] }

abbrev pub drop_reply : Session → Session
drop_reply s = record s { replies = drop 1 s.replies }

abbrev pub type_text : List ℕ → Session → Session
type_text text s = record s { typed = s.typed ++ text ∷ [] }

abbrev pub drop_typed : Session → Session
drop_typed s = record s { typed = drop 1 s.typed }

abbrev pub forget_typed : Session → Session
forget_typed s = record s { rest = []; typed = [] }

abbrev pub wait_with : List ℕ → Session → Session
wait_with text s = record s { unsent = text }

abbrev pub went : ℕ → Session → Session
went count s = record s { unsent = drop count s.unsent }

abbrev pub with_stage : Stage → Session → Session
with_stage stage s = record s { stage = stage }

abbrev pub come_back : ℕ → Session → Session
come_back now s = record s { stage = AtPrompt; since = now }

-- where his side has ended nothing waits for room there
abbrev pub unsent_by : Presence → List ℕ → List ℕ
unsent_by Here unsent = unsent
unsent_by Leaving unsent = unsent
unsent_by LetGo unsent = unsent
unsent_by Gone unsent = []

abbrev pub with_presence : Presence → Session → Session
with_presence presence s = record s { presence = presence; unsent = unsent_by presence s.unsent }
