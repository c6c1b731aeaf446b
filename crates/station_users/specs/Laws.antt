-- What passes between a user of a station and what he is connected with, while that stands. Own profile.
use Rattle.std.specs.Prelude.{ℕ, ◌≡◌, Bool, false, List, [], ◌∷◌, ◌++◌, take, slice_get, Option, Some, None, if◌then◌else◌}
use Rattle.radio_base.specs.declared.moment.Moment.{Moment}
use Rattle.station_places.specs.Giving as giving
use Rattle.station_places.specs.Sides.{SidesState}
use Rattle.station_places.specs.Taking as taking
use Rattle.station_sessions.specs.declared.far.Far.{Far}
use Rattle.station_sessions.specs.declared.far.Stage.{Stage}
use Rattle.station_sessions.specs.declared.far.Stage.TheVariants.{With}
use Rattle.station_sessions.specs.declared.place.Place.{Place}
use Rattle.station_sessions.specs.declared.presence.Presence.TheVariants.{Here}
use Rattle.station_sessions.specs.declared.thing.Thing.{Thing}
use Rattle.station_sessions.specs.declared.thing.Thing.TheVariants.{GoOn, GoOnFar, GiveText, PassOn}
use Rattle.station_sessions.specs.Noting as noting
use Rattle.station_sessions.specs.Sessions as sessions
use Rattle.station_sessions.specs.Sessions.{Session, far_of, first, has_some}
use Rattle.station_users.specs.Consoles.{takes, typed}
use Rattle.station_users.specs.Serving.{next_at, serve_nth}
use Rattle.station_users.specs.States.{UsersState, at_nth}
use Rattle.station_users.specs.Steps.{At, at_session, at_sides, far_place, session_at}
use Rattle.station_users.specs.Telling.{is_deaf}
use Rattle.station_users.specs.Texts.{need_text}
use Rattle.station_users.specs.Things.{do_thing}
use Rattle.station_users.specs.Trying.{prepare}

-- ---- what happens meanwhile

-- the session has its turn; the sides become others, as frames come and go and time passes; a text is typed at the user's console; and it
-- is noted whether something waits at the far side, or that this has ended
pub data Move : Type 0 where
  Turns : Moment → Move
  Meanwhile : SidesState → Move
  Types : List ℕ → Move
  Notes : Bool → Move
  Ends : Bool → Move

abbrev pub does : Option Thing → Moment → At → At
does None now a = a
does (Some thing) now a = do_thing thing now a

-- its next thing, if there is one
abbrev pub turned : Moment → At → At
turned now a = does (next_at (prepare now a)) now (prepare now a)

abbrev pub after : Move → At → At
after (Turns now) a = turned now a
after (Meanwhile s) a = record a { sides = s }
after (Types text) a = at_session (typed text) a
after (Notes text) a = at_session (noting.waits text) a
after (Ends failed) a = at_session (noting.ended failed) a

abbrev pub after_all : List Move → At → At
after_all [] a = a
after_all (m ∷ more) a = after_all more (after m a)

-- what a kind of octets comes to in all
abbrev pub in_all : (Move → At → List ℕ) → List Move → At → List ℕ
in_all of [] a = []
in_all of (m ∷ more) a = of m a ++ in_all of more (after m a)

-- ---- octets

-- those of a text that go to a place
abbrev pub that_go : Place → List ℕ → Moment → SidesState → List ℕ
that_go place text now s = take (giving.given place text now s) text

abbrev pub text_or_none : Option (List ℕ) → List ℕ
text_or_none None = []
text_or_none (Some text) = text

abbrev pub all_of : List (List ℕ) → List ℕ
all_of [] = []
all_of (text ∷ texts) = text ++ all_of texts

-- ---- from the user to the far side

-- of a user's next text: what was typed was counted when it was typed
abbrev pub came_next : Option (List ℕ) → Moment → At → List ℕ
came_next None now a = text_or_none (taking.taken a.session.place now a.sides)
came_next (Some text) now a = []

abbrev pub came_needed : Moment → At → List ℕ
came_needed now a = if has_some a.session.rest then [] else came_next (first a.session.typed) now a

abbrev pub came_by : Option Thing → Moment → At → List ℕ
came_by (Some PassOn) now a = came_needed now a
came_by other now a = []

-- what the user's side gives: a text that is taken from his circuit or link, and one that is typed at his console
abbrev pub from_user : Move → At → List ℕ
from_user (Turns now) a = came_by (next_at a) now a
from_user (Types text) a = if takes text a.session then text else []
from_user other a = []

abbrev pub went_to_far : Option Far → Option Thing → Moment → At → List ℕ
went_to_far (Some far) (Some GoOnFar) now a = that_go far.place far.unsent now a.sides
went_to_far (Some far) (Some PassOn) now a = that_go far.place (need_text now a).session.rest now (need_text now a).sides
went_to_far far other now a = []

-- what is written to the far side
abbrev pub to_far : Move → At → List ℕ
to_far (Turns now) a = went_to_far (far_of a.session.stage) (next_at a) now a
to_far other a = []

abbrev pub unsent_of : Option Far → List ℕ
unsent_of None = []
unsent_of (Some far) = far.unsent

-- what waits for the far side: pieces of a text for which there was no room, what is left of the user's text, and what was typed
abbrev pub for_far : Session → List ℕ
for_far x = unsent_of (far_of x.stage) ++ (x.rest ++ all_of x.typed)

-- ---- from the far side to the user

abbrev pub taken_at : Option Place → Moment → At → List ℕ
taken_at None now a = []
taken_at (Some place) now a = text_or_none (taking.taken place now a.sides)

abbrev pub far_came : Option Thing → Moment → At → List ℕ
far_came (Some GiveText) now a = taken_at (far_place a.session) now a
far_came other now a = []

-- what the far side gives: texts that are taken from it
abbrev pub from_far : Move → At → List ℕ
from_far (Turns now) a = far_came (next_at a) now a
from_far other a = []

abbrev pub text_given : Option (List ℕ) → Place → Moment → At → List ℕ
text_given None place now a = []
text_given (Some text) place now a = that_go a.session.place text now (taking.take_from place now a.sides)

abbrev pub given_at : Option Place → Moment → At → List ℕ
given_at None now a = []
given_at (Some place) now a = text_given (taking.taken place now a.sides) place now a

abbrev pub went_to_user : Option Thing → Moment → At → List ℕ
went_to_user (Some GoOn) now a = that_go a.session.place a.session.unsent now a.sides
went_to_user (Some GiveText) now a = given_at (far_place a.session) now a
went_to_user other now a = []

-- what is written to the user's side
abbrev pub to_user : Move → At → List ℕ
to_user (Turns now) a = went_to_user (next_at a) now a
to_user other a = []

-- ---- the law

abbrev pub taken_away : Option Place → Moment → At → At
taken_away None now a = a
taken_away (Some place) now a = at_sides (taking.take_from place now) a

-- the user's side hasn't ended, nor has it once a text was taken from the far side
pub record HearsAt (now : Moment) (a : At) : Type 0 where
  pub before : is_deaf a ≡ false
  pub behind : is_deaf (taken_away (far_place a.session) now a) ≡ false

abbrev pub Hears : Move → At → Type 0
Hears (Turns now) a = HearsAt now a
Hears other a = Unit {0}

-- so it is at each turn
abbrev pub IsHeard : List Move → At → Type 0
IsHeard [] a = Unit {0}
IsHeard (m ∷ more) a = Hears m a × IsHeard more (after m a)

-- a far side stands, and the user was told so: nothing of it waits
pub record IsBridged (a : At) (far : Far) : Type 0 where
  pub stands : a.session.stage ≡ With far
  pub here : a.session.presence ≡ Here
  pub told : a.session.replies ≡ []

-- What was written to the far side, and what waits for it, is what waited and what the user's side gave, in order, each octet once.
abbrev pub ReachesFar : List Move → At → Type 0
ReachesFar moves a = (in_all to_far moves a ++ for_far (after_all moves a).session) ≡ (for_far a.session ++ in_all from_user moves a)

-- What was written to the user, and what waits for him, is what waited and what the far side gave, in order, each octet once.
abbrev pub ReachesUser : List Move → At → Type 0
ReachesUser moves a = (in_all to_user moves a ++ (after_all moves a).session.unsent) ≡ (a.session.unsent ++ in_all from_far moves a)

abbrev pub Bridged : Type 0
Bridged = (a : At) (far : Far) (moves : List Move) → IsBridged a far → ReachesFar moves a × (IsHeard moves a → ReachesUser moves a)

-- ---- the law at a station

-- where a far side stands and the user was told so, the turn of the session in a place is the law's
abbrev pub TurnsAreServed : Type 0
TurnsAreServed =
    (nth : ℕ) (now : Moment) (u : UsersState) (x : Session) (far : Far) → slice_get u.sessions nth ≡ Some x → IsBridged (session_at u.sides x) far
    → serve_nth now nth u ≡ at_nth nth (turned now) u
