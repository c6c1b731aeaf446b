-- What a session of a station does next, by what it sees of its sides. Own profile.
use Rattle.std.specs.Prelude.{Bool, true, false, not, ◌&&◌, ◌||◌, Option, Some, None, if◌then◌else◌}
use Rattle.station_sessions.specs.declared.far.Far.{Far}
use Rattle.station_sessions.specs.declared.far.Stage.{Stage}
use Rattle.station_sessions.specs.declared.far.Stage.TheVariants.{AtPrompt, Trying, With}
use Rattle.station_sessions.specs.declared.presence.Presence.{Presence}
use Rattle.station_sessions.specs.declared.presence.Presence.TheVariants.{Here, Leaving, LetGo, Gone}
use Rattle.station_sessions.specs.declared.sight.Sight.{Sight}
use Rattle.station_sessions.specs.declared.thing.Thing.{Thing}
use Rattle.station_sessions.specs.declared.thing.Thing.TheVariants.{GoOn, GoOnFar, GiveReply, LetGo as Let_go, GiveText, DropText, DoLine, PassOn, Stop, CloseFar}
use Rattle.station_sessions.specs.Sessions.{Session, far_of, has_next_text, has_some, is_deaf, is_shown}

abbrev pub given_where : Bool → Option Thing → Option Thing
given_where can thing = if can then thing else None

-- the first thing, if there is one, else the other
abbrev pub or_else : Option Thing → Option Thing → Option Thing
or_else None other = other
or_else (Some thing) other = Some thing

-- What it sees.

-- his side has room, and nothing waits for it
abbrev pub can_give : Session → Sight → Bool
can_give s sight = not (has_some s.unsent) && sight.user_room

-- a text of his waits
abbrev pub has_text : Session → Sight → Bool
has_text s sight = has_some s.rest || has_next_text s sight.user_text

-- a text of the far side waits, where that stands
abbrev pub far_has_text : Stage → Sight → Bool
far_has_text AtPrompt sight = false
far_has_text (Trying far) sight = false
far_has_text (With far) sight = sight.far_text

abbrev pub goes_on : Option Far → Sight → Bool
goes_on None sight = false
goes_on (Some far) sight = has_some far.unsent && sight.far_goes_on

-- pieces that waited for the far side have room
abbrev pub far_goes_on : Stage → Sight → Bool
far_goes_on stage sight = goes_on (far_of stage) sight

-- What it does with the user's texts.

-- at the prompt a line is done, where there is room for the reply; who is told nothing more has his texts let fall
abbrev pub next_at_prompt : Session → Sight → Option Thing
next_at_prompt s sight =
    if not (has_text s sight) then None
    else (if not (is_shown s.presence sight.user_ended) then Some DropText else given_where (can_give s sight) (Some DoLine))

-- while something is tried, all lines wait but one that ends the try
abbrev pub next_of_try : Session → Sight → Option Thing
next_of_try s sight =
    given_where (has_some s.rest && (sight.stops && (is_deaf s.presence sight.user_ended || can_give s sight))) (Some Stop)

-- to a far side that stands and has room a text goes whole
abbrev pub next_with : Session → Far → Sight → Option Thing
next_with s far sight =
    given_where ((not far.closed && (not (has_some far.unsent) && sight.far_room)) && has_text s sight) (Some PassOn)

abbrev pub next_at_stage : Stage → Session → Sight → Option Thing
next_at_stage AtPrompt s sight = next_at_prompt s sight
next_at_stage (Trying far) s sight = next_of_try s sight
next_at_stage (With far) s sight = next_with s far sight

abbrev pub next_of_texts : Session → Sight → Option Thing
next_of_texts s sight = next_at_stage s.stage s sight

-- What it gives to the user.

-- a reply; or he was told the last, and is let go; or a text of the far side
abbrev pub given_by : Presence → Session → Sight → Option Thing
given_by Leaving s sight = given_where (not (has_some s.unsent)) (Some Let_go)
given_by Here s sight = given_where (far_has_text s.stage sight && can_give s sight) (Some GiveText)
given_by LetGo s sight = given_where (far_has_text s.stage sight && can_give s sight) (Some GiveText)
given_by Gone s sight = given_where (far_has_text s.stage sight && can_give s sight) (Some GiveText)

abbrev pub next_for_user : Session → Sight → Option Thing
next_for_user s sight =
    if has_some s.replies then given_where (can_give s sight) (Some GiveReply) else given_by s.presence s sight

-- Where his side has ended.

-- the far side is closed, once, where nothing of his waits
abbrev pub closes : Option Far → Session → Sight → Option Thing
closes None s sight = None
closes (Some far) s sight =
    given_where (not far.closed && (not (has_some far.unsent) && not (has_text s sight))) (Some CloseFar)

abbrev pub next_at_end : Session → Sight → Option Thing
next_at_end s sight = closes (far_of s.stage) s sight

-- what is for him is let fall
abbrev pub next_without_user : Session → Sight → Option Thing
next_without_user s sight =
    if far_goes_on s.stage sight then Some GoOnFar
    else (if has_some s.replies then Some GiveReply
    else (if far_has_text s.stage sight then Some GiveText else or_else (next_of_texts s sight) (next_at_end s sight)))

-- What it does next: pieces that waited come first.
abbrev pub next_thing : Session → Sight → Option Thing
next_thing s sight =
    if is_deaf s.presence sight.user_ended then next_without_user s sight
    else (if has_some s.unsent && sight.user_goes_on then Some GoOn
    else (if far_goes_on s.stage sight then Some GoOnFar else or_else (next_for_user s sight) (next_of_texts s sight)))
