-- What is taken from a place, and closing it. Own profile.
use Rattle.std.specs.Prelude.{ℕ, zero, suc, Bool, is_some, List, [], ◌∷◌, ◌++◌, Option, Some, None, Result, Ok, Err, if◌then◌else◌}
use Rattle.node_core.specs.Acts.{Close, CloseLink, Take, TakeText}
use Rattle.node_core.specs.declared.acts.ActDone.{ActDone}
use Rattle.node_core.specs.declared.acts.ActDone.TheVariants.{Done, Made, Took}
use Rattle.node_core.specs.declared.acts.ActRefusal.{ActRefusal}
use Rattle.radio_base.specs.declared.moment.Moment.{Moment}
use Rattle.station_members.specs.States.{act_answer}
use Rattle.station_places.specs.declared.console_outs.ConsoleOut.TheVariants.{Closed}
use Rattle.station_places.specs.Sides.{SidesState, act}
use Rattle.station_sessions.specs.declared.place.Place.{Place}
use Rattle.station_sessions.specs.declared.place.Place.TheVariants.{End, Link, Console}

abbrev pub text_done : ActDone → Option (List ℕ)
text_done Done = None
text_done (Made id) = None
text_done (Took text) = Some text

-- the text that an act has taken
abbrev pub text_in : Result ActDone ActRefusal → Option (List ℕ)
text_in (Ok done) = text_done done
text_in (Err why) = None

-- the text that is taken from a place, where one waits: none of a console, of which what was typed waits with its session
abbrev pub taken : Place → Moment → SidesState → Option (List ℕ)
taken (End member id) now s = text_in (act_answer now member (Take id) s.members)
taken (Link member peer) now s = text_in (act_answer now member (TakeText peer) s.members)
taken (Console console) now s = None

-- it is taken
abbrev pub take_from : Place → Moment → SidesState → SidesState
take_from (End member id) now s = act now member (Take id) s
take_from (Link member peer) now s = act now member (TakeText peer) s
take_from (Console console) now s = s

-- texts are taken until none waits, and so many at most
abbrev pub drop_up_to : ℕ → Place → Moment → SidesState → SidesState
drop_up_to zero place now s = s
drop_up_to (suc more) place now s =
    if is_some (taken place now s) then drop_up_to more place now (take_from place now s) else take_from place now s

-- they are taken, 65,536 at most (that this is all at a link: `LinksAreEmptied`)
unfoldable pub drop_texts : Place → Moment → SidesState → SidesState
drop_texts place now s = drop_up_to 65536 place now s

-- there is any
abbrev pub drops_any : Place → Moment → SidesState → Bool
drops_any place now s = is_some (taken place now s)

-- it is closed, once all that was given to it is acknowledged
abbrev pub close_at : Place → Moment → SidesState → SidesState
close_at (End member id) now s = act now member (Close id) s
close_at (Link member peer) now s = act now member (CloseLink peer) s
close_at (Console console) now s = record s { outs = s.outs ++ Closed console ∷ [] }
