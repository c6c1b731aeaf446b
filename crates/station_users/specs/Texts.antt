-- The texts of a user of a station: what was typed at his console, and what comes over his circuit or link. Own profile.
use Rattle.std.specs.Prelude.{ℕ, Bool, List, Option, Some, None, if◌then◌else◌}
use Rattle.radio_base.specs.declared.moment.Moment.{Moment}
use Rattle.station_places.specs.Taking as taking
use Rattle.text_lines.specs.UserLines.{behind_line, first_line}
use Rattle.station_sessions.specs.Sessions as sessions
use Rattle.station_sessions.specs.Sessions.{Session, first, has_some, is_gone}
use Rattle.station_users.specs.Steps.{At, at_session, at_sides}

-- a text of his begins, where there is one
abbrev pub begin_if : Option (List ℕ) → Moment → At → At
begin_if None now a = a
begin_if (Some text) now a = at_session (sessions.begin text now.0) a

-- the first that came over his circuit or link is taken
unfoldable pub take_text : Moment → At → At
take_text now a = begin_if (taking.taken a.session.place now a.sides) now (at_sides (taking.take_from a.session.place now) a)

abbrev pub begin_next : Option (List ℕ) → Moment → At → At
begin_next None now a = take_text now a
begin_next (Some text) now a = at_session (sessions.begin text now.0) a

-- what was typed comes first
abbrev pub next_text : Moment → At → At
next_text now a = begin_next (first a.session.typed) now (at_session sessions.drop_typed a)

-- there is a text of his, where there is any: what is left of the last one, or else the next
unfoldable pub need_text : Moment → At → At
need_text now a = if has_some a.session.rest then a else next_text now a

-- the first line of what is left of it is done with
abbrev pub cut_line : Session → Session
cut_line x = record x { rest = behind_line x.rest }

-- his next line, which is taken
abbrev pub line_of : At → List ℕ
line_of a = first_line a.session.rest

abbrev pub next_line : Moment → At → List ℕ
next_line now a = line_of (need_text now a)

abbrev pub take_line : Moment → At → At
take_line now a = at_session cut_line (need_text now a)

-- his next text is let fall
abbrev pub drop_text : Moment → At → At
drop_text now a = at_session sessions.drop_rest (need_text now a)

abbrev pub drop_if_there : Bool → Moment → At → At
drop_if_there gone now a = if gone then a else at_sides (taking.drop_texts a.session.place now) a

-- all that came from him and wasn't taken is let fall, and what is left of his last text
unfoldable pub forget_texts : Moment → At → At
forget_texts now a = drop_if_there (is_gone a.session.presence) now (at_session sessions.forget_typed a)
