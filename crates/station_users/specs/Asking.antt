-- The lines of a user of a station at the prompt. Own profile.
use Rattle.std.specs.Prelude.{ℕ, Bool, nat_lt, List, [], codes, length, slice_get, Option, Some, None, Result, Ok, Err, if◌then◌else◌}
use Rattle.radio_base.specs.declared.moment.Moment.{Moment}
use Rattle.station_lists.specs.Telling.{about, told_text}
use Rattle.station_lists.specs.declared.told.Told.TheVariants as told
use Rattle.station_looks.specs.Replies as replies
use Rattle.station_looks.specs.Replies.{Seen}
use Rattle.station_prompt.specs.Commands.{Asked, Nothing, Circuit, Link, Known, Heard, Alone, Refused, Unknown_command, Wrong_words, command_of, forms_of, help_text}
use Rattle.station_prompt.specs.declared.verb.Verb.{Verb}
use Rattle.station_prompt.specs.declared.verb.Verb.TheVariants as verb
use Rattle.station_sessions.specs.Sessions.{Session}
use Rattle.station_users.specs.Connecting as circuits
use Rattle.station_users.specs.Linking as links
use Rattle.station_users.specs.Sights.{words}
use Rattle.station_users.specs.States.{UsersState, at_nth}
use Rattle.station_users.specs.Steps.{session_at}
use Rattle.station_users.specs.Telling.{answer, say}
use Rattle.station_users.specs.Texts as texts
use Rattle.station_users.specs.Things.{say_bye}

-- ---- what there is to see

abbrev pub member_by : Option Session → ℕ
member_by None = 0
member_by (Some x) = x.member

abbrev pub seen : UsersState → Seen
seen u = record { members = u.sides.members; about = u.about; sessions = u.sessions; started = u.started }

-- the reply that shows it, at the prompt of the member where the user is
abbrev pub shown : Asked → ℕ → Moment → UsersState → List ℕ
shown asked nth now u = replies.reply asked (member_by (slice_get u.sessions nth)) now.0 (seen u)

unfoldable pub show : Asked → ℕ → Moment → UsersState → UsersState
show asked nth now u = at_nth nth (say (shown asked nth now u) now) u

-- ---- commands

-- the program's name and its version
abbrev pub version : List ℕ
version = codes "Wursthatch 0.1.0"

abbrev pub do_alone : Verb → ℕ → Moment → UsersState → UsersState
do_alone verb.Mail nth now u = at_nth nth (answer (told_text told.NoMail) now) u
do_alone verb.Bye nth now u = at_nth nth (say_bye now) u
do_alone verb.Version nth now u = at_nth nth (answer (about [] version) now) u
do_alone verb.Help nth now u = at_nth nth (answer (about [] help_text) now) u
do_alone one nth now u = show (Alone one) nth now u

abbrev pub connect : List ℕ → ℕ → Moment → UsersState → UsersState
connect to nth now u = at_nth nth (circuits.connect to u.about now) u

abbrev pub connect_by_port : List ℕ → List ℕ → List (List ℕ) → ℕ → Moment → UsersState → UsersState
connect_by_port port to via nth now u = at_nth nth (links.connect_by_port port to via u.about now) u

abbrev pub do_command : Asked → ℕ → Moment → UsersState → UsersState
do_command Nothing nth now u = u
do_command (Circuit to) nth now u = connect to nth now u
do_command (Link port to via) nth now u = connect_by_port port to via nth now u
do_command (Known nodes) nth now u = show (Known nodes) nth now u
do_command (Heard port) nth now u = show (Heard port) nth now u
do_command (Alone one) nth now u = do_alone one nth now u

-- ---- lines

-- what is told of a line that asks for nothing that there is
abbrev pub refused_line : Refused Verb → List ℕ
refused_line (Unknown_command word) = about (codes "Unknown command: ") word
refused_line (Wrong_words one) = about (codes "Wrong words: ") (forms_of one)

abbrev pub do_asked : Result Asked (Refused Verb) → ℕ → Moment → UsersState → UsersState
do_asked (Ok asked) nth now u = do_command asked nth now u
do_asked (Err why) nth now u = at_nth nth (answer (refused_line why) now) u

abbrev pub do_words : List (List ℕ) → ℕ → Moment → UsersState → UsersState
do_words ws nth now u = do_asked (command_of ws) nth now u

-- a line of more than 256 octets asks for nothing
unfoldable pub do_taken : List ℕ → ℕ → Moment → UsersState → UsersState
do_taken line nth now u =
    if nat_lt 256 (length line) then at_nth nth (answer (told_text told.LineTooLong) now) u
    else do_words (words line) nth now u

abbrev pub line_by : Option Session → Moment → UsersState → List ℕ
line_by None now u = []
line_by (Some x) now u = texts.next_line now (session_at u.sides x)

-- the next line of the user of the session in a place is taken, and done
unfoldable pub do_line : ℕ → Moment → UsersState → UsersState
do_line nth now u = do_taken (line_by (slice_get u.sessions nth) now u) nth now (at_nth nth (texts.take_line now) u)
