-- What lines of a trial do: what is typed, and the directives. Own profile.
use Rattle.std.specs.Prelude.{ℕ, zero, suc, ◌≡◌, ◌-◌, ◌==◌, nat_lt, is_some, drop, length, List, [], ◌∷◌, slice_get, Bool, true, false, Option, Some, None, Result, Ok, Err, map, if◌then◌else◌}
use Rattle.std.specs.Bool.{MatchBool}
use Rattle.std.specs.Result.{result_ok}
use Rattle.std.specs.Option.{option_map}
use Rattle.ax_address.specs.Callsign as calls
use Rattle.ax_address.specs.Callsign.{Callsign}
use Rattle.hex.specs.Hex.{decode_of}
use Rattle.text_lines.specs.Lines.{number_of, words_of}
use Rattle.station.specs.States.{members_of}
use Rattle.station_file.specs.Station.{Station}
use Rattle.station_looks.specs.declared.about.About.{About}
use Rattle.station_members.specs.Looks.{place_of}
use Rattle.station_prompt.specs.Commands.{capital}
use Rattle.station_script.specs.Directives as asks
use Rattle.station_script.specs.Directives.{Asked, directive_of}
use Rattle.station_script.specs.declared.directive_refusal.DirectiveRefusal.{DirectiveRefusal}
use Rattle.station_script.specs.declared.directive_refusal.DirectiveRefusal.TheVariants.{NoDirective, NoStation, NoPort, BadCall, BadHex, MembersCall}
use Rattle.station_start.specs.Starts.{IsAbout}
use Rattle.station_trial.specs.declared.trial.Came.{Came}
use Rattle.station_trial.specs.declared.trial.Came.TheVariants.{Done, Quit, Refused}
use Rattle.station_trial.specs.Gifts.{All, Heard, Open, Round, Stop, port_of_name}
use Rattle.station_trial.specs.Outlets.{OutletState}
use Rattle.station_trial.specs.Starting.{restarted}
use Rattle.station_trial.specs.Stations.{TriedState}
use Rattle.station_trial.specs.Trials.{TrialState, at_outlet, begin_line, clear_air, deal, give, pass, type_line}

-- the station at a place becomes this
abbrev pub change_at : ℕ → (TriedState → TriedState) → List TriedState → List TriedState
change_at at step [] = []
change_at zero step (t ∷ ts) = step t ∷ ts
change_at (suc at) step (t ∷ ts) = t ∷ change_at at step ts

-- ---- directives

-- the place of the station of a number, from 1, where there is one
abbrev pub place_at : ℕ → TrialState → Option ℕ
place_at number s = if nat_lt (number - 1) (length s.tried) then Some (number - 1) else None

-- what came of it, and the state then
abbrev pub Outcome : Type 0
Outcome = Came × TrialState

abbrev pub refuse : DirectiveRefusal → TrialState → Outcome
refuse why s = (Refused why, s)

abbrev pub go_to : Option ℕ → TrialState → Outcome
go_to None s = refuse NoStation s
go_to (Some at) s = (Done, record s { at = at })

abbrev pub with_call : Callsign → TriedState → TriedState
with_call call t = record t { call = Some call }

-- the console at which is typed opens under this call from now on
abbrev pub set_call : Callsign → TrialState → TrialState
set_call call s = record s { tried = change_at s.at (with_call call) s.tried }

-- whether a member of the station has the call
abbrev pub has_member : Callsign → TriedState → Bool
has_member call t = is_some (place_of call (members_of t.station))

-- of the station at whose console is typed, where there is one
abbrev pub is_members : Callsign → TrialState → Option Bool
is_members call s = option_map (has_member call) (slice_get s.tried s.at)

-- the console is opened anew, under a call that no member has
abbrev pub open_as : Callsign → Option Bool → TrialState → Outcome
open_as call None s = refuse NoStation s
open_as call (Some true) s = refuse MembersCall s
open_as call (Some false) s = (Done, give s.at (Open call) (set_call call s))

abbrev pub open_by : Option Callsign → TrialState → Outcome
open_by None s = refuse BadCall s
open_by (Some call) s = open_as call (is_members call s) s

-- a call in letters of either case
abbrev pub call_of : List ℕ → Option Callsign
call_of word = result_ok (calls.call_at (map capital word))

abbrev pub numbered : Option ℕ → Station → List ℕ → Option ℕ
numbered None file word = port_of_name word file
numbered (Some number) file word = if nat_lt (length file.ports) number then port_of_name word file else Some (number - 1)

-- the port, from 0, that a word names: by its number, from 1, or by its name
abbrev pub port_named : List ℕ → Station → Option ℕ
port_named word file = numbered (number_of 1 8 word) file word

abbrev pub port_in : List ℕ → Option TriedState → Option ℕ
port_in word None = None
port_in word (Some t) = port_named word t.file

-- of the station at whose console is typed
abbrev pub port_at : List ℕ → TrialState → Option ℕ
port_at word s = port_in word (slice_get s.tried s.at)

abbrev pub hear_at : ℕ → List ℕ → TrialState → TrialState
hear_at port octets s = give s.at (Heard port octets) s

abbrev pub hear_on : Option ℕ → Option (List ℕ) → TrialState → Outcome
hear_on None octets s = refuse NoPort s
hear_on (Some port) None s = refuse BadHex s
hear_on (Some port) (Some octets) s = (Done, hear_at port octets s)

-- a frame in hexadecimal is heard at a port
abbrev pub heard : List ℕ → List ℕ → TrialState → Outcome
heard port digits s = hear_on (port_at port s) (result_ok (decode_of digits)) s

abbrev pub stop_at : Option ℕ → TrialState → Outcome
stop_at None s = refuse NoStation s
stop_at (Some at) s = (Done, give at Stop s)

abbrev pub with_frames : Bool → OutletState → OutletState
with_frames shows o = record o { shows_frames = shows }

abbrev pub with_lose : ℕ → OutletState → OutletState
with_lose count o = record o { lose = count }

-- a station starts again: what its file says to its users is said with some texts that say it
abbrev pub RestartsAt : Option ℕ → TrialState → Came → TrialState → Type 0
RestartsAt None s came s' = (came ≡ Refused NoStation) × (s' ≡ s)
RestartsAt (Some at) s came s' =
    (who : About) × ((t : TriedState) → slice_get s.tried at ≡ Some t → IsAbout t.file who) × (came ≡ Done)
    × (s' ≡ record s { tried = change_at at (restarted who) s.tried })

abbrev pub Becomes : Outcome → Came → TrialState → Type 0
Becomes outcome came s' = (came ≡ outcome.0) × (s' ≡ outcome.1)

-- a directive is done from that state, so that this came of it, and the state is this then
abbrev pub Directs : Asked → TrialState → Came → TrialState → Type 0
Directs (asks.At number) s = Becomes (go_to (place_at number s) s)
Directs (asks.Open word) s = Becomes (open_by (call_of word) s)
Directs (asks.Tick ms) s = Becomes (Done, pass ms s)
Directs asks.Round s = Becomes (Done, deal (All Round) s)
Directs (asks.Frames shows) s = Becomes (Done, at_outlet (with_frames shows) s)
Directs (asks.Lose count) s = Becomes (Done, at_outlet (with_lose count) s)
Directs (asks.Heard port digits) s = Becomes (heard port digits s)
Directs (asks.Restart number) s = RestartsAt (place_at number s) s
Directs (asks.Stop number) s = Becomes (stop_at (place_at number s) s)
Directs asks.Quit s = Becomes (Quit, s)

abbrev pub DirectsBy : Result Asked DirectiveRefusal → TrialState → Came → TrialState → Type 0
DirectsBy (Ok asked) s = Directs asked s
DirectsBy (Err why) s = Becomes (refuse why s)

abbrev pub begins_with : ℕ → List ℕ → Bool
begins_with mark [] = false
begins_with mark (b ∷ bs) = b == mark

-- what the words behind the mark ask for: the first of them stands right behind it
abbrev pub directive_behind : List ℕ → Result Asked DirectiveRefusal
directive_behind rest = if begins_with 32 rest then Err NoDirective else directive_of (words_of rest)

abbrev pub DirectsLine : List ℕ → TrialState → Came → TrialState → Type 0
DirectsLine rest s = DirectsBy (directive_behind rest) s

-- ---- lines

-- a line is a directive behind `!`, or is typed
abbrev pub DoesLine : List ℕ → TrialState → Came → TrialState → Type 0
DoesLine line s came s' =
    MatchBool (begins_with 33 line) (DirectsLine (drop 1 line) s came s') (Becomes (Done, type_line line s) came s')

-- before a line the stations settle, and a second goes by; then the air is emptied
pub record TakesLine (line : List ℕ) (s : TrialState) (came : Came) (s' : TrialState) : Type 0 where
  pub done : TrialState
  pub does : DoesLine line (begin_line s) came done
  pub cleared : s' ≡ clear_air done
