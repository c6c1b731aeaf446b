-- A station that lives on the reads of a stream. Own profile.
use Rattle.std.specs.Prelude.{ℕ, zero, suc, ◌+◌, ◌-◌, ◌^◌, ◌==◌, min, nat_le, Bool, false, length, take, drop, List, [], ◌∷◌, ◌++◌, Option, Some, None, if◌then◌else◌}
use Rattle.std.specs.List.{flat_map}
use Rattle.std.specs.Prelude.{map}
use Rattle.std.specs.Result.{result_ok}
use Rattle.ax_address.specs.Callsign as calls
use Rattle.ax_address.specs.Callsign.{Callsign}
use Rattle.kiss_framing.specs.Stream.{Frame, Item, Too_long, framed}
use Rattle.node_core.specs.Inputs.{new_items}
use Rattle.radio_base.specs.declared.moment.Moment.{Moment}
use Rattle.station.specs.Fetching.{all_outs, without_entries, without_outs}
use Rattle.station.specs.States as stations
use Rattle.station.specs.States.{StationState}
use Rattle.station.specs.declared.station_out.StationOut.{StationOut}
use Rattle.station.specs.declared.station_out.StationOut.TheVariants as out
use Rattle.station_entries.specs.Lines.{entry_line, status_line}
use Rattle.station_places.specs.declared.console_outs.ConsoleOut.{ConsoleOut}
use Rattle.station_places.specs.declared.console_outs.ConsoleOut.TheVariants as console
use Rattle.station_prompt.specs.Commands.{capital}
use Rattle.station_script.specs.Saying as saying
use Rattle.station_script.specs.Saying.{Said, said_by}

pub record Live : Type 0 where
  pub stream : List ℕ  -- all bytes that were read
  pub station : StationState
  pub every : ℕ  -- milliseconds between two lines of its status; 0 for none
  pub next_status : Option ℕ  -- when the next one is due; none before the first read

abbrev pub new_live : StationState → ℕ → Live
new_live s every = record { stream = []; station = s; every = every; next_status = None }

abbrev pub at_station : (StationState → StationState) → Live → Live
at_station step l = record l { station = step l.station }

-- ---- what a read brings

-- a call in letters of either case, where the word spells one
abbrev pub call_of : List ℕ → Option Callsign
call_of word = result_ok (calls.call_at (map capital word))

abbrev pub open_if : Option Callsign → ℕ → Moment → StationState → StationState
open_if None console now s = s
open_if (Some call) console now s = stations.open_console console call now s

abbrev pub take_said : Moment → Said → StationState → StationState
take_said now (saying.Open console word) s = open_if (call_of word) console now s
take_said now (saying.Text console text) s = stations.type_text console text now s
take_said now (saying.Close console) s = stations.hang_up console now s
take_said now saying.Stop s = stations.stop now s

abbrev pub take_said_if : Moment → Option Said → StationState → StationState
take_said_if now None s = s
take_said_if now (Some said) s = take_said now said s

-- port 15 carries consoles
abbrev pub take_data : Moment → ℕ → List ℕ → StationState → StationState
take_data now port payload s = if port == 15 then take_said_if now (said_by payload) s else stations.hear port payload now s

-- command 0 is data
abbrev pub take_item : Moment → Item → StationState → StationState
take_item now (Frame port command payload) s = if command == 0 then take_data now port payload s else s
take_item now Too_long s = s

abbrev pub after_items : Moment → List Item → StationState → StationState
after_items now [] s = s
after_items now (item ∷ items) s = after_items now items (take_item now item s)

-- the items that its bytes give behind the stream
abbrev pub with_items : List ℕ → Moment → Live → Live
with_items bytes now l =
    record l { stream = l.stream ++ bytes; station = after_items now (new_items l.stream bytes) l.station }

-- and then a tick
unfoldable pub ticked : List ℕ → Moment → Live → Live
ticked bytes now l = at_station (stations.tick now) (with_items bytes now l)

-- ---- what is sent

-- Octets as KISS bytes: data on a port, where there is such a port; what takes more than 2,050 bytes is no frame.
abbrev pub kiss_of : ℕ → List ℕ → List ℕ
kiss_of port octets =
    if nat_le port 15 then (if nat_le (length (framed port 0 octets)) 2050 then framed port 0 octets else []) else []

abbrev pub piece_text : ℕ → List ℕ → List ℕ
piece_text at piece = kiss_of 15 (at ∷ 84 ∷ piece)

-- a text in pieces of at most 1,000 bytes, so many at most
abbrev pub pieces_text : ℕ → ℕ → List ℕ → List ℕ
pieces_text zero at text = []
pieces_text (suc left) at [] = []
pieces_text (suc left) at (b ∷ bs) = piece_text at (take 1000 (b ∷ bs)) ++ pieces_text left at (drop 1000 (b ∷ bs))

-- all of them: there are no more than bytes
abbrev pub told_frames : ℕ → List ℕ → List ℕ
told_frames at text = pieces_text (length text) at text

abbrev pub console_text : ConsoleOut → List ℕ
console_text (console.Text at text) = told_frames at text
console_text (console.Closed at) = kiss_of 15 (at ∷ 67 ∷ [])

abbrev pub out_text : StationOut → List ℕ
out_text (out.Frame frame) = kiss_of frame.port frame.octets
out_text (out.Console told) = console_text told

abbrev pub outs_text : StationState → List ℕ
outs_text s = flat_map out_text (all_outs s)

-- ---- what is told

abbrev pub entries_text : Moment → StationState → List ℕ
entries_text now s = flat_map (entry_line now.0) s.entries

abbrev pub is_due : Option ℕ → Moment → Bool
is_due None now = false
is_due (Some due) now = nat_le due now.0

-- the status is told the first time so long after the first read
abbrev pub status_at : Moment → Live → List ℕ
status_at now l =
    if l.every == 0 then [] else (if is_due l.next_status now then status_line now.0 (length l.station.users.sessions) else [])

abbrev pub later : ℕ → Moment → Option ℕ
later every now = Some (min (now.0 + every) (2 ^ 64 - 1))

abbrev pub next_by : Option ℕ → ℕ → Moment → Option ℕ
next_by None every now = later every now
next_by (Some due) every now = if nat_le due now.0 then later every now else Some due

abbrev pub with_status : Moment → Live → Live
with_status now l = record l { next_status = if l.every == 0 then l.next_status else next_by l.next_status l.every now }

-- ---- a read

abbrev pub all_fetched : StationState → StationState
all_fetched s = without_entries (without_outs s)

-- the station after a read: its items, a tick, and all is fetched
unfoldable pub after_read : List ℕ → Moment → Live → Live
after_read bytes now l = with_status now (at_station all_fetched (ticked bytes now l))

-- the KISS bytes that it sends then
unfoldable pub sent_at : List ℕ → Moment → Live → List ℕ
sent_at bytes now l = outs_text (ticked bytes now l).station

-- and the lines that it tells
unfoldable pub told_at : List ℕ → Moment → Live → List ℕ
told_at bytes now l =
    entries_text now (ticked bytes now l).station ++ status_at now (at_station all_fetched (ticked bytes now l))
