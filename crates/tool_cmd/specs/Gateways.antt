-- What a forwarder of packets does with the items of a KISS stream, and what is sent. (AX.25 2.2, section 4.3.3.6; own profile.)
use Rattle.std.specs.Prelude.{ℕ, ◌≡◌, ◌++◌, List, [], ◌∷◌, true, false, ◌&&◌, ◌==◌, Option, Some, None, Result, Ok, Err, if◌then◌else◌}
use Rattle.kiss_framing.specs.declared.item.KissItem.{KissItem}
use Rattle.kiss_framing.specs.Stream.{Item, Frame as Piece, Too_long, items, framed}
pub use Rattle.kiss_framing.specs.Feeding.{item_of}
use Rattle.ax_address.specs.Callsign.{Callsign}
use Rattle.ax_address.specs.Octets.{address_of}
use Rattle.ax_frame.specs.declared.control.Control.TheVariants.{Ui}
use Rattle.ax_frame.specs.declared.frame.FrameRefusal.{FrameRefusal}
use Rattle.ax_frame.specs.Frames.{Frame, frame, frame_octets, read_at}
use Rattle.ax_ip.specs.declared.out.IpOut.{IpOut}
use Rattle.ax_ip.specs.Machine.{State, Turn, after, turn}
use Rattle.ax_ip.specs.declared.route.IpRoute.{IpRoute}
use Rattle.ax_ip.specs.Routes.{IsRoute}
use Rattle.cmd_streams.specs.Streams.{Read, bytes_of}

-- a route with these parts was taken in, and stands last
abbrev pub with_route : IpRoute → State → State
with_route route s = record s { routes = s.routes ++ route ∷ [] }

abbrev pub EntersRoute : ℕ → ℕ → ℕ → State → State → Type 0
EntersRoute prefix len hop old new = (r : IpRoute) × IsRoute prefix len hop r × (new ≡ with_route r old)

-- what is sent is a UI command without repeaters
abbrev pub ui_frame : Callsign → Callsign → ℕ → List ℕ → Frame
ui_frame call to pid info =
    frame (record { dest = address_of to true; source = address_of call false; path = record { items = [] } })
    (Ui false) (Some pid) info

abbrev pub ui_octets : Callsign → Callsign → ℕ → List ℕ → List ℕ
ui_octets call to pid info = frame_octets 8 (ui_frame call to pid info)

-- as KISS bytes: data on port 0
abbrev pub sent_frame : Callsign → IpOut → List ℕ
sent_frame call out = framed 0 0 (ui_octets call out.to out.pid out.info.items)

abbrev pub sent : Callsign → Option IpOut → List ℕ
sent call None = []
sent call (Some out) = sent_frame call out

-- the state behind a turn, and what was sent
abbrev pub by_turn : State → Turn → State × List ℕ
by_turn s t = (after s t, sent s.call t.out)

-- octets that are no frame give nothing
abbrev pub by_read : State → Result Frame FrameRefusal → State × List ℕ
by_read s (Err refusal) = (s, [])
by_read s (Ok f) = by_turn s (turn s f)

abbrev pub by_octets : State → List ℕ → State × List ℕ
by_octets s octets = by_read s (read_at 8 octets)

-- frames of data on port 0; other items give nothing
abbrev pub by_item : State → Item → State × List ℕ
by_item s Too_long = (s, [])
by_item s (Piece port command payload) = if (port == 0) && (command == 0) then by_octets s payload else (s, [])

abbrev pub by_kiss_item : State → KissItem → State × List ℕ
by_kiss_item s item = by_item s (item_of item)

-- item by item
abbrev pub by_items : State → List Item → State × List ℕ
by_items s [] = (s, [])
by_items s (item ∷ later) =
    let first = by_item s item in
    let rest = by_items first.0 later in
    (rest.0, first.1 ++ rest.1)

-- what is sent for the frames of a stream, from a state on
abbrev pub sent_for : State → List ℕ → List ℕ
sent_for s stream = (by_items s (items stream)).1

-- the text is what is sent for what these reads brought
abbrev pub ForwardsReads : State → List Read → List ℕ → Type 0
ForwardsReads start reads text = text ≡ sent_for start (bytes_of reads)
