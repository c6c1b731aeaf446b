-- Who is heard in a frame, and to whom it is on its way, by its addresses (AX.25 2.2, section 3.12). Who is called heard
-- is this project's profile.
use Rattle.std.specs.Prelude.{ℕ, List, [], ◌∷◌, reverse, Option, Some, None, Result, Ok, Err, Bool, true, false, not, is_none, unwrap_or}
use Rattle.std.specs.List.{find}
use Rattle.std.specs.Option.{option_map}
use Rattle.ax_address.specs.declared.address.Address.{Address}
use Rattle.ax_address.specs.Callsign.{Callsign}
use Rattle.ax_frame.specs.declared.head.Head.{Head}
use Rattle.ax_frame.specs.declared.frame.FrameRefusal.{FrameRefusal}
use Rattle.ax_frame.specs.Frames.{read_head_at}
use Rattle.ax_frame.specs.FrameText.{is_command}
use Rattle.digi_path.specs.Paths.{has_repeated}
use Rattle.station_ports.specs.declared.heading.Heading.{Heading}

-- the last repeater that has repeated the frame
abbrev pub last_repeated : List Address → Option Callsign
last_repeated path = option_map (λ r. r.call) (find has_repeated (reverse path))

-- the first repeater that has not repeated it yet
abbrev pub next_repeater : List Address → Option Callsign
next_repeater path = option_map (λ r. r.call) (find (λ r. not (has_repeated r)) path)

abbrev pub is_direct : List Address → Bool
is_direct [] = true
is_direct (_ ∷ _) = false

-- what addresses say that have so many octets
abbrev pub heading : Head → ℕ → Heading
heading h end = record {
  source = h.source.call;
  dest = h.dest.call;
  hop = unwrap_or (last_repeated h.path.items) h.source.call;
  towards = unwrap_or (next_repeater h.path.items) h.dest.call;
  has_come = is_none (next_repeater h.path.items);
  is_direct = is_direct h.path.items;
  is_command = is_command h;
  end = end;
}

abbrev pub heading_of : Result (Head × ℕ) FrameRefusal → Option Heading
heading_of (Ok read) = Some (heading read.0 read.1)
heading_of (Err why) = None

-- what the addresses of a frame say, where they can be read
abbrev pub heading_at : List ℕ → Option Heading
heading_at octets = heading_of (read_head_at octets)
