-- What a station does with a frame by the path that it travels, and the path of an answer.
-- (AX.25 2.2, section 3.12.)
use Rattle.std.specs.Prelude.{ℕ, ◌+◌, ◌*◌, Bool, true, false, List, [], ◌∷◌, map, reverse, bit_or, slice_index, slice_set, if◌then◌else◌}
use Rattle.std.specs.List.{prefix_len}
use Rattle.ax_address.specs.declared.address.Address.{Address}
use Rattle.ax_address.specs.Callsign.{Callsign, same_call}
use Rattle.digi_path.specs.declared.digi_step.DigiStep.{DigiStep}
use Rattle.digi_path.specs.declared.digi_step.DigiStep.TheVariants as digi

-- what a station does: it takes the frame in, sends it on with a path, leaves it to another repeater, or only hears it
pub data Action : Type 0 where
  For_me : Action
  Repeat : List Address → Action
  Not_yet : Action
  Heard : Action

-- an answer of the code as such an action
abbrev pub action_of : DigiStep → Action
action_of digi.ForMe = For_me
action_of (digi.Repeat path) = Repeat path.items
action_of digi.NotYet = Not_yet
action_of digi.Heard = Heard

-- the H bit of the repeater is set
abbrev pub has_repeated : Address → Bool
has_repeated repeater = repeater.bit7

-- the repeater's address once it has repeated the frame
abbrev pub repeated : Address → Address
repeated repeater = record repeater { bit7 = true }

-- the repeater's address where it has not repeated the frame yet
abbrev pub unrepeated : Address → Address
unrepeated repeater = record repeater { bit7 = false }

-- what is done with a frame whose first repeater has repeated it: with that one in front
abbrev pub behind : Address → Action → Action
behind repeater For_me = For_me
behind repeater (Repeat path) = Repeat (repeater ∷ path)
behind repeater Not_yet = Not_yet
behind repeater Heard = Heard

-- what the station `own` does with a frame to `dest`, repeater by repeater (section 3.12.4)
abbrev pub action : List Address → Callsign → Callsign → Action
action [] dest own = if same_call dest own then For_me else Heard
action (repeater ∷ path) dest own =
    if has_repeated repeater
    then behind repeater (action path dest own)
    else (if same_call repeater.call own then Repeat (repeated repeater ∷ path) else Not_yet)

-- The octet of an address in which its H bit stands, by the repeater's number from 0: behind the two end addresses, of seven
-- octets each, the last one of its own (section 3.12).
abbrev pub h_octet : ℕ → ℕ
h_octet nth = 14 + 7 * nth + 6

-- the same octets, with the H bit set of the first repeater that hasn't repeated the frame
abbrev pub repeated_octets : List Address → List ℕ → List ℕ
repeated_octets path octets =
    let at = h_octet (prefix_len has_repeated path) in
    slice_set octets at (bit_or (slice_index octets at) 0x80)

-- the path of an answer: the repeaters in reverse order, none of which has repeated it yet
abbrev pub way_back : List Address → List Address
way_back path = reverse (map unrepeated path)
