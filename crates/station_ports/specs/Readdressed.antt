-- Frames that get another destination or source (AX.25 2.2, section 3.12).
use Rattle.std.specs.Prelude.{ℕ, ◌+◌, ◌*◌, ◌/◌, ◌%◌, List, ◌∷◌, ◌++◌, map, take, drop, slice_index}
use Rattle.ax_address.specs.declared.address.Address.{Address}
use Rattle.ax_address.specs.Callsign.{Callsign}
use Rattle.ax_frame.specs.Frames.{Frame}

-- the octet of an address that has its SSID, in bits 4 to 1, with another one: all other bits stay
abbrev pub with_ssid : ℕ → ℕ → ℕ
with_ssid octet ssid = octet / 32 * 32 + 2 * ssid + octet % 2

-- the octets with this call in the address that begins at a place
abbrev pub with_call_at : ℕ → Callsign → List ℕ → List ℕ
with_call_at at c octets =
    take at octets ++ map (λ b. 2 * b) c.letters ++ with_ssid (slice_index octets (at + 6)) c.ssid ∷ drop (at + 7) octets

abbrev pub address_with : Callsign → Address → Address
address_with c a = record a { call = c }

-- the frame to another call
abbrev pub frame_to : Callsign → Frame → Frame
frame_to c f = record f { head = record f.head { dest = address_with c f.head.dest } }

-- the frame from another call
abbrev pub frame_from : Callsign → Frame → Frame
frame_from c f = record f { head = record f.head { source = address_with c f.head.source } }
