-- The modulus of sequence numbers between two stations, as the last set-up command between them says: SABME for 128, SABM for 8
-- (AX.25 2.2, sections 4.3.3.1 and 4.3.3.2). That no more than 256 pairs of stations are kept in mind is own profile.
use Rattle.std.specs.Prelude.{List, [], ◌∷◌, ◌++◌, length, drop, filter, nat_le, Bool, false, ◌&&◌, ◌||◌, not, if◌then◌else◌}
use Rattle.ax_address.specs.Callsign.{Callsign, same_call}
use Rattle.ax_frame.specs.declared.control.Control.{Control}
use Rattle.ax_frame.specs.declared.control.Control.TheVariants.{Sabm, Sabme}
use Rattle.ax_frame.specs.declared.head.Head.{Head}
use Rattle.radio_base.specs.declared.modulus.LinkModulus.{LinkModulus}
use Rattle.radio_base.specs.Modulus.{extended_if}
use Rattle.frame_lines.specs.declared.stations.Stations.{Stations}

-- these are the two stations, either way round
abbrev pub are_these : Callsign → Callsign → Stations → Bool
are_these a b s = (same_call a s.one && same_call b s.other) || (same_call a s.other && same_call b s.one)

-- where 256 pairs stand the oldest is forgotten
abbrev pub with_room : List Stations → List Stations
with_room pairs = if nat_le 256 (length pairs) then drop 1 pairs else pairs

abbrev pub others : Head → List Stations → List Stations
others h pairs = filter (λ s. not (are_these h.source.call h.dest.call s)) pairs

abbrev pub stations : Head → Stations
stations h = record { one = h.source.call; other = h.dest.call }

-- the pairs of stations whose last set-up command was SABME, the oldest first, once a frame was heard
abbrev pub after_frame : Head → Control → List Stations → List Stations
after_frame h (Sabme pf) pairs = with_room (others h pairs) ++ stations h ∷ []
after_frame h (Sabm pf) pairs = others h pairs
after_frame h _ pairs = pairs

abbrev pub is_extended : Callsign → Callsign → List Stations → Bool
is_extended a b [] = false
is_extended a b (s ∷ later) = are_these a b s || is_extended a b later

-- the modulus by which a frame of this head is read
abbrev pub modulus_of : Head → List Stations → LinkModulus
modulus_of h pairs = extended_if (is_extended h.source.call h.dest.call pairs)
