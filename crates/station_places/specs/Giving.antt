-- What is given to a place: to an end one message, to a console one text, and to a link pieces. Own profile.
use Rattle.std.specs.Prelude.{ℕ, zero, suc, ◌+◌, Bool, is_ok, max, nat_lt, length, take, drop, List, [], ◌∷◌, ◌++◌, Option, Some, None, if◌then◌else◌}
use Rattle.ax_address.specs.Callsign.{Callsign}
use Rattle.node_core.specs.Acts.{SendText, Write}
use Rattle.radio_base.specs.declared.moment.Moment.{Moment}
use Rattle.station_members.specs.declared.config.MemberRules.{MemberRules}
use Rattle.station_members.specs.Looks.{rules_at}
use Rattle.station_members.specs.States.{act_answer}
use Rattle.station_places.specs.declared.console_outs.ConsoleOut.TheVariants.{Text}
use Rattle.station_places.specs.Looks.{link_room}
use Rattle.station_places.specs.Sides.{SidesState, act}
use Rattle.station_sessions.specs.declared.place.Place.{Place}
use Rattle.station_sessions.specs.declared.place.Place.TheVariants.{End, Link, Console}

-- ---- pieces

abbrev pub paclen_by : Option MemberRules → ℕ
paclen_by None = 1
paclen_by (Some rules) = max rules.paclen 1

-- the most octets of a piece at a link of a member
abbrev pub paclen : ℕ → SidesState → ℕ
paclen member s = paclen_by (rules_at member s.members)

-- the first pieces of a text, so many at most: each of so many octets, but for the last, which has those that are left
abbrev pub first_pieces : ℕ → ℕ → List ℕ → List (List ℕ)
first_pieces count size [] = []
first_pieces zero size (octet ∷ octets) = []
first_pieces (suc more) size (octet ∷ octets) = take size (octet ∷ octets) ∷ first_pieces more size (drop size (octet ∷ octets))

-- all of them: there are no more than octets
abbrev pub pieces : ℕ → List ℕ → List (List ℕ)
pieces size text = first_pieces (length text) size text

-- ---- a link

-- what comes of sending: which pieces the link has taken, and the sides then
pub record Sent : Type 0 where
  pub pieces : List (List ℕ)
  pub after : SidesState

abbrev pub has_taken : Moment → ℕ → Callsign → List ℕ → SidesState → Bool
has_taken now member peer piece s = is_ok (act_answer now member (SendText peer piece) s.members)

abbrev pub send : Moment → ℕ → Callsign → List ℕ → SidesState → SidesState
send now member peer piece s = act now member (SendText peer piece) s

-- this piece has gone before the others
abbrev pub behind : List ℕ → Sent → Sent
behind piece sent = record { pieces = piece ∷ sent.pieces; after = sent.after }

abbrev pub none_sent : SidesState → Sent
none_sent s = record { pieces = []; after = s }

-- pieces are sent one after another as long as the link has room, and until one isn't taken
abbrev pub send_each : Moment → ℕ → Callsign → List (List ℕ) → SidesState → Sent
send_each now member peer [] s = none_sent s
send_each now member peer (piece ∷ more) s =
    if nat_lt 0 (link_room member peer s)
    then (if has_taken now member peer piece s
    then behind piece (send_each now member peer more (send now member peer piece s))
    else none_sent (send now member peer piece s))
    else none_sent s

unfoldable pub send_pieces : Moment → ℕ → Callsign → List ℕ → SidesState → Sent
send_pieces now member peer text s = send_each now member peer (pieces (paclen member s) text) s

abbrev pub octets_of : List (List ℕ) → ℕ
octets_of [] = 0
octets_of (piece ∷ more) = length piece + octets_of more

-- ---- every place

abbrev pub give : Place → List ℕ → Moment → SidesState → SidesState
give (End member id) text now s = act now member (Write id text) s
give (Link member peer) text now s = (send_pieces now member peer text s).after
give (Console console) text now s = record s { outs = s.outs ++ Text console text ∷ [] }

-- how many of its octets have gone: at a link others may have to wait
abbrev pub given : Place → List ℕ → Moment → SidesState → ℕ
given (End member id) text now s = length text
given (Link member peer) text now s = octets_of (send_pieces now member peer text s).pieces
given (Console console) text now s = length text
