-- What giving and taking come to, of all states. Own profile.
use Rattle.std.specs.Prelude.{ℕ, zero, suc, ◌≡◌, ◌≤◌, ◌<◌, ◌⊎◌, Bool, true, false, length, slice_get, take, List, [], ◌∷◌, ◌++◌, Option, Some, None, Result, Ok, Err, if◌then◌else◌}
use Rattle.std.specs.List.{AllByRecursion}
use Rattle.ax_address.specs.Callsign.{Callsign}
use Rattle.circuit_l4.specs.State.{inbox}
use Rattle.circuit_l4.specs.declared.refusal.WriteRefusal.TheVariants as writing
use Rattle.circuit_table.specs.Sets.{Holder}
use Rattle.link_table.specs.Texts as texts
use Rattle.node_core.specs.Acts.{SendText, UserAct, Write}
use Rattle.node_core.specs.Bridged.{Acts}
use Rattle.node_core.specs.declared.acts.ActDone.{ActDone}
use Rattle.node_core.specs.declared.acts.ActDone.TheVariants.{Done}
use Rattle.node_core.specs.declared.acts.ActRefusal.{ActRefusal}
use Rattle.node_core.specs.declared.acts.ActRefusal.TheVariants as refusal
use Rattle.node_model.specs.Links.{payloads}
use Rattle.node_model.specs.States.{NodeState}
use Rattle.node_model.specs.Users.{end_at}
use Rattle.radio_base.specs.declared.moment.Moment.{Moment}
use Rattle.station_members.specs.States.{Given, Own, act_answer}
use Rattle.station_places.specs.Giving.{Sent, give, given, has_taken, octets_of, paclen, send, send_pieces}
use Rattle.station_places.specs.Looks.{has_room, has_text, link_room}
use Rattle.station_places.specs.Sides.{SidesState, act, node_at}
use Rattle.station_places.specs.Taking.{drop_texts, take_from, taken}
use Rattle.station_sessions.specs.declared.place.Place.{Place}
use Rattle.station_sessions.specs.declared.place.Place.TheVariants.{End, Link, Console}

-- a node that serves no user itself: so are those of all members
pub record IsHost (n : NodeState) : Type 0 where
  pub hosts : n.station.settings.hosts ≡ true
  pub prompt : n.station.settings.prompt ≡ false
  pub nobody : n.station.sessions ≡ []

-- ---- giving

-- what the members' nodes were given is that, and then this act at one of them
abbrev pub IsGiven : Moment → ℕ → UserAct → SidesState → SidesState → Type 0
IsGiven now member a old new = new.members.given ≡ old.members.given ++ record { to = member; from = Own; input = Acts now.0 a } ∷ []

-- a message is written, unless the end is being closed or its fragments have come to the end of their numbers
abbrev pub IsWritten : Result ActDone ActRefusal → Type 0
IsWritten answer = (answer ≡ Ok Done) ⊎ ((answer ≡ Err (refusal.Write writing.Closing)) ⊎ (answer ≡ Err (refusal.Write writing.Exhausted)))

-- an end that has room is given one message, which is the text, and no more; and that is written
pub record EndIsGiven (member id : ℕ) (text : List ℕ) (now : Moment) (s : SidesState) : Type 0 where
  pub one : IsGiven now member (Write id text) s (give (End member id) text now s)
  pub all : given (End member id) text now s ≡ length text
  pub written : (n : NodeState) → node_at member s ≡ Some n → IsHost n → 1 ≤ length text → length text ≤ 8192
      → IsWritten (act_answer now member (Write id text) s.members)

abbrev pub EndsAreGiven : Type 0
EndsAreGiven =
    (member id : ℕ) (text : List ℕ) (now : Moment) (s : SidesState) → has_room (End member id) s ≡ true → EndIsGiven member id text now s

abbrev pub joined : List (List ℕ) → List ℕ
joined [] = []
joined (piece ∷ more) = piece ++ joined more

-- these pieces are sent, one after another
abbrev pub sent_all : Moment → ℕ → Callsign → List (List ℕ) → SidesState → SidesState
sent_all now member peer [] s = s
sent_all now member peer (piece ∷ more) s = sent_all now member peer more (send now member peer piece s)

-- and the link takes each
abbrev pub AreTaken : Moment → ℕ → Callsign → List (List ℕ) → SidesState → Type 0
AreTaken now member peer [] s = Unit {0}
AreTaken now member peer (piece ∷ more) s =
    (has_taken now member peer piece s ≡ true) × AreTaken now member peer more (send now member peer piece s)

-- so many octets at most, and at least one
abbrev pub IsPiece : ℕ → List ℕ → Type 0
IsPiece size piece = (1 ≤ length piece) × (length piece ≤ size)

-- the sides are those after the pieces that were taken; or one more was refused
abbrev pub EndsWith : Moment → ℕ → Callsign → Sent → SidesState → Type 0
EndsWith now member peer sent s =
    (sent.after ≡ sent_all now member peer sent.pieces s)
    ⊎ ((piece : List ℕ)
    × ((has_taken now member peer piece (sent_all now member peer sent.pieces s) ≡ false)
    × (sent.after ≡ send now member peer piece (sent_all now member peer sent.pieces s))))

-- over a link go pieces of at most so many octets as a member's pieces have, which put together are the beginning of the text of which it
-- is told that it has gone, in order; and no other text
pub record LinkIsGiven (member : ℕ) (peer : Callsign) (text : List ℕ) (now : Moment) (s : SidesState) : Type 0 where
  pub pieces : List (List ℕ)
  pub octets : joined pieces ≡ take (given (Link member peer) text now s) text
  pub each : AllByRecursion (IsPiece (paclen member s)) pieces
  pub taken : AreTaken now member peer pieces s
  pub after : EndsWith now member peer (record { pieces = pieces; after = give (Link member peer) text now s }) s

abbrev pub LinksAreGiven : Type 0
LinksAreGiven = (member : ℕ) (peer : Callsign) (text : List ℕ) (now : Moment) (s : SidesState) → LinkIsGiven member peer text now s

-- a piece of 1 to 256 octets is refused by no link that has room, at a node that serves no user itself
abbrev pub PiecesAreTaken : Type 0
PiecesAreTaken =
    (member : ℕ) (peer : Callsign) (piece : List ℕ) (now : Moment) (s : SidesState) (n : NodeState) → node_at member s ≡ Some n → IsHost n
    → IsPiece 256 piece → 0 < link_room member peer s → has_taken now member peer piece s ≡ true

-- ---- taking

abbrev pub first_of : Option Holder → Option (List ℕ)
first_of None = None
first_of (Some h) = if h.gone then None else slice_get (inbox h.end.receiving) 0

-- the text that waits there first: at an end a message that came, at a link the text that its payloads make
abbrev pub first_text : Place → NodeState → Option (List ℕ)
first_text (End member id) n = first_of (end_at id n.station)
first_text (Link member peer) n = texts.text_with peer n.station.links
first_text (Console console) n = None

-- the node of the member at a place, if the member has one there: what consoles have is no member's
abbrev pub node_of : Place → SidesState → Option NodeState
node_of (End member id) s = node_at member s
node_of (Link member peer) s = node_at member s
node_of (Console console) s = None

-- it is that which is taken
abbrev pub TakesFirst : Type 0
TakesFirst =
    (place : Place) (now : Moment) (s : SidesState) (n : NodeState) → node_of place s ≡ Some n → IsHost n → taken place now s ≡ first_text place n

-- nothing is taken where none is seen to wait
abbrev pub TakesWhatWaits : Type 0
TakesWhatWaits = (place : Place) (now : Moment) (s : SidesState) → has_text place s ≡ false → taken place now s ≡ None

-- texts are taken so many times
abbrev pub takes : ℕ → Place → Moment → SidesState → SidesState
takes zero place now s = s
takes (suc more) place now s = takes more place now (take_from place now s)

-- texts were taken until nothing was left to take
abbrev pub IsEmptied : Place → Moment → SidesState → SidesState → Type 0
IsEmptied place now old new =
    (count : ℕ) × ((taken place now (takes count place now old) ≡ None) × (new ≡ take_from place now (takes count place now old)))

-- so it is with the texts of a link that are dropped, where fewer than 65,536 payloads came over the node's links and weren't taken: a node
-- has at most 64 links, each with at most 64 in its inbox and fewer than 128 that came early
abbrev pub LinksAreEmptied : Type 0
LinksAreEmptied =
    (member : ℕ) (peer : Callsign) (now : Moment) (s : SidesState) (n : NodeState) → node_at member s ≡ Some n → IsHost n
    → payloads n.station.links < 65536 → IsEmptied (Link member peer) now s (drop_texts (Link member peer) now s)
