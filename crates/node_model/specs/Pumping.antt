-- The circuits are pumped until they have nothing to tell and nothing waits at the router. Own profile.
use Rattle.std.specs.Prelude.{ℕ, zero, suc, ◌+◌, nat_lt, if◌then◌else◌, List, [], ◌∷◌, ◌++◌, length, Option, Some, None, is_some}
use Rattle.ax_address.specs.Callsign.{Callsign}
use Rattle.circuit_table.specs.Pumps.{SetTold, Turn, Turned, Says, Offers}
use Rattle.circuit_table.specs.Sets.{CircuitTold}
use Rattle.l3_datagram.specs.Datagrams.{Parcel}
use Rattle.link_table.specs.Calls.{collect, tell_lost}
use Rattle.node_model.specs.Links as circuits
use Rattle.node_model.specs.Links.{offer, offer_answer}
use Rattle.node_model.specs.Sessions.{hear_if}
use Rattle.node_model.specs.States.{Entry, Of_set, State, at_links, next_hop}
use Rattle.node_model.specs.Turns as turns

abbrev pub told_entries : Option SetTold → List Entry
told_entries None = []
told_entries (Some told) = Of_set told ∷ []

-- after a turn of the circuits, with what it told, which the sessions hear
abbrev pub with_turned : Turned → State → State
with_turned t n =
    record n {
      set = t.after;
      log = n.log ++ t.items;
      entries = n.entries ++ told_entries t.told;
      sessions = hear_if n.settings.prompt t.told n.sessions;
    }

-- what they hand down is offered to the links
abbrev pub take_turn : ℕ → Turn → State → State
take_turn now (Says t) n = with_turned t n
take_turn now (Offers to d by) n = with_turned (by (offer_answer to d now n.links)) (at_links (offer to d now) n)

-- the first that is untold is told
abbrev pub tell_one : ℕ → State → State
tell_one now n = take_turn now (circuits.tells (next_hop n) n.set) n

abbrev pub pending : State → ℕ
pending n = circuits.pending n.set

abbrev pub tell_turn : ℕ → State → turns.Turn State
tell_turn now n = record { did = nat_lt 0 (pending n); after = if nat_lt 0 (pending n) then tell_one now n else n }

-- what the last sending came to is told, where it came to nothing
abbrev pub tell_outcome : ℕ → State → State
tell_outcome now n = if is_some n.set.lost then tell_one now n else n

-- each of these is told, and behind it what its sending came to
abbrev pub tell_each : ℕ → List CircuitTold → State → State
tell_each now [] n = n
tell_each now (_ ∷ more) n = tell_each now more (tell_outcome now (tell_one now n))

-- all that is untold is told
unfoldable pub tell_all : ℕ → State → State
tell_all now n = tell_each now n.set.untold (tell_outcome now n)

-- the router is asked once: for the first lost neighbour, or else the first datagram that waits
abbrev pub ask_for : ℕ → List Callsign → List Parcel → State → State
ask_for now (neighbour ∷ _) waiting n = with_turned (circuits.hears_lost neighbour n.set) (at_links tell_lost n)
ask_for now [] (parcel ∷ _) n = take_turn now (circuits.hears (next_hop n) now parcel n.set) (at_links collect n)
ask_for now [] [] n = n

abbrev pub ask : ℕ → State → State
ask now n = ask_for now n.links.pending.lost n.links.pending.waiting n

-- so many times, each with all that there is to tell of it
abbrev pub ask_times : ℕ → ℕ → State → State
ask_times now zero n = n
ask_times now (suc more) n = ask_times now more (tell_all now (ask now n))

-- how much waits at the router. What is handed down adds nothing to it
abbrev pub at_router : State → ℕ
at_router n = length n.links.pending.lost + length n.links.pending.waiting

-- all that is untold is told, and then the router is asked for each that waits there, and all is told that comes of it
unfoldable pub pump : ℕ → State → State
pump now n = ask_times now (at_router n) (tell_all now n)
