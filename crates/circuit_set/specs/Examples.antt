-- Runs that show what "too late" bears: a text that is made up, a node that starts again at a pair of its former ends, and a request
-- that comes again after its circuit.
use Rattle.std.specs.Prelude.{◌≡◌, ℕ, ◌+◌, ◌-◌, ◌≤◌, ◌%◌, false, List, [], ◌∷◌}
use Rattle.ax_address.specs.Callsign.{Callsign}
use Rattle.l3_datagram.specs.Datagrams.{octets_with}
use Rattle.circuit_l4.specs.declared.pair.Pair.{Pair}
use Rattle.circuit_l4.specs.declared.transport.Transport.{Transport}
use Rattle.circuit_l4.specs.declared.transport.Transport.TheVariants.{Request, Accept, Info}
use Rattle.circuit_l4.specs.declared.config.EndConfig.{EndConfig}
use Rattle.circuit_l4.specs.Transports.{transport_octets}
use Rattle.circuit_table.specs.Sets.{Calls, Comes, Connect, Restart, SetState, Ticks, new_set}
use Rattle.circuit_set.specs.Books.{Fresh, Timely, empty}
use Rattle.circuit_set.specs.NotedRuns.{allowance_at}
use Rattle.circuit_set.specs.Returning.{IsUnbroken}
use Rattle.circuit_table.specs.Runs.{Step, events_of}
use Rattle.circuit_set.specs.Safe.{Safe}

-- N0AAA and N0BBB
abbrev pub n0aaa : Callsign
n0aaa = record { letters = 78 ∷ 48 ∷ 65 ∷ 65 ∷ 65 ∷ 32 ∷ []; ssid = 0 }

abbrev pub n0bbb : Callsign
n0bbb = record { letters = 78 ∷ 48 ∷ 66 ∷ 66 ∷ 66 ∷ 32 ∷ []; ssid = 0 }

abbrev pub pair_of : ℕ → Pair
pair_of index = record { index = index; ident = 1 }

abbrev pub narrow_config : EndConfig
narrow_config = record { window = 1; timeout = 1000; retries = 1; busy = 1000; inactive = 1000 }

abbrev pub node : Callsign → SetState
node own = new_set own 9 own narrow_config (pair_of 1) 1

abbrev pub datagram_from : Callsign → Callsign → Transport → List ℕ
datagram_from origin dest t = octets_with (record { origin = origin; dest = dest; ttl = 9 }) (transport_octets t)

-- N0AAA asks for a circuit with N0BBB. Somebody accepts in the place of N0BBB, which isn't there, and sends a text "X".
abbrev pub forged_steps : List Step
forged_steps =
    record { node = 0; act = Connect n0bbb 0 }
    ∷ record { node = 0; act = Comes (datagram_from n0bbb n0aaa (Accept (pair_of 1) (pair_of 1) 1)) 0 }
    ∷ record { node = 0; act = Comes (datagram_from n0bbb n0aaa (Info (pair_of 1) 0 0 (record { choke = false; nak = false; more = false }) (record { items = 88 ∷ [] }))) 0 }
    ∷ []

-- The run isn't timely, and isn't safe: the end has received what no partner wrote.
pub record ForgedIsUnsafe : Type 0 where
  pub late : Timely allowance_at empty (events_of (node n0aaa ∷ []) forged_steps) → ⊥
  pub unsafe : Safe (node n0aaa ∷ []) forged_steps → ⊥

-- N0AAA asks for a circuit with N0BBB, whose end is opened by that. Then N0AAA starts again at this pair and asks once more.
abbrev pub again_at : ℕ → List Step
again_at index =
    record { node = 0; act = Connect n0bbb 0 }
    ∷ record { node = 1; act = Comes (datagram_from n0aaa n0bbb (Request (pair_of 1) 1 n0aaa n0aaa)) 0 }
    ∷ record { node = 0; act = Restart (pair_of index) 0 }
    ∷ record { node = 0; act = Connect n0bbb 0 }
    ∷ []

-- At the pair of the end that it has lost, which the other node's end still names, the run isn't fresh, though nothing is heeded.
pub record RestartIsStale : Type 0 where
  pub timely : Timely allowance_at empty (events_of (node n0aaa ∷ node n0bbb ∷ []) (again_at 1))
  pub stale : Fresh empty (events_of (node n0aaa ∷ node n0bbb ∷ []) (again_at 1)) → ⊥

-- N0AAA asks for a circuit with N0BBB, whose end is opened by that, hears nothing more and fails. Then a copy of the request comes.
abbrev pub ask : List ℕ
ask = datagram_from n0aaa n0bbb (Request (pair_of 1) 1 n0aaa n0aaa)

abbrev pub asked_again : List Step
asked_again =
    record { node = 0; act = Connect n0bbb 0 }
    ∷ record { node = 1; act = Comes ask 0 }
    ∷ record { node = 1; act = Calls 1 Ticks 1000 }
    ∷ record { node = 1; act = Comes ask 1000 }
    ∷ []

-- No node starts again, none gives a pair twice, and all that comes was sent: yet the run isn't fresh.
pub record CopyReturns : Type 0 where
  pub unbroken : IsUnbroken (node n0aaa ∷ node n0bbb ∷ []) asked_again
  pub stale : Fresh empty (events_of (node n0aaa ∷ node n0bbb ∷ []) asked_again) → ⊥

-- With one overtaker more two counts would be one number on the air: at a window of 127 an acknowledgement may be of the count
-- 129 below what was acknowledged and of the one 127 above it.
abbrev pub OneMoreIsTooMany : Type 0
OneMoreIsTooMany = (acked : ℕ) → 129 ≤ acked → (acked - 127 - 2) % 256 ≡ (acked + 127) % 256
