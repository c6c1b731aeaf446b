-- What waits to be put out, and what it is once it is fetched.
use Rattle.std.specs.Prelude.{ℕ, ◌-◌, ◌%◌, Bool, false, List, [], map, slice_get, unwrap_or, None, Some}
use Rattle.circuit_reassembly.specs.Fragments.{Fragment}
use Rattle.circuit_l4.specs.declared.pair.Pair.{Pair}
use Rattle.circuit_l4.specs.declared.transport.Transport.TheVariants as transport
use Rattle.circuit_l4.specs.declared.output.Output.{Output}
use Rattle.circuit_l4.specs.declared.output.Output.TheVariants.{Request, Accept, Disconnect, Disconnected, Info, InfoAck}
use Rattle.circuit_l4.specs.State.{fragments_of_all, Out}

-- of messages whose first fragment has this number, the fragment of another number; an empty one where there is none
abbrev pub fragment_from : List (List ℕ) → ℕ → ℕ → Fragment
fragment_from queue first number = unwrap_or (slice_get (fragments_of_all queue) (number - first)) ([], false)

abbrev pub with_text : Pair → ℕ → ℕ → Bool → Fragment → Out
with_text to number rx choke f =
    (transport.Info to (number % 256) rx (record { choke = choke; nak = false; more = f.1 }) (record { items = f.0 }), Some number)

-- what waits, with its text from messages whose first fragment has this number
abbrev pub out_of : List (List ℕ) → ℕ → Output → Out
out_of queue first (Request pair window user node) = (transport.Request pair window user node, None)
out_of queue first (Accept to own window) = (transport.Accept to own window, None)
out_of queue first (Disconnect to) = (transport.Disconnect to, None)
out_of queue first (Disconnected to) = (transport.Disconnected to, None)
out_of queue first (Info to number rx choke) = with_text to number rx choke (fragment_from queue first number)
out_of queue first (InfoAck to rx flags) = (transport.InfoAck to rx flags, None)

-- all that waits
unfoldable pub outs_of : List (List ℕ) → ℕ → List Output → List Out
outs_of queue first outputs = map (out_of queue first) outputs
