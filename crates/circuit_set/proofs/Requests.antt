-- What reads as a connect request was written as one.
use Rattle.std.specs.Prelude.{◌≡◌, ℕ, ◌+◌, nat_lt, Bool, true, false, if◌then◌else◌, List, ◌++◌, length, Ok, Err, refl}
use Rattle.ax_address.specs.Callsign.{Callsign}
use Rattle.circuit_l4.specs.declared.pair.Pair.{Pair}
use Rattle.circuit_l4.specs.declared.transport.Transport.{Transport}
use Rattle.circuit_l4.specs.declared.transport.Transport.TheVariants.{Request, Accept, Refuse, Disconnect, Disconnected, Info, InfoAck}
use Rattle.circuit_l4.specs.declared.transport.TransportRefusal.{TransportRefusal}
use Rattle.circuit_l4.specs.Transports.{accept_at, of_opcode, transport_at, headed, transport_octets}

-- it is a request
abbrev pub IsRequest : Transport → Type 0
IsRequest t = (pair : Pair) × (window : ℕ) × (user : Callsign) × (node : Callsign) × (t ≡ Request pair window user node)

sized_case : (os : List ℕ) (t : Transport) (b c : Bool) (e f : TransportRefusal) → (if b then Err e else if c then Err f else of_opcode os) ≡ Ok t → of_opcode os ≡ Ok t
sized_case os t true c e f h = cc
sized_case os t false true e f h = cc
sized_case os t false false e f h = h

sized_read : (os : List ℕ) (t : Transport) → transport_at os ≡ Ok t → of_opcode os ≡ Ok t
unfolding transport_at
sized_read os t h = sized_case os t (nat_lt 241 (length os)) (nat_lt (length os) 5) _ _ h

module _ (pair : Pair) (window : ℕ) (user node : Callsign) (P : Type 0) where
  abbrev Reads : List ℕ → Type 0
  Reads os = of_opcode os ≡ Ok (Request pair window user node)

  accept_no : (to own : Pair) (w : ℕ) → Reads (transport_octets (Accept to own w)) → P
  unfolding accept_at
  accept_no to own w h = cc

  info_no : (to : Pair) (tx rx : ℕ) (text : List ℕ) (c n m : Bool) → Reads (headed to tx rx (5 + ((if c then 128 else 0) + (if n then 64 else 0) + (if m then 32 else 0))) ++ text) → P
  info_no to tx rx text true true true h = cc
  info_no to tx rx text true true false h = cc
  info_no to tx rx text true false true h = cc
  info_no to tx rx text true false false h = cc
  info_no to tx rx text false true true h = cc
  info_no to tx rx text false true false h = cc
  info_no to tx rx text false false true h = cc
  info_no to tx rx text false false false h = cc

  ack_no : (to : Pair) (rx : ℕ) (c n m : Bool) → Reads (headed to 0 rx (6 + ((if c then 128 else 0) + (if n then 64 else 0) + (if m then 32 else 0)))) → P
  ack_no to rx true true true h = cc
  ack_no to rx true true false h = cc
  ack_no to rx true false true h = cc
  ack_no to rx true false false h = cc
  ack_no to rx false true true h = cc
  ack_no to rx false true false h = cc
  ack_no to rx false false true h = cc
  ack_no to rx false false false h = cc

request_of : (t : Transport) (pair : Pair) (window : ℕ) (user node : Callsign) → of_opcode (transport_octets t) ≡ Ok (Request pair window user node) → IsRequest t
request_of (Request p w u n) pair window user node h = (p, w, u, n, refl)
request_of (Accept to own w) pair window user node h = accept_no pair window user node (IsRequest (Accept to own w)) to own w h
request_of (Refuse to) pair window user node h = cc
request_of (Disconnect to) pair window user node h = cc
request_of (Disconnected to) pair window user node h = cc
request_of (Info to tx rx flags text) pair window user node h = info_no pair window user node (IsRequest (Info to tx rx flags text)) to tx rx text.items flags.choke flags.nak flags.more h
request_of (InfoAck to rx flags) pair window user node h = ack_no pair window user node (IsRequest (InfoAck to rx flags)) to rx flags.choke flags.nak flags.more h

pub is_request : (t : Transport) (pair : Pair) (window : ℕ) (user node : Callsign) → transport_at (transport_octets t) ≡ Ok (Request pair window user node) → IsRequest t
is_request t pair window user node h = request_of t pair window user node (sized_read (transport_octets t) (Request pair window user node) h)
