-- An end of a circuit: its sending half, its receiving half, and its state (NET/ROM, Appendix B, with the choices of this
-- project's profile).
use Rattle.std.specs.Prelude.{ℕ, zero, suc, ◌%◌, Bool, true, false, List, [], ◌∷◌, ◌++◌, slice_get, Option, Some, None, ◌+◌, ◌-◌, nat_le, if◌then◌else◌, length, ◌^◌, not, ◌||◌, nat_eq, nat_lt, drop, slice_set}
use Rattle.circuit_reassembly.specs.Fragments.{Fragment, fragments_of, Answer, More, Whole, Too_long, gather_step}
use Rattle.radio_base.specs.Modulus.{place_of}
use Rattle.circuit_l4.specs.declared.pair.Pair.{Pair}
use Rattle.circuit_l4.specs.declared.transport.Transport.{Transport}
use Rattle.circuit_l4.specs.declared.transport.Transport.TheVariants.{Info, InfoAck}
use Rattle.circuit_l4.specs.declared.config.EndConfig.{EndConfig}
use Rattle.circuit_l4.specs.declared.phase.EndPhase.{EndPhase}
use Rattle.circuit_l4.specs.declared.phase.EndPhase.TheVariants.{Up}
use Rattle.circuit_l4.specs.declared.notice.EndNotice.{EndNotice}
use Rattle.circuit_l4.specs.declared.role.Role.{Role}
use Rattle.circuit_l4.specs.declared.piece.Piece.{Piece}

-- The sending half of an end of a circuit: what was written for the other end (NET/ROM, Appendix B).

pub record Sending : Type 0 where
  pub wrote : List (List ℕ)  -- the messages that were ever written
  pub acked : ℕ  -- how many of their fragments the other end has acknowledged
  pub sent : ℕ  -- how many of them were put out

-- the fragments of messages, numbered from 0
abbrev pub fragments_of_all : List (List ℕ) → List Fragment
fragments_of_all [] = []
fragments_of_all (m ∷ ms) = fragments_of m ++ fragments_of_all ms

abbrev pub fragments : Sending → List Fragment
fragments s = fragments_of_all s.wrote

abbrev pub total : Sending → ℕ
total s = length (fragments s)

abbrev pub bytes_of : List (List ℕ) → ℕ
bytes_of [] = 0
bytes_of (m ∷ ms) = length m + bytes_of ms

-- The bytes of messages that aren't wholly acknowledged, of whose fragments so many are. What isn't acknowledged is at the
-- end, so from the first such message on they all count
abbrev pub unacknowledged_of : ℕ → List (List ℕ) → ℕ
unacknowledged_of acked [] = 0
unacknowledged_of acked (m ∷ ms) =
    if nat_le (length (fragments_of m)) acked then unacknowledged_of (acked - length (fragments_of m)) ms else bytes_of (m ∷ ms)

abbrev pub unacknowledged : Sending → ℕ
unacknowledged s = unacknowledged_of s.acked s.wrote

-- a message more
abbrev pub written : List ℕ → Sending → Sending
written message s = record s { wrote = s.wrote ++ message ∷ [] }

-- The receiving half of an end of a circuit: what came from the other end (NET/ROM, Appendix B; that fragments are kept
-- before their turn, and how many bytes may wait, is this project's profile).

pub record Receiving : Type 0 where
  pub got : ℕ  -- the number of the next fragment expected
  pub early : List (Option Piece)  -- what came before its turn; the first place is for the next fragment expected
  pub gathered : List ℕ  -- the bytes of a message of which more is to come
  pub received : List (List ℕ)  -- the messages that ever came whole
  pub taken : ℕ  -- how many of them were taken
  pub nak_sent_for : Option ℕ  -- the last number that was asked for by a negative acknowledgement

-- the messages that weren't taken
abbrev pub inbox : Receiving → List (List ℕ)
inbox r = drop r.taken r.received

-- the bytes that came and weren't taken
abbrev pub waiting : Receiving → ℕ
waiting r = bytes_of (inbox r) + length r.gathered

-- no text is taken in for now
abbrev pub busy : Receiving → Bool
busy r = nat_le 16384 (waiting r)

-- a half after fragments were appended, and whether they all fitted their messages
pub record Appended : Type 0 where
  pub half : Receiving
  pub fits : Bool

-- what came early is one place nearer
abbrev pub next_expected : Receiving → Receiving
next_expected r = record r { got = r.got + 1; early = drop 1 (r.early ++ None ∷ []) }

-- a message without bytes is dropped
abbrev pub with_message : List ℕ → List (List ℕ) → List (List ℕ)
with_message [] received = received
with_message (b ∷ bs) received = received ++ (b ∷ bs) ∷ []

abbrev pub appended : Receiving → List ℕ × Answer → Appended
appended r (held, More) = record { half = record (next_expected r) { gathered = held }; fits = true }
appended r (held, Whole m) =
    record { half = record (next_expected r) { gathered = held; received = with_message m r.received }; fits = true }
appended r (held, Too_long) = record { half = r; fits = false }

-- the next fragment is appended to what is gathered; where the message would be too long, nothing is changed
abbrev pub append : List ℕ → Bool → Receiving → Appended
append text more r = appended r (gather_step r.gathered text more)

abbrev pub first_early : List (Option Piece) → Option Piece
first_early [] = None
first_early (p ∷ e) = p

-- the early fragment that is next, where it may be taken
abbrev pub next_early : Receiving → Option Piece
next_early r = if busy r || nat_le (2 ^ 62) r.got then None else first_early r.early

-- early fragments follow while they are next and the end isn't busy; the count is the length of early
abbrev pub follow_by : ℕ → Receiving → Appended
follow_by zero r = record { half = r; fits = true }
follow_by (suc k) r =
    elim (next_early r) as (λ x. Appended) [
      | None ↦ record { half = r; fits = true }
      | Some p ↦ (let a = append p.text.items p.more r in if a.fits then follow_by k a.half else a)
    ]

abbrev pub follow : Receiving → Appended
follow r = follow_by (length r.early) r

-- the next fragment is appended, and early ones follow
abbrev pub append_next : List ℕ → Bool → Receiving → Appended
append_next text more r = let a = append text more r in if a.fits then follow a.half else a

-- what becomes of a fragment: the half after it, whether a negative acknowledgement is owed, and whether it fitted
pub record Receipt : Type 0 where
  pub half : Receiving
  pub nak : Bool
  pub fits : Bool

abbrev pub ignored : Receiving → Receipt
ignored r = record { half = r; nak = false; fits = true }

abbrev pub is_free : Option (Option Piece) → Bool
is_free (Some None) = true
is_free _ = false

-- a fragment is kept early, where none is kept in its place
abbrev pub keep : ℕ → Piece → List (Option Piece) → List (Option Piece)
keep place piece early = if is_free (slice_get early place) then slice_set early place (Some piece) else early

abbrev pub is_asked : Option ℕ → ℕ → Bool
is_asked None n = false
is_asked (Some a) n = nat_eq a n

-- fragment number n comes before its turn: the next one expected is asked for, once
abbrev pub receive_early : ℕ → Piece → Receiving → Receipt
receive_early n piece r =
    record {
      half = record r { early = keep (n - r.got) piece r.early; nak_sent_for = Some r.got };
      nak = not (is_asked r.nak_sent_for r.got);
      fits = true;
    }

abbrev pub receive_next : Piece → Receiving → Receipt
receive_next piece r = let a = append_next piece.text.items piece.more r in record { half = a.half; nak = false; fits = a.fits }

abbrev pub receive_at : ℕ → Piece → Receiving → Receipt
receive_at n piece r = if nat_lt r.got n then receive_early n piece r else receive_next piece r

-- a fragment comes with the number tx on the air: it is one of the window, or nothing is done
abbrev pub receive : ℕ → ℕ → Piece → Receiving → Receipt
receive window tx piece r =
    if busy r || nat_le (2 ^ 62) r.got then ignored r
    else elim (place_of 256 tx r.got window) as (λ x. Receipt) [ None ↦ ignored r | Some n ↦ receive_at n piece r ]

-- the first message is taken
abbrev pub without_first : Receiving → Receiving
without_first r = record r { taken = r.taken + 1 }

-- The state of an end, and a step under way (NET/ROM, Appendix B, with the choices of this project's profile).

pub record State : Type 0 where
  pub role : Role
  pub pair : Pair  -- its own pair
  pub to : Pair  -- the other end's pair, once it is known
  pub config : EndConfig
  pub phase : EndPhase
  pub window : ℕ  -- how many fragments may be under way
  pub sending : Sending
  pub receiving : Receiving
  pub choked : Bool  -- the other end takes no text for now
  pub closing : Bool
  pub tries : ℕ  -- how often it has asked again since it was made, since more was acknowledged, or since it began to close
  pub answer_due : Option ℕ  -- when an answer is waited for no longer
  pub last_active : ℕ  -- when it was opened, last written to, or last heard text or an acknowledgement

-- what is put out, with the number of the fragment that it carries
abbrev pub Out : Type 0
Out = Transport × Option ℕ

-- a step under way: the state, what it puts out and the notices that it gives, in order
pub record Effect : Type 0 where
  pub end : State
  pub outs : List Out
  pub notes : List EndNotice

abbrev pub begin : State → Effect
begin s = record { end = s; outs = []; notes = [] }

abbrev pub is_up : EndPhase → Bool
is_up Up = true
is_up _ = false

-- fragment number n, if there is one, in an information message
abbrev pub info : State → ℕ → Option Fragment → List Out
info s n None = []
info s n (Some f) =
    (Info s.to (n % 256) (s.receiving.got % 256) (record { choke = busy s.receiving; nak = false; more = f.1 }) (record { items = f.0 }), Some n) ∷ []

-- the fragments of many numbers from n on, those that there are
abbrev pub infos : State → ℕ → ℕ → List Out
infos s n zero = []
infos s n (suc many) = info s n (slice_get (fragments s.sending) n) ++ infos s (suc n) many

-- what was got
abbrev pub info_ack : State → Bool → Transport
info_ack s nak = InfoAck s.to (s.receiving.got % 256) (record { choke = busy s.receiving; nak = nak; more = false })
