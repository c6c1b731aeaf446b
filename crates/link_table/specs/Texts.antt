-- Texts over links: where one waits, what it is, taking it, and sending one (this project's profile).
use Rattle.std.specs.Prelude.{ℕ, ◌-◌, ◌+◌, ◌==◌, ◌&&◌, not, min, is_some, if◌then◌else◌, List, [], ◌∷◌, length, slice_get, Option, None, Some, zero, suc, ◌/◌, Bool, nat_lt, take, drop, Result, Ok, Err}
use Rattle.radio_base.specs.declared.payload.Payload.{Payload}
use Rattle.ax_address.specs.Callsign.{Callsign}
pub use Rattle.ax_link.specs.Kinds.{payload}
use Rattle.ax_link.specs.State.{State, count_end}
use Rattle.ax_link.specs.Table.{may_close, Send}
use Rattle.ax_segment.specs.Joining.{Answer, HeldMessage, Whole, join_step}
use Rattle.ax_segment.specs.Segments.{segments_of}
use Rattle.link_table.specs.Calls.{at_link}
use Rattle.link_table.specs.Frames.{plain_text, segmented}
use Rattle.link_table.specs.Table.{Linked, Table, link_with}
use Rattle.link_table.specs.Works.{Work, is_text, most_taken, settle, take_payload, step_link}
use Rattle.link_table.specs.declared.text_refusal.TextRefusal.{TextRefusal}
use Rattle.link_table.specs.declared.text_refusal.TextRefusal.TheVariants.{NoLink, TooLong, Full}

-- Texts that came over links: where one waits, what it is, and taking it (this project's profile).

-- the bytes of a message that is whole
abbrev pub message_of : Answer → List ℕ
message_of (Whole pid message) = message
message_of _ = []

-- the text that a payload is, or that the message has which it makes whole
abbrev pub text_of : HeldMessage → Payload → List ℕ
text_of joiner p = if p.pid == plain_text then p.info.items else message_of (join_step joiner p.info.items).1

-- the text that waits, by the oldest payload
abbrev pub first_text : HeldMessage → Option Payload → Option (List ℕ)
first_text joiner None = None
first_text joiner (Some p) = if is_text joiner p then Some (text_of joiner p) else None

abbrev pub text_at : Linked → Option (List ℕ)
text_at l = first_text l.joiner (slice_get l.link.inbox 0)

-- the oldest payload is taken, and then what waited behind it, up to the next text
abbrev pub take_text_of : Callsign → ℕ → Work → Work
take_text_of own now w =
    elim (slice_get w.linked.link.inbox 0) as (λ x. Work) [ None ↦ w | Some p ↦ settle most_taken own now (take_payload own now p w) ]

-- the peers at whose link a text waits, in the order of the links
abbrev pub text_peers : List Linked → List Callsign
text_peers [] = []
text_peers (l ∷ ls) = if is_some (text_at l) then l.peer ∷ text_peers ls else text_peers ls

-- the text that waits at the link with a peer
abbrev pub text_with : Callsign → Table → Option (List ℕ)
text_with peer t = elim (link_with peer t.links) as (λ x. Option (List ℕ)) [ None ↦ None | Some l ↦ text_at l ]

-- it is taken, where one waits
abbrev pub take_text : Callsign → ℕ → Table → Table
take_text peer now t = if is_some (text_with peer t) then at_link peer (take_text_of t.own now) t else t

-- how many payloads a link would still accept
abbrev pub room_of : State → ℕ
room_of s =
    if may_close s.phase && not s.closing then min (s.acked + 128 - length s.given) (count_end - length s.given) else 0

-- the same of the link with a peer: 0 where none stands
abbrev pub room : Callsign → Table → ℕ
room peer t = elim (link_with peer t.links) as (λ x. ℕ) [ None ↦ 0 | Some l ↦ room_of l.link ]

-- Texts that go over links: their pieces, where one is refused, and sending one (this project's profile).

-- ---- pieces

-- so many full pieces of a text, and what is left of it
abbrev pub pieces : ℕ → List ℕ → List (List ℕ)
pieces zero text = text ∷ []
pieces (suc n) text = take 256 text ∷ pieces n (drop 256 text)

-- a text, cut into pieces of 256 bytes, of which all but the last are full, and the last isn't empty
abbrev pub cut : List ℕ → List (List ℕ)
cut [] = []
cut (first ∷ others) = pieces (length others / 256) (first ∷ others)

-- on a link of modulo 128 a text of over 256 bytes goes in segments
abbrev pub in_segments : ℕ → List ℕ → Bool
in_segments size text = (size == 128) && nat_lt 256 (length text)

abbrev pub payloads : ℕ → List (List ℕ) → List Payload
payloads pid [] = []
payloads pid (info ∷ infos) = payload pid info ∷ payloads pid infos

-- the payloads as which a text goes over a link of this modulus
abbrev pub payloads_of : ℕ → List ℕ → List Payload
payloads_of size text = if in_segments size text then payloads segmented (segments_of plain_text text) else payloads plain_text (cut text)

-- ---- sending

-- the link is given one payload after another
abbrev pub send_each : Callsign → List Payload → ℕ → Work → Work
send_each own [] now w = w
send_each own (p ∷ ps) now w = send_each own ps now (step_link own (Send p) now w)

abbrev pub send_text_of : Callsign → List ℕ → ℕ → Work → Work
send_text_of own text now w = send_each own (payloads_of w.linked.link.rules.size text) now w

abbrev pub send_text : Callsign → List ℕ → ℕ → Table → Table
send_text peer text now t = at_link peer (send_text_of t.own text now) t

-- ---- refusals

-- the most bytes of a text
abbrev pub most_text : ℕ
most_text = 8192

-- a link takes texts while it is set up or Up, and isn't being closed
abbrev pub takes_texts : State → Bool
takes_texts s = may_close s.phase && not s.closing

abbrev pub answer_of : List ℕ → State → Result (Unit {0}) TextRefusal
answer_of text s =
    if not (takes_texts s) then Err NoLink
    else if nat_lt most_text (length text) then Err TooLong
    else if nat_lt (room_of s) (length (payloads_of s.rules.size text)) then Err Full
    else Ok tt

abbrev pub text_answer : Callsign → List ℕ → Table → Result (Unit {0}) TextRefusal
text_answer peer text t =
    elim (link_with peer t.links) as (λ x. Result (Unit {0}) TextRefusal) [ None ↦ Err NoLink | Some l ↦ answer_of text l.link ]
