-- The user's side of a session, which is an end of a circuit or a link: whether it has ended, whether it has room, what is said to
-- it, and what comes from it. Own profile.
use Rattle.std.specs.Prelude.{ℕ, Bool, true, false, ◌||◌, ◌&&◌, not, nat_le, if◌then◌else◌, is_none, List, [], ◌∷◌, ◌++◌, take, slice_get, slice_set, Option, Some, None, Result, Ok, Err}
use Rattle.ax_address.specs.Callsign.{Callsign, same_call}
use Rattle.circuit_l4.specs.declared.facts.EndFacts.{EndFacts}
use Rattle.circuit_l4.specs.declared.refusal.WriteRefusal.TheVariants.{Exhausted}
use Rattle.circuit_l4.specs.State.{is_up}
use Rattle.circuit_table.specs.CircuitSets.{facts_at, partner_at}
use Rattle.circuit_table.specs.Sets as sets
use Rattle.circuit_table.specs.Standing as answers
use Rattle.circuit_table.specs.declared.refusal.NoEnd.{NoEnd}
use Rattle.circuit_table.specs.declared.refusal.SetRefusal.{SetRefusal}
use Rattle.circuit_table.specs.declared.refusal.SetRefusal.TheVariants as set_refusal
use Rattle.link_table.specs.declared.text_refusal.TextRefusal.{TextRefusal}
use Rattle.node_model.specs.declared.user.User.{User}
use Rattle.node_model.specs.declared.user.User.TheVariants.{AtEnd, AtLink}
use Rattle.node_model.specs.Links as links
use Rattle.node_model.specs.Pumping.{pump}
use Rattle.node_model.specs.Sessions.{Session}
use Rattle.node_model.specs.States.{State, at_links, at_set, next_hop}
use Rattle.node_model.specs.Turns.{Turn, done, idle}

-- ---- sessions by their place

abbrev pub session_at : ℕ → State → Option Session
session_at nth n = slice_get n.sessions nth

abbrev pub change_if : Option Session → ℕ → (Session → Session) → List Session → List Session
change_if None nth change ss = ss
change_if (Some s) nth change ss = slice_set ss nth (change s)

-- the session in a place, if there is one, is changed
abbrev pub at_session : ℕ → (Session → Session) → State → State
at_session nth change n = record n { sessions = change_if (slice_get n.sessions nth) nth change n.sessions }

-- ---- ends

abbrev pub end_at : ℕ → State → Option sets.Holder
end_at id n = sets.end_of id n.set.set.ends

-- what the end of a number tells of itself, where it is held
abbrev pub facts : ℕ → State → Option EndFacts
facts id n = facts_at (end_at id n)

abbrev pub ended_by : Option EndFacts → Bool
ended_by None = true
ended_by (Some f) = sets.has_ended f.phase

-- an end has room for a text where it is Up with at most 57,344 bytes queued: so 8,192 more may be
abbrev pub room_by : Option EndFacts → Bool
room_by None = false
room_by (Some f) = is_up f.phase && nat_le f.queued 57344

abbrev pub end_has_room : ℕ → State → Bool
end_has_room id n = room_by (facts id n)

-- an input of the circuits, after which they are pumped
abbrev pub acts : ℕ → sets.Act → State → State
acts now act n = pump now (at_set (links.acts act) n)

-- a text is written where that isn't refused
abbrev pub write_if_ok : Result (Unit {0}) SetRefusal → sets.Act → State → State
write_if_ok (Ok _) act n = at_set (links.acts act) n
write_if_ok (Err why) act n = n

abbrev pub write_answer : ℕ → List ℕ → State → Result (Unit {0}) SetRefusal
write_answer id text n = answers.write_answer (end_at id n) text

abbrev pub write_to : ℕ → ℕ → List ℕ → State → State
write_to now id text n = pump now (write_if_ok (write_answer id text n) (sets.Calls id (sets.Writes text) now) n)

abbrev pub close : ℕ → ℕ → State → State
close now id n = acts now (sets.Calls id sets.Closes now) n

-- ---- the user's side

abbrev pub has_ended_at : User → Bool → State → Bool
has_ended_at (AtEnd id) left n = ended_by (facts id n)
has_ended_at (AtLink peer) left n = left

-- it has ended
abbrev pub has_ended : Session → State → Bool
has_ended s n = has_ended_at s.user s.left n

abbrev pub is_gone_at : User → Bool → State → Bool
is_gone_at (AtEnd id) left n = is_none (facts id n)
is_gone_at (AtLink peer) left n = left

-- it has ended, and no text of it waits
abbrev pub is_gone : Session → State → Bool
is_gone s n = is_gone_at s.user s.left n

-- it is told nothing more
abbrev pub is_deaf : Session → State → Bool
is_deaf s n = s.bye || has_ended s n

-- a link has room for a text where it has room for 33 payloads
abbrev pub link_has_room : Callsign → State → Bool
link_has_room peer n = nat_le 33 (links.room peer n.links)

-- where what goes to a node goes next
abbrev pub hop_to : Option Callsign → State → Option Callsign
hop_to None n = None
hop_to (Some node) n = next_hop n node

abbrev pub goes_over : Callsign → Option Callsign → Bool
goes_over peer None = false
goes_over peer (Some hop) = same_call peer hop

-- For how many payloads a link has room that has room for a message of a circuit: for 33, and for one more where the circuit's own
-- datagrams go over that link, since taking the message may send an acknowledgement first.
abbrev pub payloads_beside : Callsign → ℕ → State → ℕ
payloads_beside peer id n = if goes_over peer (hop_to (partner_at (end_at id n)) n) then 34 else 33

abbrev pub link_has_room_beside : Callsign → ℕ → State → Bool
link_has_room_beside peer id n = nat_le (payloads_beside peer id n) (links.room peer n.links)

abbrev pub has_room_at : User → Bool → State → Bool
has_room_at (AtEnd id) left n = end_has_room id n
has_room_at (AtLink peer) left n = not left && link_has_room peer n

abbrev pub has_room : Session → State → Bool
has_room s n = has_room_at s.user s.left n

-- the same for a message of the circuit of an end
abbrev pub has_room_beside_at : User → ℕ → Bool → State → Bool
has_room_beside_at (AtEnd user) id left n = end_has_room user n
has_room_beside_at (AtLink peer) id left n = not left && link_has_room_beside peer id n

abbrev pub has_room_beside : Session → ℕ → State → Bool
has_room_beside s id n = has_room_beside_at s.user id s.left n

-- what is for the user can be given to it, or is dropped
abbrev pub can_give : Session → State → Bool
can_give s n = is_deaf s n || has_room s n

-- the same of a message of the circuit of an end
abbrev pub can_pass_on : Session → ℕ → State → Bool
can_pass_on s id n = is_deaf s n || has_room_beside s id n

-- ---- what is said to a user

-- what came of a text that was written or sent
pub data Outcome : Type 0 where
  Taken : Outcome
  Exhausts : Outcome  -- the numbers of fragments have come to their end
  Unheard : Outcome  -- nothing is said to the user any more
  Refused : Outcome

abbrev pub wrote_by : Result (Unit {0}) SetRefusal → Outcome
wrote_by (Ok _) = Taken
wrote_by (Err (set_refusal.Write Exhausted)) = Exhausts
wrote_by (Err why) = Refused

abbrev pub sent_by : Result (Unit {0}) TextRefusal → Outcome
sent_by (Ok _) = Taken
sent_by (Err why) = Refused

-- a text is sent where that isn't refused
abbrev pub send_if_ok : Result (Unit {0}) TextRefusal → Callsign → List ℕ → ℕ → State → State
send_if_ok (Ok _) peer text now n = at_links (links.send_text peer text now) n
send_if_ok (Err why) peer text now n = n

abbrev pub send : ℕ → Callsign → List ℕ → State → State
send now peer text n = send_if_ok (links.text_answer peer text n.links) peer text now n

abbrev pub say_to : User → ℕ → List ℕ → State → State
say_to (AtEnd id) now text n = write_to now id text n
say_to (AtLink peer) now text n = send now peer text n

abbrev pub outcome_at : User → List ℕ → State → Outcome
outcome_at (AtEnd id) text n = wrote_by (write_answer id text n)
outcome_at (AtLink peer) text n = sent_by (links.text_answer peer text n.links)

abbrev pub listener : Option Session → State → Option User
listener None n = None
listener (Some s) n = if is_deaf s n then None else Some s.user

abbrev pub say_if : Option User → ℕ → List ℕ → State → State
say_if None now text n = n
say_if (Some user) now text n = say_to user now text n

-- a text is given to the user, unless it is told nothing more
abbrev pub say : ℕ → ℕ → List ℕ → State → State
say now nth text n = say_if (listener (session_at nth n) n) now text n

abbrev pub outcome_if : Option User → List ℕ → State → Outcome
outcome_if None text n = Unheard
outcome_if (Some user) text n = outcome_at user text n

-- what comes of that
abbrev pub outcome_for : ℕ → List ℕ → State → Outcome
outcome_for nth text n = outcome_if (listener (session_at nth n) n) text n

-- ---- what comes from a user

-- what is left of a text: a session keeps at most 8,192 bytes, and no text has more
abbrev pub with_rest : List ℕ → Session → Session
with_rest text s = record s { rest = take 8192 text }

-- one was taken
abbrev pub with_text : List ℕ → Session → Session
with_text text s = record s { rest = take 8192 text; bridge = record s.bridge { taken = s.bridge.taken ++ text ∷ [] } }

abbrev pub has_taken : Result Bool NoEnd → Bool
has_taken (Ok taken) = taken
has_taken (Err why) = false

abbrev pub take_if : Bool → State → State → Turn State
take_if true taken n = done taken
take_if false taken n = idle n

abbrev pub take_from_end : ℕ → ℕ → ℕ → State → Turn State
take_from_end now nth id n =
    take_if (has_taken (answers.take_answer (end_at id n)))
    (pump now (at_session nth (with_text (answers.message_at [] (end_at id n))) (at_set (links.acts (sets.Calls id sets.Takes now)) n))) n

abbrev pub take_from_link : ℕ → ℕ → Callsign → State → Turn State
take_from_link now nth peer n =
    take_if (links.has_text peer n.links)
    (at_session nth (with_text (links.text_with peer n.links)) (at_links (links.take_text peer now) n)) n

abbrev pub take_next : User → ℕ → ℕ → State → Turn State
take_next (AtEnd id) now nth n = take_from_end now nth id n
take_next (AtLink peer) now nth n = take_from_link now nth peer n

-- the user of a session, unless it has left
abbrev pub present : Option Session → Option User
present None = None
present (Some s) = if s.left then None else Some s.user

abbrev pub take_by : Option User → ℕ → ℕ → State → Turn State
take_by None now nth n = idle n
take_by (Some user) now nth n = take_next user now nth n

-- the next text of a user is taken, where one waits
abbrev pub take_text : ℕ → ℕ → State → Turn State
take_text now nth n = take_by (present (session_at nth n)) now nth n

abbrev pub close_link : ℕ → Callsign → State → State
close_link now peer n = at_links (links.close peer now) n

abbrev pub close_side : User → ℕ → State → State
close_side (AtEnd id) now n = close now id n
close_side (AtLink peer) now n = close_link now peer n

abbrev pub close_by : Option User → ℕ → State → State
close_by None now n = n
close_by (Some user) now n = close_side user now n

-- the user's side is closed
abbrev pub close_user : ℕ → ℕ → State → State
close_user now nth n = close_by (present (session_at nth n)) now n
