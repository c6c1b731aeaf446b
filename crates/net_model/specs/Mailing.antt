-- The lines `post` and `mail`: mail is posted at a node, and the agent of a node takes in what waits for it and offers what is queued.
-- Own profile.
use Rattle.std.specs.Prelude.{ℕ, zero, suc, ◌&&◌, Bool, true, false, List, [], ◌∷◌, ◌++◌, length, map, filter, nat_lt, slice_get, slice_set, is_none, is_ok, is_some, Option, Some, None, option_map, unwrap_or, Result, Ok, Err, if◌then◌else◌}
use Rattle.radio_base.specs.declared.modulus.LinkModulus.TheVariants.{Modulo8}
use Rattle.ax_address.specs.Callsign.{Callsign, same_call}
use Rattle.circuit_l4.specs.State.{is_up}
use Rattle.circuit_table.specs.CircuitSets.{facts_at, held_ids, partner_at}
use Rattle.circuit_table.specs.declared.refusal.NoEnd.{NoEnd}
use Rattle.circuit_table.specs.Sets.{Holder, end_of}
use Rattle.circuit_table.specs.Standing.{take_answer, write_answer}
use Rattle.node_core.specs.declared.acts.ActDone.{ActDone}
use Rattle.node_core.specs.declared.acts.ActDone.TheVariants.{Took}
use Rattle.node_core.specs.declared.acts.ActRefusal.{ActRefusal}
use Rattle.node_core.specs.Acts as acts
use Rattle.node_core.specs.Acts.{UserAct}
use Rattle.node_mail.specs.declared.heard.Heard.{Heard}
use Rattle.node_mail.specs.declared.heard.Heard.TheVariants as hearing
use Rattle.node_mail.specs.declared.post_refusal.PostRefusal.{PostRefusal}
use Rattle.node_mail.specs.Lists.{Letter, Lists, answer_to, hear_at, hear_step, letter_of, post_at, post_step, text_of, octets_or}
use Rattle.node_mail.specs.Wires.{Wire, wire_at, wire_octets}
use Rattle.net_model.specs.declared.refusals.LineRefusal.TheVariants.{NoMail, Served}
use Rattle.net_model.specs.Ends.{ends_of, offered_at}
use Rattle.net_model.specs.Events as events
use Rattle.net_model.specs.Events.{Event}
use Rattle.net_model.specs.Refused.{of_post, refusal_events}
use Rattle.net_model.specs.Starting.{Placed}
use Rattle.net_model.specs.World.{Act, World, answer, place_of_node, put, reach, tell, with_found}

-- ---- what a node keeps

abbrev pub mail_in : ℕ → List (Option Lists) → Option Lists
mail_in at mails = unwrap_or (slice_get mails at) None

-- the mail of the node at a place, where it keeps any
abbrev pub mail_at : ℕ → World → Option Lists
mail_at at w = mail_in at w.mails

abbrev pub with_mail : ℕ → Lists → World → World
with_mail at s w = record w { mails = slice_set w.mails at (Some s) }

-- the ends of the node at a place
abbrev pub ends_here : ℕ → World → List Holder
ends_here at w = unwrap_or (option_map (λ (p : Placed). p.state.station.set.set.ends) (slice_get w.nodes at)) []

-- ---- all ends of a node that keeps mail are its agent's: others don't write or take there

abbrev pub is_agents : ℕ → ℕ → World → Bool
is_agents node end w = let at : ℕ = place_of_node node w.nodes in is_some (mail_at at w) && is_some (facts_at (end_of end (ends_here at w)))

-- these are told first
abbrev pub unless_agents : ℕ → ℕ → ℕ → List Event → (World → World) → World → World
unless_agents line node end first done w = if is_agents node end w then tell line (first ++ events.Refused Served ∷ []) w else done w

-- ---- posts

abbrev pub posted_events : ℕ → Result ℕ PostRefusal → List Event
posted_events node (Ok number) = events.Posted node number ∷ []
posted_events node (Err why) = refusal_events (of_post why)

abbrev pub post_by : ℕ → ℕ → ℕ → Callsign → Callsign → List ℕ → Option Lists → World → World
post_by line node at to dest text None w = tell line (events.Refused NoMail ∷ []) w
post_by line node at to dest text (Some s) w = tell line (posted_events node (post_at s dest text)) (with_mail at (post_step s to dest text) w)

-- post N TO DEST TEXT: no node hears of it
abbrev pub post : ℕ → ℕ → Callsign → Callsign → List ℕ → World → World
post line node to dest text w = let at : ℕ = place_of_node node w.nodes in post_by line node at to dest text (mail_at at w) w

-- ---- a turn of the agent: the network, and what the line answers behind its last input

pub record Agent : Type 0 where
  pub world : World
  pub answers : List Event

-- what is answered of a message that was heard of a node: of a mail that is stored, with the octets of its text, and of one that is settled
abbrev pub heard_events : ℕ → Callsign → ℕ → Heard → List Event
heard_events node from len (hearing.Stored number to) = events.MailStored node from number to len ∷ []
heard_events node from len (hearing.Settled number) = events.MailSettled node number ∷ []
heard_events node from len other = []

-- a message waits, where an end of that number is held
abbrev pub waits : Result Bool NoEnd → Bool
waits (Ok b) = b
waits (Err why) = false

-- a message was taken
abbrev pub is_taken : Result ActDone ActRefusal → Bool
is_taken (Ok (Took message)) = true
is_taken other = false

abbrev pub queued_of : Option Lists → List Letter
queued_of None = []
queued_of (Some s) = s.queued

-- the numbers of the mails for a node that are above this one
abbrev pub numbers_for : Callsign → ℕ → List Letter → List ℕ
numbers_for dest last letters = map (λ (l : Letter). l.number) (filter (λ (l : Letter). same_call l.dest dest && nat_lt last l.number) letters)

-- the partner's node of an end that the node asked for and that is up
abbrev pub dest_of : Option Holder → Option Callsign
dest_of None = None
dest_of (Some h) = if is_none h.asked && is_up h.end.phase then partner_at (Some h) else None

-- the end of a number takes a message
abbrev pub may_write : ℕ → ℕ → List ℕ → World → Bool
may_write at id message w = is_ok (write_answer (end_of id (ends_here at w)) message)

module _ (line at : ℕ) where
  -- an act of the agent is an input: what the inputs before it have put out is put in the air first
  abbrev pub aired_before : World → World
  aired_before w = put line at Modulo8 w

  abbrev pub input : UserAct → World → World
  input act w = reach line at (Act act) (aired_before w)

  -- a message that the end refuses is no input
  abbrev pub write_if_taken : ℕ → List ℕ → World → World
  write_if_taken id message w = if may_write at id message w then input (acts.Write id message) w else w

  abbrev pub write_answer_to : ℕ → Option Wire → World → World
  write_answer_to id answer w = with_found answer (λ wire. write_if_taken id (wire_octets wire)) w

module _ (line node at : ℕ) where
  -- ---- what waits at an end is taken and heard

  -- a message that was taken is heard of the partner's node; its answer, where there is one, is written at the end
  abbrev pub heard_from : ℕ → List ℕ → Callsign → Lists → Agent → Agent
  heard_from id octets from s a = record {
    world = write_answer_to line at id (answer_to (hear_at s from octets)) (with_mail at (hear_step s from octets) a.world);
    answers = a.answers ++ heard_events node from (length (text_of (wire_at octets))) (hear_at s from octets);
  }

  abbrev pub heard_by : ℕ → List ℕ → Option Callsign → Option Lists → Agent → Agent
  heard_by id octets (Some from) (Some s) a = heard_from id octets from s a
  heard_by id octets from mail a = a

  -- so is the message that was taken, where one was
  abbrev pub hear_taken : ℕ → Option Callsign → Result ActDone ActRefusal → Agent → Agent
  hear_taken id from (Ok (Took message)) a = heard_by id message from (mail_at at a.world) a
  hear_taken id from other a = a

  abbrev pub take_once : ℕ → Agent → Agent
  take_once id a =
      let act : UserAct = acts.Take id in
      let w : World = aired_before line at a.world in
      hear_taken id (partner_at (end_of id (ends_here at a.world))) (answer at act w) (record a { world = reach line at (Act act) w })

  -- one message after another, so many at most, while one waits and is taken
  unfoldable pub take_from : ℕ → ℕ → Agent → Agent
  take_from id zero a = a
  take_from id (suc more) a =
      let b : Agent = take_once id a in
      let was_taken : Bool = is_taken (answer at (acts.Take id) (aired_before line at a.world)) in
      if waits (take_answer (end_of id (ends_here at a.world))) then (if was_taken then take_from id more b else b) else a

  -- until none waits: fewer than 100,000 do, as an end holds back its partner where 16,384 octets wait, and a message has one at least
  abbrev pub take_all : ℕ → Agent → Agent
  take_all id a = take_from id 100000 a

  abbrev pub take_at : List ℕ → Agent → Agent
  take_at [] a = a
  take_at (id ∷ ids) a = take_at ids (take_all id a)

  -- ---- queued mails are offered at an end, by number, up to the first refused write

  -- the message that offers the queued mail of a number
  abbrev pub offer_octets : ℕ → World → List ℕ
  offer_octets number w = octets_or [] (letter_of number (queued_of (mail_at at w)))

  -- it is written at the end, and that is told
  abbrev pub offer_one : ℕ → ℕ → World → World
  offer_one id number w = tell line (events.Offered node id number ∷ []) (input line at (acts.Write id (offer_octets number w)) w)

  abbrev pub offer : ℕ → List ℕ → World → World
  offer id [] w = w
  offer id (number ∷ numbers) w = if may_write at id (offer_octets number w) w then offer id numbers (offer_one id number w) else w

  -- those for the partner's node that weren't offered at this end
  abbrev pub offer_to : ℕ → Callsign → World → World
  offer_to id dest w = offer id (numbers_for dest (offered_at id (ends_of node w.told)) (queued_of (mail_at at w))) w

  -- where the node asked for the circuit and it is up
  abbrev pub offer_all : ℕ → World → World
  offer_all id w = with_found (dest_of (end_of id (ends_here at w))) (offer_to id) w

  abbrev pub offer_at : List ℕ → World → World
  offer_at [] w = w
  offer_at (id ∷ ids) w = offer_at ids (offer_all id w)

  -- ---- both, each at the ends that are held when it begins; the answers come behind the entries of the last input, before its frames

  abbrev pub take_part : World → Agent
  take_part w = take_at (held_ids (ends_here at w)) (record { world = w; answers = [] })

  abbrev pub offer_part : World → World
  offer_part w = offer_at (held_ids (ends_here at w)) w

  abbrev pub agent_turn : World → World
  agent_turn w = let taken : Agent = take_part w in put line at Modulo8 (tell line taken.answers (offer_part taken.world))

  abbrev pub turn_by : Bool → World → World
  turn_by false w = tell line (events.Refused NoMail ∷ []) w
  turn_by true w = agent_turn w

-- mail N
abbrev pub mail : ℕ → ℕ → World → World
mail line node w = let at : ℕ = place_of_node node w.nodes in turn_by line node at (is_some (mail_at at w)) w

-- what a network has come to in the turn of a node's agent, at a `mail` line, when it has gone through these ends and has taken so many
-- messages at the next one, or all that wait there
abbrev pub while_taking : ℕ → ℕ → List ℕ → ℕ → ℕ → World → World
while_taking line node passed end count w =
    let at : ℕ = place_of_node node w.nodes in
    (take_from line node at end count (take_at line node at passed (record { world = w; answers = [] }))).world
