-- The users at the prompt: what is kept of each, and what it hears. Own profile.
use Rattle.std.specs.Prelude.{ℕ, Bool, true, false, nat_eq, if◌then◌else◌, List, [], ◌∷◌, ◌++◌, map, Option, Some, None}
use Rattle.ax_address.specs.Callsign.{Callsign, same_call}
use Rattle.ax_link.specs.declared.notice.LinkNotice.{LinkNotice}
use Rattle.ax_link.specs.declared.notice.LinkNotice.TheVariants as link
use Rattle.circuit_l4.specs.declared.notice.EndNotice.{EndNotice}
use Rattle.circuit_l4.specs.declared.notice.EndNotice.TheVariants as end
use Rattle.circuit_table.specs.Pumps.{SetTold, Of}
use Rattle.circuit_table.specs.Sets.{Gone, Made, Notice}
use Rattle.node_prompt.specs.declared.trouble.Trouble.TheVariants.{Busy, Failure}
use Rattle.node_model.specs.declared.circuit.Circuit.{Circuit}
use Rattle.node_model.specs.declared.reply.Reply.{Reply}
use Rattle.node_model.specs.declared.reply.Reply.TheVariants as reply
use Rattle.node_model.specs.declared.stage.Stage.{Stage}
use Rattle.node_model.specs.declared.stage.Stage.TheVariants.{AtPrompt, Trying, Failed, Connected}
use Rattle.node_model.specs.declared.user.User.{User}
use Rattle.node_model.specs.declared.user.User.TheVariants.{AtEnd, AtLink}

-- What went between a user and its circuit: texts since that stood, messages since it was asked for, in whole. No node keeps it.
pub record Bridge : Type 0 where
  pub taken : List (List ℕ)  -- texts that were taken from the user
  pub wrote : List (List ℕ)  -- messages that were written to the circuit
  pub got : List (List ℕ)  -- messages that were taken from the circuit
  pub gave : List (List ℕ)  -- those of them that were given to the user
  pub exhausted : Bool  -- something was refused, since the numbers of fragments have come to their end

abbrev pub unused : Bridge
unused = record { taken = []; wrote = []; got = []; gave = []; exhausted = false }

-- what is left of a text, if anything, as the text that waits
abbrev pub waits : List ℕ → List (List ℕ)
waits [] = []
waits (b ∷ bs) = (b ∷ bs) ∷ []

-- a circuit stands: what is left of the text that asked for it is the first that goes to it
abbrev pub after_opening : List ℕ → Bridge → Bridge
after_opening rest b = record b { taken = waits rest; wrote = [] }

pub record Session : Type 0 where
  pub user : User
  pub left : Bool  -- its link has ended
  pub bye : Bool  -- it has said BYE
  pub stage : Stage
  pub replies : List Reply  -- what it is still to be told of its circuit
  pub rest : List ℕ  -- what is left of the text that was taken last
  pub bridge : Bridge

abbrev pub new_session : User → Session
new_session user =
    record { user = user; left = false; bye = false; stage = AtPrompt; replies = []; rest = []; bridge = unused }

-- what a node keeps of it
abbrev pub bare : Session → Session
bare s = record s { bridge = unused }

-- the circuit that a session has asked for, and that isn't gone
abbrev pub circuit_of : Stage → Option Circuit
circuit_of AtPrompt = None
circuit_of (Trying c) = Some c
circuit_of (Failed c) = Some c
circuit_of (Connected c) = Some c

-- ---- what is heard of circuits

-- a circuit that is tried stands, or was refused, or has failed
abbrev pub told_by : Callsign → EndNotice → Reply
told_by dest (end.Opened window) = reply.Connected dest
told_by dest end.Refused = reply.Refused dest Busy
told_by dest _ = reply.Refused dest Failure

-- one that won't stand is the session's until its end is gone
abbrev pub stage_by : Circuit → EndNotice → Stage
stage_by c (end.Opened window) = Connected c
stage_by c _ = Failed c

abbrev pub hear_tried : Circuit → EndNotice → Session → Session
hear_tried c notice s = record s { stage = stage_by c notice; replies = s.replies ++ told_by c.dest notice ∷ []; bridge = after_opening s.rest s.bridge }

abbrev pub notice_at : Stage → ℕ → EndNotice → Session → Session
notice_at (Trying c) id notice s = if nat_eq c.id id then hear_tried c notice s else s
notice_at _ id notice s = s

abbrev pub hear_notice : ℕ → EndNotice → Session → Session
hear_notice id notice s = notice_at s.stage id notice s

-- the end of a circuit is gone: its user is at the prompt again, and where the circuit stood it is told
abbrev pub at_prompt : Session → Session
at_prompt s = record s { stage = AtPrompt }

abbrev pub hear_end : Circuit → Session → Session
hear_end c s = record s { stage = AtPrompt; replies = s.replies ++ reply.Ended c.dest ∷ [] }

abbrev pub gone_at : Stage → ℕ → Session → Session
gone_at AtPrompt id s = s
gone_at (Trying c) id s = if nat_eq c.id id then at_prompt s else s
gone_at (Failed c) id s = if nat_eq c.id id then at_prompt s else s
gone_at (Connected c) id s = if nat_eq c.id id then hear_end c s else s

abbrev pub hear_gone : ℕ → Session → Session
hear_gone id s = gone_at s.stage id s

-- a session is made for the user at an end that a request has opened, where users are served
abbrev pub greet : Bool → User → List Session → List Session
greet prompt user ss = if prompt then ss ++ new_session user ∷ [] else ss

-- what was told of the circuits
abbrev pub hear_circuits : Bool → SetTold → List Session → List Session
hear_circuits prompt (Of (Made id pair partner (Some request))) ss = greet prompt (AtEnd id) ss
hear_circuits prompt (Of (Notice id notice)) ss = map (hear_notice id notice) ss
hear_circuits prompt (Of (Gone id facts)) ss = map (hear_gone id) ss
hear_circuits prompt _ ss = ss

abbrev pub hear_if : Bool → Option SetTold → List Session → List Session
hear_if prompt None ss = ss
hear_if prompt (Some told) ss = hear_circuits prompt told ss

-- ---- what is heard of links

abbrev pub ends_link : LinkNotice → Bool
ends_link link.Opened = false
ends_link link.Reset = false
ends_link _ = true

abbrev pub is_at_link : Callsign → User → Bool
is_at_link peer (AtEnd id) = false
is_at_link peer (AtLink call) = same_call call peer

abbrev pub leaves : Session → Session
leaves s = record s { left = true }

abbrev pub leave : Callsign → Session → Session
leave peer s = if is_at_link peer s.user then leaves s else s

-- the link with a peer has ended
abbrev pub hear_link : Callsign → LinkNotice → List Session → List Session
hear_link peer notice ss = if ends_link notice then map (leave peer) ss else ss

abbrev pub hear_links : List (Callsign × LinkNotice) → List Session → List Session
hear_links [] ss = ss
hear_links (told ∷ more) ss = hear_links more (hear_link told.0 told.1 ss)
