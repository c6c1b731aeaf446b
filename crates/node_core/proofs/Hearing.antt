-- What the sessions hear, whether what went over their bridges is kept or not.
use Rattle.std.proofs.Common.{◌≡◌, ◌∙◌, ◌+◌, ◌<◌, ◌≤◌, ℕ, refl, sym, ap, drop, get_or, length, List, [], ◌∷◌, map}
use Rattle.std.specs.Prelude.{Bool, true, false, ◌||◌, nat_eq, if◌then◌else◌}
use Rattle.std.proofs.lemmas.List.{at_drop_all, at_drop_more, map-append}
use Rattle.ax_address.specs.Callsign.{Callsign}
use Rattle.ax_link.specs.declared.notice.LinkNotice.{LinkNotice}
use Rattle.circuit_l4.specs.declared.notice.EndNotice.{EndNotice}
use Rattle.node_model.specs.declared.stage.Stage.{Stage}
use Rattle.node_model.specs.declared.stage.Stage.TheVariants.{AtPrompt, Trying, Failed, Connected}
use Rattle.node_model.specs.declared.user.User.{User}
use Rattle.node_model.specs.declared.user.User.TheVariants.{AtLink}
use Rattle.node_model.specs.Sessions.{Session, bare, ends_link, gone_at, greet, hear_gone, hear_link, hear_end, hear_notice, hear_tried, at_prompt, is_at_link, leave, leaves, new_session, notice_at}
use Rattle.node_model.specs.Serving.{greet_each, greet_link, is_served_link, serves_link}
use Rattle.node_core.specs.Standing.{Holds}
use Rattle.node_model.specs.States.{State, at_sessions}
use Rattle.node_core.proofs.Holding.{with_sessions}
use Rattle.node_core.specs.declared.station.Station.{Station}

-- a step of a session that sees nothing of its bridge: it leaves the bridge as it is, or unused
abbrev pub Blind : (Session → Session) → Type 0
Blind step = (s : Session) → bare (step (bare s)) ≡ bare (step s)

abbrev pub Passes : (Session → Session) → Type 0
Passes step = (s : Session) → step (bare s) ≡ bare (step s)

bare_map : (step : Session → Session) → Blind step → (ss : List Session) → map (λ (s : Session). bare (step s)) (map bare ss) ≡ map bare (map step ss)
bare_map step blind [] = refl
bare_map step blind (s ∷ ss) = rw (blind s, bare_map step blind ss) refl

pub pass_map : (step : Session → Session) → Passes step → (ss : List Session) → map step (map bare ss) ≡ map bare (map step ss)
pass_map step passes [] = refl
pass_map step passes (s ∷ ss) = rw (passes s, pass_map step passes ss) refl

blind_if : (b : Bool) (step : Session → Session) (s : Session) → bare (step (bare s)) ≡ bare (step s) → bare (if b then step (bare s) else bare s) ≡ bare (if b then step s else s)
blind_if true step s e = e
blind_if false step s e = refl

notice_if : (id : ℕ) (notice : EndNotice) (s : Session) (stage : Stage) → bare (notice_at stage id notice (bare s)) ≡ bare (notice_at stage id notice s)
notice_if id notice s AtPrompt = refl
notice_if id notice s (Failed c) = refl
notice_if id notice s (Connected c) = refl
notice_if id notice s (Trying c) = blind_if (nat_eq c.id id) (hear_tried c notice) s refl

pass_if : (b : Bool) (step : Session → Session) (s : Session) → step (bare s) ≡ bare (step s) → (if b then step (bare s) else bare s) ≡ bare (if b then step s else s)
pass_if true step s e = e
pass_if false step s e = refl

gone_if : (id : ℕ) (s : Session) (stage : Stage) → gone_at stage id (bare s) ≡ bare (gone_at stage id s)
gone_if id s AtPrompt = refl
gone_if id s (Trying c) = pass_if (nat_eq c.id id) at_prompt s refl
gone_if id s (Failed c) = pass_if (nat_eq c.id id) at_prompt s refl
gone_if id s (Connected c) = pass_if (nat_eq c.id id) (hear_end c) s refl

greet_if : (b : Bool) (user : User) (ss : List Session) → greet b user (map bare ss) ≡ map bare (greet b user ss)
greet_if true user ss = sym (map-append bare ss (new_session user ∷ []))
greet_if false user ss = refl

-- ---- what the code has heard

pub greeted : (s s2 : Station) (user : User) → s2.sessions.items ≡ greet s.prompt user s.sessions.items → s2 ≡ record s { sessions = s2.sessions }
    → (n : State) → Holds s n → Holds s2 (at_sessions (greet n.settings.prompt user) n)
greeted s s2 user e same n h = with_sessions s s2 (greet n.settings.prompt user n.sessions) (e ∙ rw (h.users.prompt, h.users.sessions) (greet_if n.settings.prompt user n.sessions)) same n h

pub heard_notice : (s s2 : Station) (id : ℕ) (notice : EndNotice) → s2.sessions.items ≡ map (λ (x : Session). bare (hear_notice id notice x)) s.sessions.items
    → s2 ≡ record s { sessions = s2.sessions } → (n : State) → Holds s n → Holds s2 (at_sessions (map (hear_notice id notice)) n)
heard_notice s s2 id notice e same n h =
    with_sessions s s2 (map (hear_notice id notice) n.sessions) (e ∙ rw h.users.sessions (bare_map (hear_notice id notice) (λ x. notice_if id notice x x.stage) n.sessions)) same n h

pub heard_gone : (s s2 : Station) (id : ℕ) → s2.sessions.items ≡ map (hear_gone id) s.sessions.items
    → s2 ≡ record s { sessions = s2.sessions } → (n : State) → Holds s n → Holds s2 (at_sessions (map (hear_gone id)) n)
heard_gone s s2 id e same n h =
    with_sessions s s2 (map (hear_gone id) n.sessions) (e ∙ rw h.users.sessions (pass_map (hear_gone id) (λ x. gone_if id x x.stage) n.sessions)) same n h

leave_same : (peer : Callsign) (s : Session) → leave peer (bare s) ≡ bare (leave peer s)
leave_same peer s = by (is_at_link peer s.user)
  where
    by : (b : Bool) → (if b then leaves (bare s) else bare s) ≡ bare (if b then leaves s else s)
    by true = refl
    by false = refl

link_if : (b : Bool) (peer : Callsign) (ss : List Session) → (if b then map (leave peer) (map bare ss) else map bare ss) ≡ map bare (if b then map (leave peer) ss else ss)
link_if true peer ss = pass_map (leave peer) (leave_same peer) ss
link_if false peer ss = refl

pub heard_link : (s : Station) (n : State) (peer : Callsign) (notice : LinkNotice) → Holds s n → hear_link peer notice s.sessions.items ≡ map bare (hear_link peer notice n.sessions)
heard_link s n peer notice h = rw h.users.sessions (link_if (ends_link notice) peer n.sessions)

-- ---- links with a first text

bare_serves : (peer : Callsign) (ss : List Session) → is_served_link peer (map bare ss) ≡ is_served_link peer ss
bare_serves peer [] = refl
bare_serves peer (s ∷ ss) = ap (λ (b : Bool). serves_link peer s || b) (bare_serves peer ss)

unless_served : (b : Bool) (prompt : Bool) (user : User) (ss : List Session) → (if b then map bare ss else greet prompt user (map bare ss)) ≡ map bare (if b then ss else greet prompt user ss)
unless_served true prompt user ss = refl
unless_served false prompt user ss = greet_if prompt user ss

pub bare_greets : (prompt : Bool) (peer : Callsign) (ss : List Session) → greet_link prompt peer (map bare ss) ≡ map bare (greet_link prompt peer ss)
bare_greets prompt peer ss =
    ap (λ (b : Bool). if b then map bare ss else greet prompt (AtLink peer) (map bare ss)) (bare_serves peer ss)
    ∙ unless_served (is_served_link peer ss) prompt (AtLink peer) ss

-- the link in this place is greeted, and then those behind it
pub greets_next : (prompt : Bool) (peers : List Callsign) (i : ℕ) (peer : Callsign) (ss : List Session) → i < length peers → peer ≡ get_or peers i peer
    → greet_each prompt (drop i peers) ss ≡ greet_each prompt (drop (i + 1) peers) (greet_link prompt peer ss)
greets_next prompt peers i peer ss within is =
    at_drop_more (λ (ps : List Callsign). greet_each prompt ps ss) peers i peer within
    ∙ ap (λ (p : Callsign). greet_each prompt (drop (i + 1) peers) (greet_link prompt p ss)) (sym is)

pub greets_none : (prompt : Bool) (peers : List Callsign) (i : ℕ) (ss : List Session) → length peers ≤ i → greet_each prompt (drop i peers) ss ≡ ss
greets_none prompt peers i ss all = at_drop_all (λ (ps : List Callsign). greet_each prompt ps ss) peers i all
