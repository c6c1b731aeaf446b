-- What holds of every node.
use Rattle.std.specs.Prelude.{ℕ, ◌≡◌, ◌↔◌, true, false, []}
use Rattle.std.specs.List.{AllByRecursion}
use Rattle.node_model.specs.Links.{text_peers}
use Rattle.node_core.specs.Inputs.{after_input}
use Rattle.node_model.specs.Pumping.{pending, tell_all, tell_turn}
use Rattle.node_model.specs.Serving.{is_served_link, drop_text, drop_texts, serve_users, turn}
use Rattle.node_model.specs.States.{State}
use Rattle.node_model.specs.Turns.{SettlesTo, Turn, idle}
use Rattle.node_core.specs.Waits.{WaitsForRoom}

-- nothing is left to be done: no notice is to be entered, nothing is to be told or routed, and to serve the users now does nothing. Where
-- users are served, each link at which a text waits has a session, and whatever waits for a session waits for room.
pub record NothingLeft (now : ℕ) (n : State) : Type 0 where
  pub notices : n.links.pending.notices ≡ []
  pub pending : pending n ≡ 0
  pub lost : n.links.pending.lost ≡ []
  pub waiting : n.links.pending.waiting ≡ []
  pub served : serve_users now n ≡ idle n
  pub greeted : n.settings.prompt ≡ true → AllByRecursion (λ peer. is_served_link peer n.sessions ≡ true) (text_peers n.links)
  pub sessions : n.settings.prompt ≡ true → AllByRecursion (WaitsForRoom n) n.sessions

-- after an input nothing is left to be done
abbrev pub NothingLeftAfterInputs : Type 0
NothingLeftAfterInputs = (now : ℕ) (n : State) → NothingLeft now (after_input now n)

-- from each state these turns settle to the one that this gives, and to no other
abbrev pub SettlesAs : (State → Turn State) → (State → State) → Type 0
SettlesAs turn settled = (n m : State) → (settled n ≡ m) ↔ SettlesTo turn n m

-- So it is with what follows an input, with the telling, and with the texts that are dropped. Where whoever holds the node serves its
-- users, serving them does nothing: their texts stay.
pub record InputsSettle : Type 0 where
  pub inputs : (now : ℕ) → SettlesAs (turn now) (after_input now)
  pub tells : (now : ℕ) → SettlesAs (tell_turn now) (tell_all now)
  pub drops : (now : ℕ) → SettlesAs (drop_text now) (drop_texts now)
  pub hosts : (now : ℕ) (n : State) → n.settings.prompt ≡ false → n.settings.hosts ≡ true → serve_users now n ≡ idle n
