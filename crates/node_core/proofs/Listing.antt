-- What a session lists of its user, as it hears and as texts go to and fro; and what is done as a text is said or written.
use Rattle.std.proofs.Common.{◌≡◌, ◌∙◌, ℕ, refl, sym, ap, List, [], ◌∷◌}
use Rattle.std.specs.List.{AllByRecursion}
use Rattle.std.specs.Prelude.{Bool, true, false, nat_eq, if◌then◌else◌, Option, Some, None, Result, Ok, Err}
use Rattle.ax_address.specs.Callsign.{Callsign}
use Rattle.ax_address.proofs.SameCalls.{call_refl}
use Rattle.ax_address.proofs.SameNumbers.{nat_refl}
use Rattle.circuit_l4.specs.declared.notice.EndNotice.{EndNotice}
use Rattle.circuit_l4.specs.declared.refusal.WriteRefusal.TheVariants as refusal
use Rattle.circuit_table.specs.Sets as sets
use Rattle.circuit_table.specs.declared.refusal.SetRefusal.{SetRefusal}
use Rattle.circuit_table.specs.declared.refusal.SetRefusal.TheVariants as set_refusal
use Rattle.link_table.specs.declared.text_refusal.TextRefusal.{TextRefusal}
use Rattle.node_model.specs.declared.circuit.Circuit.{Circuit}
use Rattle.node_model.specs.declared.stage.Stage.{Stage}
use Rattle.node_model.specs.declared.stage.Stage.TheVariants.{AtPrompt, Trying, Failed, Connected}
use Rattle.node_model.specs.declared.user.User.{User}
use Rattle.node_model.specs.declared.user.User.TheVariants.{AtEnd, AtLink}
use Rattle.node_model.specs.Bridging as bridging
use Rattle.node_model.specs.Links as links
use Rattle.node_model.specs.Pumping.{pump}
use Rattle.node_model.specs.Sessions as s
use Rattle.node_model.specs.Sessions.{Bridge, Session}
use Rattle.node_model.specs.States.{State}
use Rattle.node_model.specs.Users as users
use Rattle.node_model.specs.Users.{Outcome, Taken, Exhausts, Unheard, Refused}
use Rattle.node_core.specs.Deeds.{Deed, Wrote, Sent, Does, Pumps, Writes, Sends, is_at, is_tried, said_by, said_in, told_in}
use Rattle.node_core.proofs.Soundness.{Hears}

-- ---- what a session lists, as it hears

-- this was given, and this was taken, where its circuit stood once
abbrev pub Lists : List (List ℕ) → List (List ℕ) → Type 0 → Session → Type 0
Lists gave taken stood x = (x.bridge.gave ≡ gave) × (stood → (is_tried x.stage ≡ false) × (x.bridge.taken ≡ taken))

module _ (gave taken : List (List ℕ)) (stood : Type 0) where
  either : (x y : Session) (b : Bool) → Lists gave taken stood x → Lists gave taken stood y → Lists gave taken stood (if b then y else x)
  either x y true p q = q
  either x y false p q = p

  noticed : (id : ℕ) (notice : EndNotice) (x : Session) (stage : Stage) → x.stage ≡ stage → Lists gave taken stood x → Lists gave taken stood (s.notice_at stage id notice x)
  noticed id notice x AtPrompt e p = p
  noticed id notice x (Failed c) e p = p
  noticed id notice x (Connected c) e p = p
  noticed id notice x (Trying c) e p =
      either x (s.hear_tried c notice x) (nat_eq c.id id) p (p.0, λ st. let t : true ≡ false = sym (ap is_tried e) ∙ (p.1 st).0 in absurd (cc t))

  gone : (id : ℕ) (x : Session) (stage : Stage) → x.stage ≡ stage → Lists gave taken stood x → Lists gave taken stood (s.gone_at stage id x)
  gone id x AtPrompt e p = p
  gone id x (Trying c) e p = either x (s.at_prompt x) (nat_eq c.id id) p (p.0, λ st. (refl, (p.1 st).1))
  gone id x (Failed c) e p = either x (s.at_prompt x) (nat_eq c.id id) p (p.0, λ st. (refl, (p.1 st).1))
  gone id x (Connected c) e p = either x (s.hear_end c x) (nat_eq c.id id) p (p.0, λ st. (refl, (p.1 st).1))

  pub lists_hear : Hears (Lists gave taken stood)
  lists_hear = record { notice = λ id notice x p. noticed id notice x x.stage refl p; gone = λ id x p. gone id x x.stage refl p }

-- ---- what is logged

-- a text that was refused wasn't given
pub err_gave : (why : SetRefusal) (text : List ℕ) (b : Bridge) → (bridging.after_giving (users.wrote_by (Err why)) text b).gave ≡ b.gave
err_gave (set_refusal.Write refusal.Exhausted) text b = refl
err_gave (set_refusal.Write refusal.NotUp) text b = refl
err_gave (set_refusal.Write refusal.Closing) text b = refl
err_gave (set_refusal.Write refusal.Empty) text b = refl
err_gave (set_refusal.Write refusal.TooLong) text b = refl
err_gave (set_refusal.Write refusal.QueueFull) text b = refl
err_gave set_refusal.NoEnd text b = refl
err_gave set_refusal.NoMemory text b = refl

pub giving_taken : (o : Outcome) (text : List ℕ) (b : Bridge) → (bridging.after_giving o text b).taken ≡ b.taken
giving_taken Taken text b = refl
giving_taken Exhausts text b = refl
giving_taken Unheard text b = refl
giving_taken Refused text b = refl

pub writing_gave : (o : Outcome) (text : List ℕ) (b : Bridge) → (bridging.after_writing o text b).gave ≡ b.gave
writing_gave Taken text b = refl
writing_gave Exhausts text b = refl
writing_gave Unheard text b = refl
writing_gave Refused text b = refl

pub writing_taken : (o : Outcome) (text : List ℕ) (b : Bridge) → (bridging.after_writing o text b).taken ≡ b.taken
writing_taken Taken text b = refl
writing_taken Exhausts text b = refl
writing_taken Unheard text b = refl
writing_taken Refused text b = refl

pub closed_tried : (stage : Stage) → is_tried (bridging.stage_closed stage) ≡ is_tried stage
closed_tried AtPrompt = refl
closed_tried (Trying c) = refl
closed_tried (Failed c) = refl
closed_tried (Connected c) = refl

-- ---- what is said and written

abbrev pub wrote_deeds : Result (Unit {0}) SetRefusal → ℕ → List ℕ → List Deed
wrote_deeds (Ok _) id text = Wrote id text ∷ []
wrote_deeds (Err why) id text = []

abbrev pub sent_deeds : Result (Unit {0}) TextRefusal → Callsign → List ℕ → List Deed
sent_deeds (Ok _) peer text = Sent peer text ∷ []
sent_deeds (Err why) peer text = []

abbrev pub deeds_to : User → List ℕ → State → List Deed
deeds_to (AtEnd id) text a = wrote_deeds (users.write_answer id text a) id text
deeds_to (AtLink peer) text a = sent_deeds (links.text_answer peer text a.links) peer text

abbrev pub deeds_if : Option User → List ℕ → State → List Deed
deeds_if None text a = []
deeds_if (Some user) text a = deeds_to user text a

pub does_write : (now id : ℕ) (text : List ℕ) (a m : State) → Does now m (users.write_to now id text a) [] → Does now m a (wrote_deeds (users.write_answer id text a) id text)
does_write now id text a m d = by (users.write_answer id text a) refl d
  where
    by : (r : Result (Unit {0}) SetRefusal) → users.write_answer id text a ≡ r → Does now m (pump now (users.write_if_ok r (sets.Calls id (sets.Writes text) now) a)) [] → Does now m a (wrote_deeds r id text)
    by (Ok _) e d = Writes a [] id text e (Pumps _ [] d)
    by (Err why) e d = Pumps a [] d

does_to : (u : User) (now : ℕ) (text : List ℕ) (a m : State) → Does now m (users.say_to u now text a) [] → Does now m a (deeds_to u text a)
does_to (AtEnd id) now text a m d = does_write now id text a m d
does_to (AtLink peer) now text a m d = by (links.text_answer peer text a.links) refl d
  where
    by : (r : Result (Unit {0}) TextRefusal) → links.text_answer peer text a.links ≡ r → Does now m (users.send_if_ok r peer text now a) [] → Does now m a (sent_deeds r peer text)
    by (Ok _) e d = Sends a [] peer text e d
    by (Err why) e d = d

pub does_if : (o : Option User) (now : ℕ) (text : List ℕ) (a m : State) → Does now m (users.say_if o now text a) [] → Does now m a (deeds_if o text a)
does_if None now text a m d = d
does_if (Some user) now text a m d = does_to user now text a m d

-- what a user was told by that is all that was done, at the user's side, and no message of a circuit among it
pub told_all : (u : User) (text : List ℕ) (a : State) (c : Circuit) → AllByRecursion (λ d. is_at u c d ≡ true) (deeds_to u text a)
told_all (AtEnd id) text a c = by (users.write_answer id text a)
  where
    by : (r : Result (Unit {0}) SetRefusal) → AllByRecursion (λ d. is_at (AtEnd id) c d ≡ true) (wrote_deeds r id text)
    by (Ok _) = (rw (nat_refl id) refl, tt)
    by (Err why) = tt
told_all (AtLink peer) text a c = by (links.text_answer peer text a.links)
  where
    by : (r : Result (Unit {0}) TextRefusal) → AllByRecursion (λ d. is_at (AtLink peer) c d ≡ true) (sent_deeds r peer text)
    by (Ok _) = (call_refl peer, tt)
    by (Err why) = tt

pub told_none : (u v : User) (text : List ℕ) (a : State) → said_by v (deeds_to u text a) ≡ []
told_none (AtEnd id) v text a = by v (users.write_answer id text a)
  where
    by : (v : User) (r : Result (Unit {0}) SetRefusal) → said_by v (wrote_deeds r id text) ≡ []
    by (AtEnd at) (Ok _) = refl
    by (AtLink peer) (Ok _) = refl
    by v (Err why) = refl
told_none (AtLink peer) v text a = by v (links.text_answer peer text a.links)
  where
    by : (v : User) (r : Result (Unit {0}) TextRefusal) → said_by v (sent_deeds r peer text) ≡ []
    by (AtEnd at) (Ok _) = refl
    by (AtLink to) (Ok _) = refl
    by v (Err why) = refl

-- a text that a user is told, and nothing is said by that
pub record IsTelling (u : User) (c : Circuit) (text : List ℕ) (d : Deed) : Type 0 where
  pub told : told_in u d ≡ text ∷ []
  pub said : said_in u d ≡ []
  pub own : is_at u c d ≡ true

pub tells_end : (id : ℕ) (c : Circuit) (text : List ℕ) → IsTelling (AtEnd id) c text (Wrote id text)
tells_end id c text = record { told = rw (nat_refl id) refl; said = refl; own = rw (nat_refl id) refl }

pub tells_link : (peer : Callsign) (c : Circuit) (text : List ℕ) → IsTelling (AtLink peer) c text (Sent peer text)
tells_link peer c text = record { told = rw (call_refl peer) refl; said = refl; own = call_refl peer }
