-- Calls of the circuits and links that a session makes, as the code holds their parts.
use Rattle.std.proofs.Common.{◌≡◌, ◌∙◌, ℕ, refl, sym, ap, subst, List, []}
use Rattle.std.specs.Prelude.{Bool, true, false, OnOk, OnErr, is_some, unwrap_or, Option, Result, Ok, Err}
use Rattle.ax_address.specs.Callsign.{Callsign}
use Rattle.circuit_table.specs.CircuitSets as sets
use Rattle.circuit_table.specs.CircuitSets.{Circuits, SetStands}
use Rattle.circuit_table.specs.Pumps as inputs
use Rattle.circuit_table.specs.Pumps.{Waiting, at_rest}
use Rattle.circuit_table.specs.Sets as s
use Rattle.circuit_table.specs.declared.refusal.SetRefusal.{SetRefusal}
use Rattle.circuit_table.specs.Standing as answers
use Rattle.link_table.specs.Texts as texts
use Rattle.link_table.specs.Standing.{TableView as Kept, TableGoes, TableStands, TextNotNoMemory, text_given}
use Rattle.link_table.specs.Table.{Table}
use Rattle.link_table.specs.declared.text_refusal.TextRefusal.{TextRefusal}
use Rattle.l3_datagram.specs.Routers.{Routing}
use Rattle.node_core.specs.declared.station.Station.{Station}
use Rattle.node_model.specs.Links as links
use Rattle.node_core.specs.Going.{HoldsTold, StandsTold}
use Rattle.node_core.specs.Standing.{Holds, IsTold}
use Rattle.node_model.specs.States.{State, at_links, at_set}
use Rattle.node_model.specs.Users as users
use Rattle.node_core.proofs.Dropping.{given_some}
use Rattle.node_core.proofs.Holding.{links_go, set_steps, set_unchanged, with_carrier}
use Rattle.node_core.proofs.Idle.{take_nothing, told_is_drained}

-- the set of a station of which nothing is untold
pub drained : (s : Station) → StandsTold s → sets.IsDrained s.set
drained s t = told_is_drained s.set t.0 (t.1.0.parts.set, t.1.1)

pub resting : (s : Station) (n : State) → HoldsTold s n → SetStands s.set (at_rest n.set.set)
resting s n t = subst (SetStands s.set) t.1 t.0.parts.set

pub set_acts : (a : s.Act) (st : Station) (new : Circuits Kept) → sets.GoesBy a st.set new → (n : State) → HoldsTold st n → Holds (record st { set = new }) (at_set (links.acts a) n)
unfolding links.acts
set_acts a st new goes n t = set_steps (inputs.acts a) st new goes n t.0 t.1

pub written_holds : (r : Result (Unit {0}) SetRefusal) (a : s.Act) (st : Station) (new : Circuits Kept) → OnOk r (sets.GoesBy a st.set new) → OnErr r (sets.IsUnchanged st.set new)
    → (n : State) → HoldsTold st n → Holds (record st { set = new }) (users.write_if_ok r a n)
written_holds (Ok u) a st new goes same n t = set_acts a st new goes n t
written_holds (Err why) a st new goes same n t = set_unchanged st new same n t.0

-- nothing was taken: the circuits are as they were
pub not_taken : (st : Station) (new : Circuits Kept) (id now : ℕ) (n : State) → HoldsTold st n → sets.GoesBy (s.Calls id s.Takes now) st.set new → users.has_taken (answers.take_answer (users.end_at id n)) ≡ false
    → Holds (record st { set = new }) n
not_taken st new id now n t goes none =
    let same : at_set (links.acts (s.Calls id s.Takes now)) n ≡ n =
    ap (λ (w : Waiting). record n { set = w }) (ap (links.acts (s.Calls id s.Takes now)) t.1 ∙ (take_nothing st.set n.set.set id now (resting st n t) none ∙ sym t.1)) in
    subst (Holds (record st { set = new })) same (set_acts (s.Calls id s.Takes now) st new goes n t)

-- a text was sent over a link, or refused
pub sent_holds : (r : Result (Unit {0}) TextRefusal) (st : Station) (rt : Routing Kept) (old new : Kept) (peer : Callsign) (text : List ℕ) (now : ℕ) → rt ≡ st.set.router → old ≡ rt.carrier
    → TextNotNoMemory r → OnOk r (TableGoes (texts.send_text peer text now) old new) → OnErr r (TextNotNoMemory r → new ≡ old)
    → (n : State) → Holds st n → Holds (with_carrier st rt new) (users.send_if_ok r peer text now n)
unfolding links.send_text
sent_holds (Ok u) st rt old new peer text now e f known goes same n h = links_go (texts.send_text peer text now) st rt old new e f goes n h
sent_holds (Err why) st rt old new peer text now e f known goes same n h =
    links_go (λ (t : Table). t) st rt old new e f (λ t s. subst (λ (k : Kept). TableStands k t) (sym (same known)) s) n h

pub sent_told : (r : Result (Unit {0}) TextRefusal) (peer : Callsign) (text : List ℕ) (now : ℕ) (n : State) → IsTold n → IsTold (users.send_if_ok r peer text now n)
sent_told (Ok u) peer text now n t = t
sent_told (Err why) peer text now n t = t

-- ---- a text that was taken from a link, or none

pub given_has : (b : Bool) (out : List ℕ) (peer : Callsign) (t : Table) → text_given b out ≡ texts.text_with peer t → links.has_text peer t ≡ b
unfolding links.has_text
given_has b out peer t e = ap is_some (sym e) ∙ given_some b out

given_by : (b : Bool) (out : List ℕ) → b ≡ true → unwrap_or (text_given b out) [] ≡ out
given_by true out e = refl
given_by false out e = absurd (cc e)

pub given_text : (b : Bool) (out : List ℕ) (peer : Callsign) (t : Table) → b ≡ true → text_given b out ≡ texts.text_with peer t → out ≡ links.text_with peer t
unfolding links.text_with
given_text b out peer t e f = sym (given_by b out e) ∙ ap (λ (o : Option (List ℕ)). unwrap_or o []) f

pub text_taken : (peer : Callsign) (now : ℕ) (st : Station) (rt : Routing Kept) (old new : Kept) → rt ≡ st.set.router → old ≡ rt.carrier → TableGoes (texts.take_text peer now) old new
    → (n : State) → Holds st n → Holds (with_carrier st rt new) (at_links (links.take_text peer now) n)
unfolding links.take_text
text_taken peer now st rt old new e f goes n h = links_go (texts.take_text peer now) st rt old new e f goes n h
