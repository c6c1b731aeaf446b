-- What is asked of the ends that the node at a place holds.
use Rattle.std.proofs.Common.{◌≡◌, ◌<◌, ◌≤◌, ◌∙◌, ℕ, zero, suc, refl, sym, ap, subst, List, [], ◌∷◌, ◌++◌, length, take, Bool, true, false, ◌&&◌, cond, get_or}
use Rattle.std.specs.List.{position_or_len}
use Rattle.std.specs.Prelude.{Option, Some, None, Result, Ok, Err, is_ok, is_some, is_none, nat_lt, slice_get, unwrap_or}
use Rattle.ax_address.specs.Callsign.{Callsign}
use Rattle.circuit_l4.specs.declared.facts.EndFacts.{EndFacts}
use Rattle.circuit_l4.specs.declared.refusal.WriteRefusal.{WriteRefusal}
use Rattle.circuit_l4.specs.Opening.{facts_of}
use Rattle.circuit_l4.specs.Standing.{EndView, StandsFor}
use Rattle.circuit_l4.specs.State.{State, is_up, inbox}
use Rattle.circuit_l4.specs.Table as table
use Rattle.circuit_table.specs.CircuitSets.{Circuits, LentStands, SetStands, facts_at, held_by, partner_at, requested_at}
use Rattle.circuit_table.specs.Pumps.{Waiting, at_rest}
use Rattle.circuit_table.specs.Sets.{Holder, end_of}
use Rattle.circuit_table.specs.Standing.{by_write, take_answer, write_answer}
use Rattle.link_table.specs.Standing.{TableView}
use Rattle.node_core.specs.Standing.{Kept, NodeStands}
use Rattle.node_model.specs.States.{NodeState}
use Rattle.net_world.specs.Agents.{is_requested, is_up_end}
use Rattle.net_model.specs.Mailing.{dest_of, ends_here, is_agents, mail_in, waits}
use Rattle.net_world.specs.Running.{Course, NodeLent, Stands}
use Rattle.net_model.specs.Starting.{Placed}
use Rattle.net_model.specs.Standing.{is_member}
use Rattle.net_model.specs.World.{World}
use Rattle.net_model.proofs.Looks.{ends_of_placed}
use Rattle.net_world.proofs.Placing.{at_place, past_place, place_is}
use Rattle.net_model.specs.declared.members.Member.{Member}

-- ---- the ends of the node at a place are those of its circuits, of which nothing is untold

pub looks : (o : Option Placed) (n : Kept) (lent : Circuits TableView) (P : List Holder → Type 0) → NodeLent (Some n) o
    → ((s : NodeState) → NodeStands n s → SetStands lent (at_rest s.station.set.set)) → ((x : Waiting) → SetStands lent x → P (held_by x.untold x.set.ends)) → P (ends_of_placed o)
looks None n lent P node rests says = absurd node
looks (Some p) n lent P node rests says = says (at_rest p.state.station.set.set) (rests p.state node)

pub looks_none : (o : Option Placed) (P : List Holder → Type 0) → NodeLent None o → P [] → P (ends_of_placed o)
looks_none None P node none = none
looks_none (Some p) P node none = absurd node

-- the node at a place is lent
pub lent_at : (c : Course) (w : World) (at : ℕ) (before : Member) → at < length c.left.members → before ≡ get_or c.left.members at before → Stands c w
    → NodeLent (Some before.node) (slice_get w.nodes at)
lent_at c w at before h here t =
    let place = at_place c.left.members w.nodes w.mails at before h t.trace.members in
    subst (λ o. NodeLent (Some before.node) o) (sym place.is_in) (subst (λ (m : Member). NodeStands m.node place.placed.state) (sym here) place.stands)

pub lent_none : (c : Course) (w : World) (at : ℕ) → length c.left.members ≤ at → Stands c w → NodeLent None (slice_get w.nodes at)
lent_none c w at h t = subst (λ o. NodeLent None o) (sym (past_place c w at h t)) tt

-- ---- an end that is lent

pub lent_held : (r : Option EndView) (o : Option Holder) → LentStands r o → is_some r ≡ is_some (facts_at o)
lent_held None None h = refl
lent_held None (Some x) h = rw h refl
lent_held (Some k) None h = absurd h
lent_held (Some k) (Some x) h = rw (h.0) refl

pub lent_waits : (k : EndView) (o : Option Holder) (b : Bool) → LentStands (Some k) o → ((s : State) → StandsFor k s → b ≡ nat_lt 0 (length (inbox s.receiving))) → b ≡ waits (take_answer o)
lent_waits k None b h says = absurd h
lent_waits k (Some x) b h says = rw (h.0) (says x.end h.1)

pub none_waits : (o : Option Holder) → LentStands None o → false ≡ waits (take_answer o)
none_waits None h = refl
none_waits (Some x) h = rw h refl

ok_by_write : (r : Result (Unit {0}) WriteRefusal) → is_ok (by_write r) ≡ is_ok r
ok_by_write (Ok u) = refl
ok_by_write (Err why) = refl

pub lent_writes : (k : EndView) (o : Option Holder) (message : List ℕ) (r : Result (Unit {0}) WriteRefusal) → LentStands (Some k) o
    → ((s : State) → StandsFor k s → r ≡ table.write_answer s message) → is_ok r ≡ is_ok (write_answer o message)
lent_writes k None message r h says = absurd h
lent_writes k (Some x) message r h says = rw (h.0) (ap is_ok (says x.end h.1) ∙ sym (ok_by_write (table.write_answer x.end message)))

pub none_writes : (o : Option Holder) (message : List ℕ) → LentStands None o → false ≡ is_ok (write_answer o message)
none_writes None message h = refl
none_writes (Some x) message h = rw h refl

pub lent_up : (k : EndView) (o : Option Holder) (f : EndFacts) → LentStands (Some k) o → ((s : State) → StandsFor k s → f ≡ facts_of s) → is_up f.phase ≡ is_up_end o
lent_up k None f h says = absurd h
lent_up k (Some x) f h says = rw (h.0) (ap (λ (g : EndFacts). is_up g.phase) (says x.end h.1))

pub none_up : (o : Option Holder) → LentStands None o → false ≡ is_up_end o
none_up None h = refl
none_up (Some x) h = rw h refl

-- ---- whom an end's mail is for

asked_case : (gone asked : Bool) → unwrap_or (cond gone None (Some asked)) false ≡ cond gone false asked
asked_case true asked = refl
asked_case false asked = refl

pub requested_is : (o : Option Holder) → unwrap_or (requested_at o) false ≡ is_requested o
requested_is None = refl
requested_is (Some h) = asked_case h.gone (is_none h.asked)

dest_case : (gone asked up : Bool) (at : Callsign)
    → cond (asked && up) (cond gone None (Some at)) None ≡ cond (cond gone false asked && cond gone false up) (cond gone None (Some at)) None
dest_case true true true at = refl
dest_case true true false at = refl
dest_case true false up at = refl
dest_case false asked up at = refl

pub dest_is : (o : Option Holder) → dest_of o ≡ cond (is_requested o && is_up_end o) (partner_at o) None
dest_is None = refl
dest_is (Some h) = dest_case h.gone (is_none h.asked) (is_up h.end.phase) h.at

pub dest_when : (o : Option Holder) (asked up : Bool) → asked ≡ is_requested o → up ≡ is_up_end o → cond (asked && up) (partner_at o) None ≡ dest_of o
dest_when o asked up e f =
    ap (λ b. cond (b && up) (partner_at o) None) e ∙ (ap (λ b. cond (is_requested o && b) (partner_at o) None) f ∙ sym (dest_is o))

-- ---- an end of the agent of the node of a number

pub agents_is : (c : Course) (w : World) (number at id : ℕ) (keeps held : Bool) → at ≡ position_or_len (is_member number) c.left.members → Stands c w
    → keeps ≡ is_some (mail_in at w.mails) → held ≡ is_some (facts_at (end_of id (ends_here at w))) → (keeps && held) ≡ is_agents number id w
agents_is c w number at id keeps held place t e f =
    ap (λ b. b && held) e
    ∙ (ap (λ b. is_some (mail_in at w.mails) && b) f
    ∙ ap (λ k. is_some (mail_in k w.mails) && is_some (facts_at (end_of id (ends_here k w)))) (place_is c w number at place t))

-- ---- numbers one after another

pub ids_more : (ids : List ℕ) (n id : ℕ) → Some id ≡ slice_get ids n → take (suc n) ids ≡ take n ids ++ id ∷ []
ids_more [] n id e = absurd (cc)
ids_more (x ∷ ids) zero id e = let same : id ≡ x = cc in ap (λ y. y ∷ []) (sym same)
ids_more (x ∷ ids) (suc n) id e = ap (λ ys. x ∷ ys) (ids_more ids n id e)

pub ids_end : (ids : List ℕ) (n : ℕ) → None ≡ slice_get ids n → take n ids ≡ ids
ids_end [] zero e = refl
ids_end [] (suc n) e = refl
ids_end (x ∷ ids) zero e = absurd (cc)
ids_end (x ∷ ids) (suc n) e = ap (λ ys. x ∷ ys) (ids_end ids n e)
