-- What is taken of a place.
use Rattle.std.proofs.Common.{◌≡◌, ◌∙◌, ℕ, refl, sym, ap, arith, List, [], ◌∷◌, length}
use Rattle.std.specs.Prelude.{Bool, true, false, ◌||◌, is_some, nat_lt, unwrap_or, slice_get, if◌then◌else◌, Option, Some, None, Result, Ok, Err}
use Rattle.std.specs.List.{list_any}
use Rattle.std.proofs.lemmas.Bool.Decides.{nat_tests}
use Rattle.ax_address.specs.Callsign.{Callsign, same_call}
use Rattle.circuit_l4.specs.Halves.{first_or}
use Rattle.circuit_l4.specs.State.{inbox}
use Rattle.circuit_table.specs.Sets.{Holder}
use Rattle.circuit_table.specs.Standing.{message_at, take_answer}
use Rattle.circuit_table.specs.declared.refusal.NoEnd.{NoEnd}
use Rattle.link_table.specs.Table.{Linked, Table, link_with}
use Rattle.link_table.specs.Texts as texts
use Rattle.node_core.specs.Acts as acts
use Rattle.node_core.specs.Acts.{Answered, Take, TakeText, UserAct}
use Rattle.node_core.specs.Inputs.{moment}
use Rattle.node_core.specs.declared.acts.ActRefusal.TheVariants as refusal
use Rattle.node_model.specs.Links as circuits
use Rattle.node_model.specs.States.{NodeState, State}
use Rattle.node_model.specs.Users.{end_at, has_taken}
use Rattle.radio_base.specs.declared.moment.Moment.{Moment}
use Rattle.station_members.specs.Nodes.{answer_of}
use Rattle.station_places.specs.Ends as ends
use Rattle.station_places.specs.Laws.{IsHost, TakesFirst, TakesWhatWaits, first_of, first_text}
use Rattle.station_places.specs.Links as links
use Rattle.station_places.specs.Looks.{has_text}
use Rattle.station_places.specs.Sides.{SidesState, node_at}
use Rattle.station_places.specs.Taking.{taken, text_in}
use Rattle.station_sessions.specs.declared.place.Place.{Place}
use Rattle.station_sessions.specs.declared.place.Place.TheVariants.{End, Link, Console}
use Rattle.station_places.proofs.Asking.{answered_at, unless_kept, where_hosted}

-- ---- an end

first_message : (ms : List (List ℕ)) → text_in (acts.answer_to_take (Ok (nat_lt 0 (length ms))) (first_or [] ms)) ≡ slice_get ms 0
first_message [] = refl
first_message (m ∷ ms) = let some : nat_lt 0 (length (m ∷ ms)) ≡ true = grind (arith, nat_tests) in rw some refl

-- what an end answers
first_at : (o : Option Holder) → text_in (acts.answer_to_take (take_answer o) (message_at [] o)) ≡ first_of o
first_at None = refl
first_at (Some h) = by h.gone
  where
    by : (b : Bool) → text_in (acts.answer_to_take (if b then Err (record {}) else Ok (nat_lt 0 (length (inbox h.end.receiving)))) (if b then [] else first_or [] (inbox h.end.receiving)))
        ≡ (if b then None else slice_get (inbox h.end.receiving) 0)
    by true = refl
    by false = first_message (inbox h.end.receiving)

none_at : (r : Result Bool NoEnd) (message : List ℕ) → has_taken r ≡ false → text_in (acts.answer_to_take r message) ≡ None
none_at (Ok true) message e = absurd (cc e)
none_at (Ok false) message e = refl
none_at (Err why) message e = refl

-- ---- a link

text_given : (o : Option (List ℕ)) → text_in (acts.answer_to_take_text (is_some o) (unwrap_or o [])) ≡ o
text_given None = refl
text_given (Some text) = refl

link_text : (peer : Callsign) (t : Table) → text_in (acts.answer_to_take_text (circuits.has_text peer t) (circuits.text_with peer t)) ≡ texts.text_with peer t
unfolding circuits.has_text circuits.text_with
link_text peer t = text_given (texts.text_with peer t)

abbrev text_by : Option Linked → Option (List ℕ)
text_by o = elim o as (λ x. Option (List ℕ)) [ None ↦ None | Some l ↦ texts.text_at l ]

-- a link at which a text waits is among those at which one waits
listed : (peer : Callsign) (ls : List Linked) → list_any (same_call peer) (texts.text_peers ls) ≡ false → text_by (link_with peer ls) ≡ None
listed peer [] e = refl
listed peer (l ∷ ls) e = by (same_call peer l.peer) (texts.text_at l) refl refl (λ h. listed peer ls h) e
  where
    by : (b : Bool) (o : Option (List ℕ)) → same_call peer l.peer ≡ b → texts.text_at l ≡ o
        → (list_any (same_call peer) (texts.text_peers ls) ≡ false → text_by (link_with peer ls) ≡ None)
        → list_any (same_call peer) (if is_some o then l.peer ∷ texts.text_peers ls else texts.text_peers ls) ≡ false
        → text_by (if b then Some l else link_with peer ls) ≡ None
    by true None f g rest h = g
    by true (Some text) f g rest h = absurd (cc (sym h ∙ ap (λ b. b || list_any (same_call peer) (texts.text_peers ls)) f))
    by false None f g rest h = rest h
    by false (Some text) f g rest h = rest (ap (λ b. b || list_any (same_call peer) (texts.text_peers ls)) (sym f) ∙ h)

-- ---- the laws

pub takes_first : TakesFirst
takes_first (End member id) now s n here host =
    ap text_in (answered_at now member (Take id) s n here ∙ ap (λ (a : Answered). a.answer) (unless_kept id (acts.take (moment now.0) id n.station) n host))
    ∙ first_at (end_at id n.station)
takes_first (Link member peer) now s n here host =
    ap text_in (answered_at now member (TakeText peer) s n here ∙ ap (λ (a : Answered). a.answer) (where_hosted (acts.take_text (moment now.0) peer n.station) n host))
    ∙ link_text peer n.station.links
takes_first (Console console) now s n here host = absurd (cc here)

unless : (b : Bool) (a : Answered) (n : State) → text_in a.answer ≡ None → text_in (if b then acts.refuse refusal.Served n else a).answer ≡ None
unless true a n e = refl
unless false a n e = e

where_so : (b : Bool) (a : Answered) (n : State) → text_in a.answer ≡ None → text_in (if b then a else acts.refuse refusal.Served n).answer ≡ None
where_so true a n e = e
where_so false a n e = refl

end_by : (now : Moment) (id : ℕ) (o : Option NodeState) → ends.has_message id o ≡ false → text_in (answer_of now.0 (Take id) o) ≡ None
end_by now id None e = refl
end_by now id (Some n) e =
    unless (acts.is_kept id n.station) (acts.take (moment now.0) id n.station) n.station
    (none_at (take_answer (end_at id n.station)) (message_at [] (end_at id n.station)) e)

link_by : (now : Moment) (peer : Callsign) (o : Option NodeState) → links.has_text peer o ≡ false → text_in (answer_of now.0 (TakeText peer) o) ≡ None
link_by now peer None e = refl
link_by now peer (Some n) e =
    where_so n.station.settings.hosts (acts.take_text (moment now.0) peer n.station) n.station
    (link_text peer n.station.links ∙ listed peer n.station.links.links e)

pub takes_what_waits : TakesWhatWaits
takes_what_waits (End member id) now s e = end_by now id (node_at member s) e
takes_what_waits (Link member peer) now s e = link_by now peer (node_at member s) e
takes_what_waits (Console console) now s e = refl
