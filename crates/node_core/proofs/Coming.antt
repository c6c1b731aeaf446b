-- A node's circuits go on by inputs, of which its new entries tell: as it is pumped, and with each input of the circuits.
use Rattle.std.proofs.Common.{◌≡◌, ◌∙◌, ℕ, zero, suc, refl, sym, ap, subst, List, [], ◌∷◌, ◌++◌, append_assoc, append-nil}
use Rattle.std.specs.Prelude.{Bool, true, false, if◌then◌else◌, nat_lt, Option, Some, None}
use Rattle.ax_address.specs.Callsign.{Callsign}
use Rattle.circuit_table.specs.Pumps.{OfEach, of_circuits, SetTold, Turn, Turned, Says, Offers, Waiting}
use Rattle.circuit_table.specs.Sets.{Act, CircuitTold}
use Rattle.l3_datagram.specs.Datagrams.{Parcel}
use Rattle.link_table.specs.Calls.{collect, tell_lost}
use Rattle.node_model.specs.Links as links
use Rattle.node_model.specs.Pumping as p
use Rattle.node_core.specs.Runs.{circuits_told, write_in}
use Rattle.node_model.specs.States.{Entry, Of_set, Of_link, Overflow, State, at_links, at_set, next_hop}
use Rattle.node_core.proofs.Inputs.{IsInput, Went, TurnWent, act_went, goes_on, hears_went, lost_went, retold, stays, tells_went}
use Rattle.node_model.proofs.Telling.{told_kept}

-- From one state to another: the entries became more, and the circuits went on by inputs, of which the new entries tell, and which write this.
pub record Came (written : List Act) (old new : State) : Type 0 where
  pub more : List Entry
  pub grew : new.entries ≡ old.entries ++ more
  pub went : Went written old.set new.set (circuits_told more)
  pub settings : new.settings ≡ old.settings

pub told_of_both : (xs ys : List Entry) → circuits_told (xs ++ ys) ≡ circuits_told xs ++ circuits_told ys
told_of_both [] ys = refl
told_of_both (Of_set t ∷ xs) ys =
    ap (λ (ts : List CircuitTold). of_circuits (Some t) ++ ts) (told_of_both xs ys) ∙ sym (append_assoc (of_circuits (Some t)) (circuits_told xs) (circuits_told ys))
told_of_both (Of_link peer notice ∷ xs) ys = told_of_both xs ys
told_of_both (Overflow live would_be ∷ xs) ys = told_of_both xs ys

pub still : (n : State) → Came [] n n
still n = record { more = []; grew = sym (append-nil n.entries); went = stays n.set; settings = refl }

pub then_came : (ws vs : List Act) (a b c : State) → Came ws a b → Came vs b c → Came (ws ++ vs) a c
then_came ws vs a b c g h = record {
  more = g.more ++ h.more;
  grew = h.grew ∙ (ap (λ (es : List Entry). es ++ h.more) g.grew ∙ append_assoc a.entries g.more h.more);
  went = retold (ws ++ vs) a.set c.set (circuits_told g.more ++ circuits_told h.more) (circuits_told (g.more ++ h.more)) (sym (told_of_both g.more h.more)) (goes_on ws vs a.set b.set c.set (circuits_told g.more) (circuits_told h.more) g.went h.went);
  settings = h.settings ∙ g.settings;
}

-- ---- the pumping

pub told_entry : (o : Option SetTold) → circuits_told (p.told_entries o) ≡ of_circuits o
told_entry None = refl
told_entry (Some t) = append-nil (of_circuits (Some t))

-- only its links and its log may differ
turned_came : (n m : State) (t : Turned) → m.set ≡ n.set → m.entries ≡ n.entries → m.settings ≡ n.settings → TurnWent n.set t → Came [] n (p.with_turned t m)
turned_came n m t e f g went = record {
  more = p.told_entries t.told;
  grew = ap (λ (es : List Entry). es ++ p.told_entries t.told) f;
  went = retold [] n.set t.after (of_circuits t.told) (circuits_told (p.told_entries t.told)) (sym (told_entry t.told)) went;
  settings = g;
}

take_came : (now : ℕ) (n m : State) (t : Turn) → m.set ≡ n.set → m.entries ≡ n.entries → m.settings ≡ n.settings → OfEach (TurnWent n.set) t → Came [] n (p.take_turn now t m)
take_came now n m (Says t) e f g each = turned_came n m t e f g each
take_came now n m (Offers to d by) e f g each =
    turned_came n (at_links (links.offer to d now) m) (by (links.offer_answer to d now m.links)) e f g (each (links.offer_answer to d now m.links))

tell_came : (now : ℕ) (o n : State) (b : Bool) → Came [] o n → Came [] o (if b then p.tell_one now n else n)
tell_came now o n true w = then_came [] [] o n (p.tell_one now n) w (take_came now n n (links.tells (next_hop n) n.set) refl refl refl (tells_went (next_hop n) n.set))
tell_came now o n false w = w

pub all_told_came : (now : ℕ) (n : State) → Came [] n (p.tell_all now n)
all_told_came now n = told_kept now (Came [] n) (λ m w. tell_came now n m (nat_lt 0 (p.pending m)) w) n (still n)

asked_came : (now : ℕ) (n : State) (lost : List Callsign) (waiting : List Parcel) → Came [] n (p.ask_for now lost waiting n)
asked_came now n (c ∷ cs) waiting = turned_came n (at_links tell_lost n) (links.hears_lost c n.set) refl refl refl (lost_went c n.set)
asked_came now n [] (parcel ∷ parcels) =
    take_came now n (at_links collect n) (links.hears (next_hop n) now parcel n.set) refl refl refl (hears_went (next_hop n) now parcel n.set)
asked_came now n [] [] = still n

times_came : (now k : ℕ) (n : State) → Came [] n (p.ask_times now k n)
times_came now zero n = still n
times_came now (suc k) n =
    let a : State = p.ask now n in
    let b : State = p.tell_all now a in
    let one : Came [] n a = asked_came now n n.links.pending.lost n.links.pending.waiting in
    then_came [] [] n b (p.ask_times now k b) (then_came [] [] n a b one (all_told_came now a)) (times_came now k b)

pub pumped_came : (now : ℕ) (n : State) → Came [] n (p.pump now n)
unfolding p.pump
pumped_came now n = then_came [] [] n (p.tell_all now n) _ (all_told_came now n) (times_came now (p.at_router n) (p.tell_all now n))

pub same_came : (n m : State) → m.set ≡ n.set → m.entries ≡ n.entries → m.settings ≡ n.settings → Came [] n m
same_came n m e f g = record { more = []; grew = f ∙ sym (append-nil n.entries); went = subst (λ (w : Waiting). Went [] n.set w []) (sym e) (stays n.set); settings = g }

pub either : (n x y : State) (b : Bool) → Came [] n x → Came [] n y → Came [] n (if b then x else y)
either n x y true f g = f
either n x y false f g = g

pub act_came : (a : Act) (n : State) → IsInput a → Came (write_in a) n (at_set (links.acts a) n)
act_came a n i = record { more = []; grew = sym (append-nil n.entries); went = act_went a n.set i; settings = refl }
