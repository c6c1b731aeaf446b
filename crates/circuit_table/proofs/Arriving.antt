-- A transport that is handed to an end is a step of the machine of ends.
use Rattle.std.specs.Prelude.{◌≡◌, ℕ, Bool, true, false, nat_eq, if◌then◌else◌, List, [], ◌∷◌, Option, Some, None, refl}
use Rattle.std.proofs.Common.{sym, ◌∙◌, ap, subst}
use Rattle.std.specs.Map.{lookup}
use Rattle.ax_address.specs.Callsign.{Callsign}
use Rattle.arrayvec.specs.ArrayVec.{ArrayVec}
use Rattle.circuit_l4.specs.declared.pair.Pair.{Pair}
use Rattle.circuit_l4.specs.declared.transport.Transport.{Transport}
use Rattle.circuit_l4.specs.State.{State}
use Rattle.circuit_l4.specs.Standing.{StandsFor}
use Rattle.circuit_l4.specs.Table.{Arrive, step}
use Rattle.circuit_table.specs.declared.event.SetEvent.TheVariants as event
use Rattle.circuit_table.specs.declared.holder.Holder.{Holder}
use Rattle.circuit_table.specs.declared.untold.Untold.{Untold}
use Rattle.circuit_table.specs.declared.untold.Untold.TheVariants as untold
use Rattle.circuit_table.specs.declared.held_ends.HeldEnds.{HeldEnds}
use Rattle.circuit_table.specs.Sets.{heeds, SetDone, SetState, CircuitTold, arrives_at, end_of, first_open, goes_to, hands_to, named_by}
use Rattle.circuit_table.specs.Sets as sets
use Rattle.circuit_table.specs.Standing.{FirstFit, Gives, Hands, HeldStands, SameNode, capped_count, of_holder}
use Rattle.circuit_table.proofs.Names.{arrival_same}
use Rattle.circuit_table.proofs.Taken.{taken_same}
use Rattle.circuit_table.proofs.Meeting.{asked_step}
use Rattle.circuit_table.proofs.Holding.{stood}
use Rattle.circuit_table.proofs.Moving.{Found, find, missing_at}
use Rattle.circuit_table.proofs.Searching.{Fitting, fitting, unfitting}

module _ (c c2 : HeldEnds) (id : ℕ) (t : Transport) (now : ℕ) (b : Bool) (same : SameNode c c2) (s : SetState) (st : HeldStands c s []) (h : sets.Holder)
    (is : end_of id s.ends ≡ Some h) (held : h.gone ≡ false) where
  abbrev moved : SetDone
  moved = goes_to s h [] (step h.end (Arrive t) now)

  pub record Handed : Type 0 where
    pub hears : b ≡ heeds h.end.phase t
    pub stands : HeldStands c2 moved.set moved.told

  hand_some : (k : Holder) → lookup (nat_eq id) c.ends.entries ≡ Some k → Hands id (Some k) t now b c.ends.entries c2.ends.entries → Handed
  hand_some k found (e2, hears, does, left, few) =
      let f : Found c c2 id k e2 k.taken same found left s st = find c c2 id k e2 k.taken same found left s st in
      let x : State = f.g.end in
      let w : sets.Holder = of_holder id k f.g in
      let z : Some h ≡ Some w = sym is ∙ f.is in
      let e : w ≡ h = cc z in
      let stands : StandsFor k.end x = stood k.end f.g f.stands in
      let done : HeldStands c2 (goes_to s w [] (step x (Arrive t) now)).set (goes_to s w [] (step x (Arrive t) now)).told =
      f.to (step x (Arrive t) now) (does x stands) ((arrival_same x t now).pair ∙ f.pair) (f.taken ∙ ap capped_count (sym (taken_same x (Arrive t) now tt))) (asked_step k.asked x (Arrive t) now f.met) in
      record {
        hears = hears x stands ∙ ap (λ (y : sets.Holder). heeds y.end.phase t) e;
        stands = subst (λ (y : sets.Holder). HeldStands c2 (goes_to s y [] (step y.end (Arrive t) now)).set (goes_to s y [] (step y.end (Arrive t) now)).told) e done;
      }

  hand_case : (o : Option Holder) → lookup (nat_eq id) c.ends.entries ≡ o → Hands id o t now b c.ends.entries c2.ends.entries → Handed
  hand_case None found x = let gone : true ≡ false = sym (missing_at c id found s st h is) ∙ held in absurd (cc gone)
  hand_case (Some k) found x = hand_some k found x

  pub hand_goes : Hands id (lookup (nat_eq id) c.ends.entries) t now b c.ends.entries c2.ends.entries → Handed
  hand_goes x = hand_case (lookup (nat_eq id) c.ends.entries) refl x

  module _ (d : ArrayVec ℕ) (number : h.id ≡ id) (hands : Hands id (lookup (nat_eq id) c.ends.entries) t now b c.ends.entries c2.ends.entries) where
    heard_case : (v : Bool) → v ≡ true → Gives (goes_to s h (if v then sets.Heeded h.id d.items ∷ [] else []) (step h.end (Arrive t) now)) (Some (untold.Event (event.Heeded id d))) c2
    heard_case true e = (sets.Heeded h.id d.items, moved.told, refl, ap (λ n. Some (sets.Heeded n d.items)) (sym number), (hand_goes hands).stands)
    heard_case false e = absurd (cc e)

    pub gives_heard : b ≡ true → Gives (hands_to s h d.items t now) (Some (untold.Event (event.Heeded id d))) c2
    gives_heard e = heard_case (heeds h.end.phase t) (sym (hand_goes hands).hears ∙ e)

    unheard_case : (v : Bool) → v ≡ false → (r : Option Untold) (c3 : HeldEnds) → Gives moved r c3
        → Gives (goes_to s h (if v then sets.Heeded h.id d.items ∷ [] else []) (step h.end (Arrive t) now)) r c3
    unheard_case true e r c3 g = absurd (cc e)
    unheard_case false e r c3 g = g

    pub gives_unheard : b ≡ false → (r : Option Untold) (c3 : HeldEnds) → ((s2 : SetState) (told : List CircuitTold) → HeldStands c2 s2 told → Gives (record { set = s2; told = told }) r c3) → Gives (hands_to s h d.items t now) r c3
    gives_unheard e r c3 next = unheard_case (heeds h.end.phase t) (sym (hand_goes hands).hears ∙ e) r c3 (next moved.set moved.told (hand_goes hands).stands)

-- what no open end is named by gives nothing
pub arrives_none : (c : HeldEnds) (s : SetState) (origin : Callsign) (d : List ℕ) (to : Pair) (t : Transport) (now : ℕ) → HeldStands c s [] → FirstFit (named_by origin to) None c.ends.entries
    → Gives (arrives_at s origin d to t now) None c
arrives_none c s origin d to t now st f =
    let none : first_open (named_by origin to) s.ends ≡ None = unfitting s.own s.ttl (named_by origin to) s.number 0 c.ends.entries s.ends [] st.ends f in
    none_case c s d t now st (first_open (named_by origin to) s.ends) none
  where
    none_case : (c : HeldEnds) (s : SetState) (d : List ℕ) (t : Transport) (now : ℕ) → HeldStands c s [] → (o : Option sets.Holder) → o ≡ None
        → Gives (elim o as (λ x. SetDone) [ Some h ↦ hands_to s h d t now | None ↦ sets.does_nothing s ]) None c
    none_case c s d t now st None e = (refl, st)
    none_case c s d t now st (Some h) e = absurd (cc e)

pub arrives_some : (c c2 : HeldEnds) (s : SetState) (origin : Callsign) (d : List ℕ) (to : Pair) (t : Transport) (now id : ℕ) (r : Option Untold) → HeldStands c s [] → FirstFit (named_by origin to) (Some id) c.ends.entries
    → ((h : sets.Holder) → end_of id s.ends ≡ Some h → h.gone ≡ false → h.id ≡ id → Gives (hands_to s h d t now) r c2) → Gives (arrives_at s origin d to t now) r c2
arrives_some c c2 s origin d to t now id r st f gives =
    let x : Fitting s.own s.ttl (named_by origin to) 0 id s.ends = fitting s.own s.ttl (named_by origin to) s.number 0 id c.ends.entries s.ends [] st.ends f in
    some_case (first_open (named_by origin to) s.ends) x.h x.first (gives x.h x.end x.held x.number)
  where
    some_case : (o : Option sets.Holder) (h : sets.Holder) → o ≡ Some h → Gives (hands_to s h d t now) r c2
        → Gives (elim o as (λ x. SetDone) [ Some h ↦ hands_to s h d t now | None ↦ sets.does_nothing s ]) r c2
    some_case None h e g = absurd (cc e)
    some_case (Some y) h e g = let same : h ≡ y = cc (sym e) in subst (λ (y : sets.Holder). Gives (hands_to s y d t now) r c2) same g
