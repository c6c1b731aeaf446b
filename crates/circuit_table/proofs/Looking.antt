-- What a set tells of its ends, and what a refusal leaves.
use Rattle.std.specs.Prelude.{◌≡◌, ℕ, zero, suc, true, false, nat_eq, List, [], ◌∷◌, slice_get, Option, Some, None, Bool, not, Result, Ok, Err, OnErr, is_none, is_some, refl}
use Rattle.std.specs.Option.{option_map}
use Rattle.std.proofs.Common.{sym, ◌∙◌, ap, subst, inl, inr}
use Rattle.std.specs.Map.{lookup}
use Rattle.ax_address.specs.Callsign.{Callsign}
use Rattle.circuit_l4.specs.declared.facts.EndFacts.{EndFacts}
use Rattle.circuit_l4.specs.declared.pair.Pair.{Pair}
use Rattle.circuit_l4.specs.State.{State}
use Rattle.circuit_l4.specs.Opening.{facts_of}
use Rattle.circuit_l4.specs.Standing.{StandsFor}
use Rattle.circuit_table.specs.declared.holder.Holder.{Holder}
use Rattle.circuit_table.specs.declared.held_ends.HeldEnds.{HeldEnds}
use Rattle.circuit_table.specs.Sets as sets
use Rattle.circuit_table.specs.Sets.{SetState, CircuitTold, end_of}
use Rattle.circuit_table.specs.Pumps.{Waiting, at_rest, after_ticks, ticks, ticks_of}
use Rattle.circuit_table.specs.Standing.{EachStands, HeldStands, Rests, SameNode}
use Rattle.circuit_table.specs.CircuitSets.{Circuits, SetGoes, IsDrained, IsUnchanged, LentStands, SetStands, facts_at, held_by, held_ids, partner_at, requested_at}
use Rattle.circuit_table.proofs.Shown.{FoundAt, Shown, find, ids, keys, miss, shown}
use Rattle.circuit_table.proofs.Owning.{SameOwn, runs_own}

-- ---- an end of a number ----
facts_none : (o : Option sets.Holder) → ((x : sets.Holder) → o ≡ Some x → x.gone ≡ true) → None ≡ facts_at o
facts_none None f = refl
facts_none (Some h) f = simp (f h refl) refl

partner_none : (o : Option sets.Holder) → ((x : sets.Holder) → o ≡ Some x → x.gone ≡ true) → None ≡ partner_at o
partner_none None f = refl
partner_none (Some h) f = simp (f h refl) refl

requested_none : (o : Option sets.Holder) → ((x : sets.Holder) → o ≡ Some x → x.gone ≡ true) → None ≡ requested_at o
requested_none None f = refl
requested_none (Some h) f = simp (f h refl) refl

none_test : (o : Option Pair) (b : Bool) → is_some o ≡ not b → b ≡ is_none o
none_test None true e = refl
none_test None false e = absurd (cc)
none_test (Some p) true e = absurd (cc)
none_test (Some p) false e = refl

lent_none : (o : Option sets.Holder) → ((x : sets.Holder) → o ≡ Some x → x.gone ≡ true) → LentStands None o
lent_none None f = tt
lent_none (Some h) f = f h refl

nth_key : (n : ℕ) (es : List (ℕ × Holder)) → option_map (λ e. e.0) (slice_get es n) ≡ slice_get (keys es) n
nth_key n [] = refl
nth_key zero (e ∷ es) = refl
nth_key (suc n) (e ∷ es) = nth_key n es

facts_some : (o : Option sets.Holder) (h : sets.Holder) → o ≡ Some h → h.gone ≡ false → Some (facts_of h.end) ≡ facts_at o
facts_some o h is e = let at : facts_at (Some h) ≡ Some (facts_of h.end) = simp e refl in sym at ∙ ap facts_at (sym is)

partner_some : (o : Option sets.Holder) (h : sets.Holder) → o ≡ Some h → h.gone ≡ false → Some h.at ≡ partner_at o
partner_some o h is e = let at : partner_at (Some h) ≡ Some h.at = simp e refl in sym at ∙ ap partner_at (sym is)

requested_some : (o : Option sets.Holder) (h : sets.Holder) → o ≡ Some h → h.gone ≡ false → Some (is_none h.asked) ≡ requested_at o
requested_some o h is e = let at : requested_at (Some h) ≡ Some (is_none h.asked) = simp e refl in sym at ∙ ap requested_at (sym is)

module _ {C : Type 0} (c : Circuits C) (w : Waiting) (st : SetStands c w) where
  abbrev own : Callsign
  own = w.set.own

  abbrev ttl : ℕ
  ttl = w.set.ttl

  all : Shown own ttl 0 c.held.ends.entries (held_by w.untold w.set.ends)
  all = shown own ttl w.set.number 0 w.set.ends c.held.ends.entries w.untold st.ends.ends

  module _ (id : ℕ) where
    abbrev it : Option sets.Holder
    it = end_of id (held_by w.untold w.set.ends)

    module _ (missing : lookup (nat_eq id) c.held.ends.entries ≡ None) where
      none : (x : sets.Holder) → it ≡ Some x → x.gone ≡ true
      none = miss own ttl 0 id (held_by w.untold w.set.ends) c.held.ends.entries all missing

      pub no_facts : None ≡ facts_at it
      no_facts = facts_none it none

      pub no_partner : None ≡ partner_at it
      no_partner = partner_none it none

      pub not_requested : None ≡ requested_at it
      not_requested = requested_none it none

      pub no_end : LentStands None it
      no_end = lent_none it none

    module _ (k : Holder) (found : lookup (nat_eq id) c.held.ends.entries ≡ Some k) where
      here : FoundAt own ttl 0 id k (held_by w.untold w.set.ends)
      here = find own ttl 0 id k (held_by w.untold w.set.ends) c.held.ends.entries all found

      pub some_facts : (f : EndFacts) → ((x : State) → StandsFor k.end x → f ≡ facts_of x) → Some f ≡ facts_at it
      some_facts f e = ap Some (e here.h.end here.shows.stands) ∙ facts_some it here.h here.is here.shows.held

      pub some_partner : Some k.at ≡ partner_at it
      some_partner = ap Some (sym here.shows.at) ∙ partner_some it here.h here.is here.shows.held

      pub some_requested : (b : Bool) → is_some k.asked ≡ not b → Some b ≡ requested_at it
      some_requested b e = ap Some (none_test k.asked b e ∙ ap is_none (sym here.shows.asked)) ∙ requested_some it here.h here.is here.shows.held

      pub some_end : LentStands (Some k.end) it
      some_end = subst (λ (o : Option sets.Holder). LentStands (Some k.end) o) (sym here.is) (here.shows.held, here.shows.stands)

  pub nth_held : (n : ℕ) → option_map (λ e. e.0) (slice_get c.held.ends.entries n) ≡ slice_get (held_ids (held_by w.untold w.set.ends)) n
  nth_held n = nth_key n c.held.ends.entries ∙ ap (λ (xs : List ℕ). slice_get xs n) (sym (ids own ttl 0 (held_by w.untold w.set.ends) c.held.ends.entries all))

-- ---- what a refusal leaves ----
rests_same : (es fs : List (ℕ × Holder)) → fs ≡ es → Rests es → Rests fs
rests_same es fs e r = subst (λ (xs : List (ℕ × Holder)). Rests xs) (sym e) r

drained_same : {C : Type 0} (old : Circuits C) (h : HeldEnds) → h.ends.entries ≡ old.held.ends.entries → IsDrained old → IsDrained (record old { held = h })
drained_same old h e (inl spent) = inl spent
drained_same old h e (inr rest) = inr (rests_same old.held.ends.entries h.ends.entries e rest.0, rest.1)

pub unchanged : {C : Type 0} (old : Circuits C) (h : HeldEnds) → SameNode old.held h → h.ends.entries ≡ old.held.ends.entries → IsUnchanged old (record old { held = h })
unchanged old h same e = record {
  router = refl;
  lost = refl;
  spent = refl;
  node = same;
  ends = e;
  stands = λ w st. record {
    ends = record {
      own = st.ends.own ∙ sym same.own;
      user = st.ends.user ∙ sym same.user;
      config = st.ends.config ∙ sym same.config;
      next = st.ends.next ∙ sym same.next;
      number = st.ends.number ∙ sym same.number;
      ends = subst (λ es. EachStands w.set.own w.set.ttl w.set.number 0 es w.set.ends w.untold) (sym e) st.ends.ends;
    };
    own = st.own;
    ttl = st.ttl;
    lost = st.lost;
    unspent = st.unspent;
  };
  drained = drained_same old h e;
}

pub unchanged_on : {C A E : Type 0} (old : Circuits C) (h : HeldEnds) (r : Result A E) → SameNode old.held h → OnErr r (h.ends.entries ≡ old.held.ends.entries) → OnErr r (IsUnchanged old (record old { held = h }))
unchanged_on old h (Ok x) same e = e
unchanged_on old h (Err x) same e = unchanged old h same e

-- ---- a tick ----
pub ticks_goes : {C : Type 0} (old : Circuits C) (h : HeldEnds) (now : ℕ) → ((s : SetState) → HeldStands old.held s [] → HeldStands h (after_ticks now s).set (after_ticks now s).told)
    → SetGoes old (record old { held = h }) (λ s. ticks now (at_rest s))
ticks_goes old h now goes = record {
  stands = λ s st.
      let same : SameOwn s (after_ticks now s).set = runs_own (ticks_of now s.ends) s in
      record { ends = goes s st.ends; own = same.own ∙ st.own; ttl = same.ttl ∙ st.ttl; lost = st.lost; unspent = st.unspent };
  router = refl;
}
