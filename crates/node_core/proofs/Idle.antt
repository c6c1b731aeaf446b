-- Circuits of which nothing is untold: no output and no notice waits at them, and a take of which nothing comes changes nothing.
use Rattle.std.proofs.Common.{◌≡◌, ◌<◌, ◌∙◌, ◌++◌, inl, inr, ℕ, suc, refl, sym, ap, subst, arith, List, [], ◌∷◌, length}
use Rattle.std.specs.Prelude.{Bool, true, false, ◌||◌, nat_eq, nat_lt, if◌then◌else◌, Option, Some, None, Ok, Err}
use Rattle.std.specs.Option.{option_to_list}
use Rattle.std.proofs.lemmas.Bool.Decides.{nat_tests}
use Rattle.ax_address.specs.Callsign.{Callsign}
use Rattle.circuit_l4.specs.Standing as ends
use Rattle.circuit_l4.specs.Opening.{facts_of}
use Rattle.circuit_l4.specs.State.{Effect, begin, inbox}
use Rattle.circuit_l4.specs.Table.{take_first}
use Rattle.circuit_l4.specs.declared.notice.EndNotice.{EndNotice}
use Rattle.circuit_table.specs.CircuitSets as sets
use Rattle.circuit_table.specs.CircuitSets.{Circuits, SetStands}
use Rattle.circuit_table.specs.Pumps.{at_rest}
use Rattle.circuit_table.specs.Sets as s
use Rattle.circuit_table.specs.Sets.{SetDone, SetState, CircuitTold}
use Rattle.circuit_table.specs.Standing.{EachStands, Keeps, Rests, if_so, sendings_by, take_answer, untold_of}
use Rattle.circuit_table.specs.declared.holder.Holder.{Holder}
use Rattle.circuit_table.proofs.Moving.{no_notes, no_outs}
use Rattle.circuit_table.proofs.Ticking.{Rising}
use Rattle.link_table.specs.Standing.{TableView as Kept}
use Rattle.node_model.specs.Links as circuits
use Rattle.node_core.specs.Going.{SetHoldsTold}
use Rattle.node_model.specs.States.{State}
use Rattle.node_model.specs.Users.{has_taken}

-- ---- nothing waits at an end

pub left_none : {A : Type 0} (xs ys : List A) → xs ++ ys ≡ [] → xs ≡ []
left_none [] ys e = refl
left_none (x ∷ xs) ys e = absurd (cc e)

pub right_none : {A : Type 0} (xs ys : List A) → xs ++ ys ≡ [] → ys ≡ []
right_none [] ys e = e
right_none (x ∷ xs) ys e = absurd (cc e)

no_notice : (o : Option EndNotice) → option_to_list o ≡ [] → o ≡ None
no_notice None e = refl
no_notice (Some n) e = absurd (cc e)

end_drained : (own : Callsign) (ttl id : ℕ) (k : Holder) (h : s.Holder) (told : List CircuitTold) → told ≡ [] → Keeps own ttl id k h told → ends.IsDrained k.end
end_drained own ttl id k h told e p =
    let g = p.going in
    let all : untold_of own ttl id k g ≡ [] = sym p.untold ∙ e in
    let made = if_so k.unannounced (s.Made id k.pair k.at None) in
    let sents = sendings_by own ttl id k.at g.outs in
    let front = left_none (made ++ sents ++ s.notices id g.notes) (if_so (k.discarded || s.is_over g.end) (s.Gone id (facts_of g.end))) all in
    let outs : g.outs ≡ [] = no_outs own ttl id k.at g.outs (right_none made sents (left_none (made ++ sents) (s.notices id g.notes) front)) in
    let notes : g.notes ≡ [] = no_notes id g.notes (right_none (made ++ sents) (s.notices id g.notes) front) in
    record {
      outs = sym (ap (λ (x : Effect). x.outs) p.stands.is) ∙ outs;
      notice = no_notice k.end.notice (sym (ap (λ (x : Effect). x.notes) p.stands.is) ∙ notes);
    }

rests_by : (own : Callsign) (ttl hi lo : ℕ) (es : List (ℕ × Holder)) (hs : List s.Holder) (told : List CircuitTold) → told ≡ [] → EachStands own ttl hi lo es hs told → Rests es
rests_by own ttl hi lo es [] told e p = subst Rests (sym p.0) tt
rests_by own ttl hi lo es (h ∷ hs) told e (low, inl past) = rests_by own ttl hi (suc h.id) es hs told e past.others
rests_by own ttl hi lo es (h ∷ hs) told e (low, inr here) =
    let both : here.mine ++ here.theirs ≡ [] = sym here.both ∙ e in
    let first = end_drained own ttl h.id here.k h here.mine (left_none here.mine here.theirs both) here.keeps in
    let others = rests_by own ttl hi (suc h.id) here.rest hs here.theirs (right_none here.mine here.theirs both) here.others in
    subst Rests (sym here.is) (first, others)

pub told_is_drained : (c : Circuits Kept) (n : State) → SetHoldsTold c n → sets.IsDrained c
told_is_drained c n t =
    let p : SetStands c (at_rest n.set.set) = subst (SetStands c) t.1 t.0 in
    inr (rests_by n.set.set.own n.set.set.ttl n.set.set.number 0 c.held.ends.entries n.set.set.ends [] refl p.ends.ends, sym p.lost)

-- ---- an end that comes to itself

pub rising : (own : Callsign) (ttl hi lo : ℕ) (es : List (ℕ × Holder)) (hs : List s.Holder) (told : List CircuitTold) → EachStands own ttl hi lo es hs told → Rising lo hs
rising own ttl hi lo es [] told p = tt
rising own ttl hi lo es (h ∷ hs) told (low, inl past) = (low, rising own ttl hi (suc h.id) es hs told past.others)
rising own ttl hi lo es (h ∷ hs) told (low, inr here) = (low, rising own ttl hi (suc h.id) here.rest hs here.theirs here.others)

with_above : (h : s.Holder) (lo : ℕ) (hs : List s.Holder) → h.id < lo → Rising lo hs → s.with_end h hs ≡ hs
with_above h lo [] e p = refl
with_above h lo (x ∷ xs) e (low, more) =
    let other : nat_eq x.id h.id ≡ false = grind (arith, nat_tests, e, low) in
    rw (other, with_above h (suc x.id) xs (omega (arith, e, low)) more) refl

is_found : (id : ℕ) (hs : List s.Holder) (h : s.Holder) → s.end_of id hs ≡ Some h → h.id ≡ id
is_found id [] h e = absurd (cc e)
is_found id (x ∷ xs) h e = by (nat_eq x.id id) refl e (is_found id xs h)
  where
    by : (b : Bool) → nat_eq x.id id ≡ b → (if b then Some x else s.end_of id xs) ≡ Some h → (s.end_of id xs ≡ Some h → h.id ≡ id) → h.id ≡ id
    by true t f rest = let same : x ≡ h = cc f in subst (λ (k : s.Holder). k.id ≡ id) same (grind (arith, nat_tests, t))
    by false t f rest = rest f

head_same : (h : s.Holder) (b : Bool) → (if b then h else h) ≡ h
head_same h true = refl
head_same h false = refl

with_found : (id lo : ℕ) (hs : List s.Holder) (h : s.Holder) → Rising lo hs → s.end_of id hs ≡ Some h → s.with_end h hs ≡ hs
with_found id lo [] h p e = refl
with_found id lo (x ∷ xs) h (low, more) e = by (nat_eq x.id id) refl e (with_found id (suc x.id) xs h more)
  where
    by : (b : Bool) → nat_eq x.id id ≡ b → (if b then Some x else s.end_of id xs) ≡ Some h → (s.end_of id xs ≡ Some h → s.with_end h xs ≡ xs) → s.with_end h (x ∷ xs) ≡ x ∷ xs
    by true t f later =
        let same : x ≡ h = cc f in
        let rest : s.with_end h xs ≡ xs = with_above h (suc x.id) xs (rw same (omega arith)) more in
        rw rest (subst (λ (k : s.Holder). (if nat_eq x.id k.id then k else x) ∷ xs ≡ x ∷ xs) same (rw (head_same x (nat_eq x.id x.id)) refl))
    by false t f later =
        let number = is_found id xs h f in
        let other : nat_eq x.id h.id ≡ false = rw number t in
        rw (other, later f) refl

or_false : (a b : Bool) → (a || b) ≡ false → b ≡ false
or_false true b e = absurd (cc e)
or_false false b e = e

not_over : (own : Callsign) (ttl hi lo id : ℕ) (es : List (ℕ × Holder)) (hs : List s.Holder) (told : List CircuitTold) (h : s.Holder) → EachStands own ttl hi lo es hs told
    → s.end_of id hs ≡ Some h → h.gone ≡ false → s.is_over h.end ≡ false
not_over own ttl hi lo id es [] told h p e f = absurd (cc e)
not_over own ttl hi lo id es (x ∷ xs) told h (low, inl past) e f = by (nat_eq x.id id) e (λ g. not_over own ttl hi (suc x.id) id es xs told h past.others g f)
  where
    by : (b : Bool) → (if b then Some x else s.end_of id xs) ≡ Some h → (s.end_of id xs ≡ Some h → s.is_over h.end ≡ false) → s.is_over h.end ≡ false
    by true g rest = let same : x ≡ h = cc g in absurd (cc (subst (λ (k : s.Holder). k.gone ≡ true) same past.gone, f))
    by false g rest = rest g
not_over own ttl hi lo id es (x ∷ xs) told h (low, inr here) e f = by (nat_eq x.id id) e (λ g. not_over own ttl hi (suc x.id) id here.rest xs here.theirs h here.others g f)
  where
    by : (b : Bool) → (if b then Some x else s.end_of id xs) ≡ Some h → (s.end_of id xs ≡ Some h → s.is_over h.end ≡ false) → s.is_over h.end ≡ false
    by true g rest =
        let same : x ≡ h = cc g in
        let is = sym same ∙ here.keeps.is in
        let gone : (here.k.discarded || s.is_over here.keeps.going.end) ≡ false = sym (ap (λ (k : s.Holder). k.gone) is) ∙ f in
        ap (λ (k : s.Holder). s.is_over k.end) is ∙ or_false here.k.discarded (s.is_over here.keeps.going.end) gone
    by false g rest = rest g

-- what comes of a take of which nothing comes
Itself : SetState → SetDone → Type 0
Itself set d = (d.set ≡ set) × (d.told ≡ [])

comes_to_itself : (set : SetState) (h : s.Holder) → h.gone ≡ false → s.is_over h.end ≡ false → s.with_end h set.ends ≡ set.ends → Itself set (s.goes_to set h [] (begin h.end))
unfolding Itself
comes_to_itself set h gone over same =
    let itself : s.after_effect h (begin h.end) ≡ h = ap (λ (b : Bool). (let k : s.Holder = record { id = h.id; at = h.at; asked = h.asked; end = h.end; gone = b } in k)) (over ∙ sym gone) in (
      ap (λ (xs : List s.Holder). (let k : SetState = record set { ends = xs } in k)) (ap (λ (k : s.Holder). s.with_end k set.ends) itself ∙ same),
      ap (λ (b : Bool). if b then s.Gone h.id (facts_of h.end) ∷ [] else []) over,
    )

takes_itself : (now id : ℕ) (set : SetState) (es : List (ℕ × Holder)) (h : s.Holder) → EachStands set.own set.ttl set.number 0 es set.ends [] → s.end_of id set.ends ≡ Some h
    → (b : Bool) → h.gone ≡ b → has_taken (if b then Err (record {}) else Ok (nat_lt 0 (length (inbox h.end.receiving)))) ≡ false
    → Itself set (if b then s.does_nothing set else s.goes_to set h [] (take_first (begin h.end)))
unfolding Itself
takes_itself now id set es h p e true gone f = (refl, refl)
takes_itself now id set es h p e false gone f =
    let none : take_first (begin h.end) ≡ begin h.end = rw f refl in
    rw none (comes_to_itself set h gone (not_over set.own set.ttl set.number 0 id es set.ends [] h p e gone) (with_found id 0 set.ends h (rising set.own set.ttl set.number 0 es set.ends [] p) e))

called_itself : (now id : ℕ) (set : SetState) (es : List (ℕ × Holder)) → EachStands set.own set.ttl set.number 0 es set.ends [] → (o : Option s.Holder) → s.end_of id set.ends ≡ o
    → has_taken (take_answer o) ≡ false → Itself set (s.after_call set o s.Takes now)
unfolding Itself
called_itself now id set es p None e f = (refl, refl)
called_itself now id set es p (Some h) e f = takes_itself now id set es h p e h.gone refl f

pub take_nothing : (c : Circuits Kept) (set : SetState) (id now : ℕ) → SetStands c (at_rest set) → has_taken (take_answer (s.end_of id set.ends)) ≡ false
    → circuits.acts (s.Calls id s.Takes now) (at_rest set) ≡ at_rest set
unfolding circuits.acts Itself
take_nothing c set id now p f =
    let x : Itself set (s.after_call set (s.end_of id set.ends) s.Takes now) = called_itself now id set c.held.ends.entries p.ends.ends (s.end_of id set.ends) refl f in
    rw (x.0, x.1) refl
