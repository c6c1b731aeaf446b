-- A call of one end is a step of the machine of ends.
use Rattle.std.specs.Prelude.{◌≡◌, ℕ, Bool, true, false, ◌||◌, nat_eq, if◌then◌else◌, List, [], ◌∷◌, ◌++◌, length, nat_lt, Result, Ok, Err, Option, Some, None, refl}
use Rattle.std.proofs.Common.{sym, ◌∙◌, ap, subst, cond}
use Rattle.std.proofs.lemmas.List.{append-nil}
use Rattle.std.specs.Map.{lookup, set_value}
use Rattle.std.proofs.lemmas.Bool.{or_parts}
use Rattle.ax_address.specs.Callsign.{Callsign}
use Rattle.circuit_l4.specs.State.{Effect, Out, State, inbox}
use Rattle.circuit_l4.specs.Standing.{IsDrained, EndView, Stands, StandsFor}
use Rattle.circuit_l4.specs.Table.{step}
use Rattle.circuit_l4.specs.Opening.{facts_of}
use Rattle.circuit_l4.specs.Table as end
use Rattle.circuit_l4.specs.Halves.{first_or}
use Rattle.circuit_l4.specs.declared.notice.EndNotice.{EndNotice}
use Rattle.circuit_l4.specs.declared.refusal.WriteRefusal.{WriteRefusal}
use Rattle.circuit_table.specs.declared.refusal.SetRefusal.TheVariants as set_refusal
use Rattle.circuit_table.specs.declared.refusal.DiscardRefusal.TheVariants as discard_refusal
use Rattle.circuit_table.specs.declared.holder.Holder.{Holder}
use Rattle.circuit_table.specs.declared.held_ends.HeldEnds.{HeldEnds}
use Rattle.circuit_table.specs.Sets as sets
use Rattle.circuit_table.specs.Sets.{Call, does_nothing, SetDone, SetState, CircuitTold, after_call, datagram_to, end_of, goes_to, input_of, is_over, notices, sendings, after_effect, told_by, with_end}
use Rattle.circuit_table.specs.Standing.{HeldGoes, SameNode, EachStands, HeldStands, Keeps, Rests, MetBy, capped_count, by_write, close_answer, discard_answer, message_at, take_answer, write_answer, if_so, of_holder, sendings_by, untold_of}
use Rattle.circuit_table.proofs.Choices.{Named}
use Rattle.circuit_table.proofs.Names.{call_names}
use Rattle.circuit_table.proofs.Meeting.{asked_step}
use Rattle.circuit_table.proofs.Holding.{At, at, missing, some_is, stood}

pub sents_is : (s : SetState) (id : ℕ) (to : Callsign) (os : List Out) → sendings s id to os ≡ sendings_by s.own s.ttl id to os
sents_is s id to [] = refl
sents_is s id to (o ∷ os) = ap (λ ts. sets.Sent id o.1 (datagram_to s to o.0) ∷ ts) (sents_is s id to os)

pub so_is : (b : Bool) (t : CircuitTold) → if_so b t ≡ (if b then t ∷ [] else [])
so_is true t = refl
so_is false t = refl

pub nothing : (x y : List CircuitTold) → [] ≡ x ++ y → (x ≡ []) × (y ≡ [])
nothing [] y e = (refl, sym e)
nothing (t ∷ x) y e = absurd (cc e)

no_told : (b : Bool) (t : CircuitTold) → if_so b t ≡ [] → b ≡ false
no_told true t e = absurd (cc e)
no_told false t e = refl

-- of an end of which nothing is untold
pub record IsQuiet (k : Holder) (g : Effect) : Type 0 where
  pub announced : k.unannounced ≡ false
  pub kept : k.discarded ≡ false
  pub stays : is_over g.end ≡ false
  pub outs : g.outs ≡ []
  pub notes : g.notes ≡ []

pub no_outs : (own : Callsign) (ttl id : ℕ) (to : Callsign) (os : List Out) → sendings_by own ttl id to os ≡ [] → os ≡ []
no_outs own ttl id to [] e = refl
no_outs own ttl id to (o ∷ os) e = absurd (cc e)

pub no_notes : (id : ℕ) (ns : List EndNotice) → notices id ns ≡ [] → ns ≡ []
no_notes id [] e = refl
no_notes id (n ∷ ns) e = absurd (cc e)

pub quiet : (own : Callsign) (ttl id : ℕ) (k : Holder) (g : Effect) → [] ≡ untold_of own ttl id k g → IsQuiet k g
quiet own ttl id k g e =
    let all = nothing (if_so k.unannounced (sets.Made id k.pair k.at None) ++ sendings_by own ttl id k.at g.outs ++ notices id g.notes) _ e in
    let two = nothing (if_so k.unannounced (sets.Made id k.pair k.at None) ++ sendings_by own ttl id k.at g.outs) _ (sym all.0) in
    let one = nothing (if_so k.unannounced (sets.Made id k.pair k.at None)) _ (sym two.0) in
    let last = or_parts k.discarded (is_over g.end) (no_told (k.discarded || is_over g.end) _ all.1) in
    record { announced = no_told k.unannounced _ one.0; kept = last.0; stays = last.1; outs = no_outs own ttl id k.at g.outs one.1; notes = no_notes id g.notes two.1 }

module _ (s : SetState) (id : ℕ) (k : Holder) (g : Effect) (e2 : EndView) (n : ℕ) (g2 : Effect) where
  pub moved_keeps : IsQuiet k g → Stands e2 g2 → g2.end.pair ≡ k.pair → n ≡ capped_count g2.end.receiving.taken → MetBy k.asked g2.end
      → Keeps s.own s.ttl id (record k { end = e2; taken = n }) (after_effect (of_holder id k g) g2) (told_by s (of_holder id k g) g2)
  moved_keeps q st p t m = record {
    going = g2;
    stands = st;
    is = simp q.kept refl;
    pair = p;
    taken = t;
    met = m;
    untold = simp (q.kept, q.announced, sents_is s id k.at g2.outs, so_is (is_over g2.end) (sets.Gone id (facts_of g2.end))) refl;
  }

pub rests_at : (id : ℕ) (es : List (ℕ × Holder)) (k : Holder) → Rests es → lookup (nat_eq id) es ≡ Some k → IsDrained k.end
rests_at id [] k r f = absurd (cc f)
rests_at id (e ∷ es) k r f = by (nat_eq id e.0) f (λ q. rests_at id es k r.1 q)
  where
    by : (b : Bool) → cond b (Some e.1) (lookup (nat_eq id) es) ≡ Some k → (lookup (nat_eq id) es ≡ Some k → IsDrained k.end) → IsDrained k.end
    by true q later = let same : e.1 ≡ k = cc q in subst (λ (x : Holder). IsDrained x.end) same r.0
    by false q later = later q

-- the end of the machine for which one that is held stands
pub record Stood (s : SetState) (id : ℕ) (k : Holder) : Type 0 where
  pub g : Effect
  pub is : end_of id s.ends ≡ Some (of_holder id k g)
  pub stands : Stands k.end g
  pub taken : k.taken ≡ capped_count g.end.receiving.taken
  pub quiet : IsQuiet k g

pub stood_at : (c : HeldEnds) (id : ℕ) (k : Holder) → lookup (nat_eq id) c.ends.entries ≡ Some k → (s : SetState) → HeldStands c s [] → Stood s id k
stood_at c id k found s st =
    let a : At s.own s.ttl s.number 0 id c.ends.entries s.ends [] = at s.own s.ttl s.number 0 id c.ends.entries s.ends [] k st.ends found in
    let same_k : a.k ≡ k = some_is (lookup (nat_eq id) c.ends.entries) a.k k a.found found in
    let keeps : Keeps s.own s.ttl id k a.h a.mine = subst (λ (x : Holder). Keeps s.own s.ttl id x a.h a.mine) same_k a.keeps in
    let all = nothing (a.before ++ a.mine) a.theirs a.all in
    let two = nothing a.before a.mine (sym all.0) in
    record {
      g = keeps.going;
      is = a.end ∙ ap Some keeps.is;
      stands = keeps.stands;
      taken = keeps.taken;
      quiet = quiet s.own s.ttl id k keeps.going (sym two.1 ∙ keeps.untold);
    }

pub not_gone : (id : ℕ) (k : Holder) (g : Effect) → IsQuiet k g → (of_holder id k g).gone ≡ false
not_gone id k g q = simp (q.kept, q.stays) refl

module _ (c c2 : HeldEnds) (id : ℕ) (k : Holder) (e2 : EndView) (n : ℕ) (same : SameNode c c2) (found : lookup (nat_eq id) c.ends.entries ≡ Some k)
    (left : c2.ends.entries ≡ set_value (nat_eq id) c.ends.entries (record k { end = e2; taken = n })) (s : SetState) (st : HeldStands c s []) where
  -- the end of the machine, and what has become of it
  pub record Found : Type 0 where
    pub g : Effect
    pub is : end_of id s.ends ≡ Some (of_holder id k g)
    pub stands : Stands k.end g
    pub pair : g.end.pair ≡ k.pair
    pub taken : k.taken ≡ capped_count g.end.receiving.taken
    pub met : MetBy k.asked g.end
    pub quiet : IsQuiet k g
    pub to : (g2 : Effect) → Stands e2 g2 → g2.end.pair ≡ k.pair → n ≡ capped_count g2.end.receiving.taken → MetBy k.asked g2.end → HeldStands c2 (goes_to s (of_holder id k g) [] g2).set (goes_to s (of_holder id k g) [] g2).told

  pub find : Found
  find =
      let a : At s.own s.ttl s.number 0 id c.ends.entries s.ends [] = at s.own s.ttl s.number 0 id c.ends.entries s.ends [] k st.ends found in
      let same_k : a.k ≡ k = some_is (lookup (nat_eq id) c.ends.entries) a.k k a.found found in
      let keeps : Keeps s.own s.ttl id k a.h a.mine = subst (λ (x : Holder). Keeps s.own s.ttl id x a.h a.mine) same_k a.keeps in
      let all = nothing (a.before ++ a.mine) a.theirs a.all in
      let two = nothing a.before a.mine (sym all.0) in
      let q : IsQuiet k keeps.going = quiet s.own s.ttl id k keeps.going (sym two.1 ∙ keeps.untold) in
      record {
        g = keeps.going;
        is = a.end ∙ ap Some keeps.is;
        stands = keeps.stands;
        pair = keeps.pair;
        taken = keeps.taken;
        quiet = q;
        met = keeps.met;
        to = λ g2 x p t m.
            let h : sets.Holder = of_holder id k keeps.going in
            let h2 : sets.Holder = after_effect h g2 in
            let ks = moved_keeps s id k keeps.going e2 n g2 q x p t m in
            let put = a.put (record k { end = e2; taken = n }) h2 (told_by s h g2) refl ks in
            let told : a.before ++ told_by s h g2 ++ a.theirs ≡ told_by s h g2 = rw (two.0, all.1) (append-nil (told_by s h g2)) in
            record {
              own = st.own ∙ sym same.own;
              user = st.user ∙ sym same.user;
              config = st.config ∙ sym same.config;
              next = st.next ∙ sym same.next;
              number = st.number ∙ sym same.number;
              ends = subst (λ es. EachStands s.own s.ttl s.number 0 es (with_end h2 s.ends) (told_by s h g2)) (sym left)
                  (subst (λ ts. EachStands s.own s.ttl s.number 0 (set_value (nat_eq id) c.ends.entries (record k { end = e2; taken = n })) (with_end h2 s.ends) ts) told put);
            };
      }

pub call_pair : (s : State) (call : Call) (now : ℕ) → (step s (input_of call) now).end.pair ≡ s.pair
call_pair s call now = ap (λ (n : Named). n.pair) (call_names s call now)

called_held : (s : SetState) (h : sets.Holder) (call : Call) (now : ℕ) → h.gone ≡ false → goes_to s h [] (step h.end (input_of call) now) ≡ after_call s (Some h) call now
called_held s h call now e = simp e refl

called_gone : (s : SetState) (o : Option sets.Holder) (call : Call) (now : ℕ) → ((x : sets.Holder) → o ≡ Some x → x.gone ≡ true) → after_call s o call now ≡ does_nothing s
called_gone s None call now f = refl
called_gone s (Some h) call now f = simp (f h refl) refl

-- a call of an end that is held
pub call_goes : (c c2 : HeldEnds) (id : ℕ) (k : Holder) (e2 : EndView) (n : ℕ) (call : Call) (now : ℕ) → SameNode c c2 → lookup (nat_eq id) c.ends.entries ≡ Some k
    → c2.ends.entries ≡ set_value (nat_eq id) c.ends.entries (record k { end = e2; taken = n })
    → ((x : State) → StandsFor k.end x → Stands e2 (step x (input_of call) now))
    → ((x : State) → StandsFor k.end x → k.taken ≡ capped_count x.receiving.taken → n ≡ capped_count (step x (input_of call) now).end.receiving.taken)
    → HeldGoes (sets.Calls id call now) c c2
call_goes c c2 id k e2 n call now same found left does taken = λ s st.
    let f : Found c c2 id k e2 n same found left s st = find c c2 id k e2 n same found left s st in
    let x : State = f.g.end in
    let h : sets.Holder = of_holder id k f.g in
    let stands : StandsFor k.end x = stood k.end f.g f.stands in
    let held : h.gone ≡ false = simp (f.quiet.kept, f.quiet.stays) refl in
    let done : HeldStands c2 (goes_to s h [] (step x (input_of call) now)).set (goes_to s h [] (step x (input_of call) now)).told =
    f.to (step x (input_of call) now) (does x stands) (call_pair x call now ∙ f.pair) (taken x stands f.taken) (asked_step k.asked x (input_of call) now f.met) in
    let is : goes_to s h [] (step x (input_of call) now) ≡ after_call s (end_of id s.ends) call now =
    called_held s h call now held ∙ ap (λ (o : Option sets.Holder). after_call s o call now) (sym f.is) in
    subst (λ (d : SetDone). HeldStands c2 d.set d.told) is done

-- a call of an end that isn't
pub call_of_none : (c c2 : HeldEnds) (id : ℕ) (call : Call) (now : ℕ) → SameNode c c2 → lookup (nat_eq id) c.ends.entries ≡ None → c2.ends.entries ≡ c.ends.entries
    → HeldGoes (sets.Calls id call now) c c2
call_of_none c c2 id call now same none left = λ s st.
    let is : after_call s (end_of id s.ends) call now ≡ does_nothing s = called_gone s (end_of id s.ends) call now (missing s.own s.ttl s.number 0 id c.ends.entries s.ends [] st.ends none) in
    subst (λ (d : SetDone). HeldStands c2 d.set d.told) (sym is)
    (record {
      own = st.own ∙ sym same.own;
      user = st.user ∙ sym same.user;
      config = st.config ∙ sym same.config;
      next = st.next ∙ sym same.next;
      number = st.number ∙ sym same.number;
      ends = subst (λ es. EachStands s.own s.ttl s.number 0 es s.ends []) (sym left) st.ends;
    })

-- ---- answers ----
pub missing_at : (c : HeldEnds) (id : ℕ) → lookup (nat_eq id) c.ends.entries ≡ None → (s : SetState) → HeldStands c s [] → (x : sets.Holder) → end_of id s.ends ≡ Some x → x.gone ≡ true
missing_at c id none s st = missing s.own s.ttl s.number 0 id c.ends.entries s.ends [] st.ends none

write_none : (o : Option sets.Holder) (m : List ℕ) → ((x : sets.Holder) → o ≡ Some x → x.gone ≡ true) → Err set_refusal.NoEnd ≡ write_answer o m
write_none None m f = refl
write_none (Some h) m f = simp (f h refl) refl

take_none : (o : Option sets.Holder) → ((x : sets.Holder) → o ≡ Some x → x.gone ≡ true) → Err (record {}) ≡ take_answer o
take_none None f = refl
take_none (Some h) f = simp (f h refl) refl

message_none : (o : Option sets.Holder) (m : List ℕ) → ((x : sets.Holder) → o ≡ Some x → x.gone ≡ true) → m ≡ message_at m o
message_none None m f = refl
message_none (Some h) m f = simp (f h refl) refl

close_none : (o : Option sets.Holder) → ((x : sets.Holder) → o ≡ Some x → x.gone ≡ true) → Err (record {}) ≡ close_answer o
close_none None f = refl
close_none (Some h) f = simp (f h refl) refl

discard_none : (o : Option sets.Holder) → ((x : sets.Holder) → o ≡ Some x → x.gone ≡ true) → Err discard_refusal.NoEnd ≡ discard_answer o
discard_none None f = refl
discard_none (Some h) f = simp (f h refl) refl

module _ (c : HeldEnds) (id : ℕ) (s : SetState) (st : HeldStands c s []) where
  module _ (none : lookup (nat_eq id) c.ends.entries ≡ None) where
    pub no_write : (m : List ℕ) → Err set_refusal.NoEnd ≡ write_answer (end_of id s.ends) m
    no_write m = write_none (end_of id s.ends) m (missing_at c id none s st)

    pub no_take : Err (record {}) ≡ take_answer (end_of id s.ends)
    no_take = take_none (end_of id s.ends) (missing_at c id none s st)

    pub no_message : (m : List ℕ) → m ≡ message_at m (end_of id s.ends)
    no_message m = message_none (end_of id s.ends) m (missing_at c id none s st)

    pub no_close : Err (record {}) ≡ close_answer (end_of id s.ends)
    no_close = close_none (end_of id s.ends) (missing_at c id none s st)

    pub no_discard : Err discard_refusal.NoEnd ≡ discard_answer (end_of id s.ends)
    no_discard = discard_none (end_of id s.ends) (missing_at c id none s st)

  module _ (k : Holder) (found : lookup (nat_eq id) c.ends.entries ≡ Some k) where
    here : Stood s id k
    here = stood_at c id k found s st

    pub some_write : (m : List ℕ) (r : Result (Unit {0}) WriteRefusal) → ((x : State) → StandsFor k.end x → r ≡ end.write_answer x m) → by_write r ≡ write_answer (end_of id s.ends) m
    some_write m r f =
        let h : sets.Holder = of_holder id k here.g in
        let held : write_answer (Some h) m ≡ by_write (end.write_answer here.g.end m) = simp (not_gone id k here.g here.quiet) refl in
        ap by_write (f here.g.end (stood k.end here.g here.stands)) ∙ sym held ∙ ap (λ o. write_answer o m) (sym here.is)

    pub some_take : (r : Bool) → ((x : State) → StandsFor k.end x → r ≡ nat_lt 0 (length (inbox x.receiving))) → Ok r ≡ take_answer (end_of id s.ends)
    some_take r f =
        let h : sets.Holder = of_holder id k here.g in
        let held : take_answer (Some h) ≡ Ok (nat_lt 0 (length (inbox here.g.end.receiving))) = simp (not_gone id k here.g here.quiet) refl in
        ap Ok (f here.g.end (stood k.end here.g here.stands)) ∙ sym held ∙ ap take_answer (sym here.is)

    pub some_message : (m n : List ℕ) → ((x : State) → StandsFor k.end x → n ≡ first_or m (inbox x.receiving)) → n ≡ message_at m (end_of id s.ends)
    some_message m n f =
        let h : sets.Holder = of_holder id k here.g in
        let held : message_at m (Some h) ≡ first_or m (inbox here.g.end.receiving) = simp (not_gone id k here.g here.quiet) refl in
        f here.g.end (stood k.end here.g here.stands) ∙ sym held ∙ ap (message_at m) (sym here.is)

    pub some_close : Ok tt ≡ close_answer (end_of id s.ends)
    some_close =
        let h : sets.Holder = of_holder id k here.g in
        let held : close_answer (Some h) ≡ Ok tt = simp (not_gone id k here.g here.quiet) refl in
        sym held ∙ ap close_answer (sym here.is)

-- an end that is put back as it was
pub set_back : (id : ℕ) (es : List (ℕ × Holder)) (k : Holder) → lookup (nat_eq id) es ≡ Some k → set_value (nat_eq id) es k ≡ es
set_back id [] k f = refl
set_back id (e ∷ es) k f = by (nat_eq id e.0) f (λ q. set_back id es k q)
  where
    by : (b : Bool) → cond b (Some e.1) (lookup (nat_eq id) es) ≡ Some k → (lookup (nat_eq id) es ≡ Some k → set_value (nat_eq id) es k ≡ es)
        → cond b ((e.0, k) ∷ es) (e ∷ set_value (nat_eq id) es k) ≡ e ∷ es
    by true q later = let same : e.1 ≡ k = cc q in ap (λ (x : Holder). (e.0, x) ∷ es) (sym same)
    by false q later = ap (λ ys. e ∷ ys) (later q)

-- ---- discarding ----
discard_held : (h : sets.Holder) → h.gone ≡ false → discard_answer (Some h) ≡ (if sets.has_ended h.end.phase then Ok tt else Err discard_refusal.NotEnded)
discard_held h e = simp e refl

some_discard : (c : HeldEnds) (id : ℕ) (s : SetState) → (st : HeldStands c s []) → (k : Holder) (found : lookup (nat_eq id) c.ends.entries ≡ Some k) (b : Bool)
    → ((x : State) → StandsFor k.end x → b ≡ sets.has_ended x.phase) → (if b then Ok tt else Err discard_refusal.NotEnded) ≡ discard_answer (end_of id s.ends)
some_discard c id s st k found b f =
    let w : Stood s id k = stood_at c id k found s st in
    let h : sets.Holder = of_holder id k w.g in
    let held : discard_answer (Some h) ≡ (if sets.has_ended w.g.end.phase then Ok tt else Err discard_refusal.NotEnded) = discard_held h (not_gone id k w.g w.quiet) in
    ap (λ (x : Bool). if x then Ok tt else Err discard_refusal.NotEnded) (f w.g.end (stood k.end w.g w.stands)) ∙ sym held ∙ ap discard_answer (sym w.is)

pub discard_ended : (c : HeldEnds) (id : ℕ) (s : SetState) → HeldStands c s [] → (k : Holder) → lookup (nat_eq id) c.ends.entries ≡ Some k → (b : Bool) → b ≡ true
    → ((x : State) → StandsFor k.end x → b ≡ sets.has_ended x.phase) → Ok tt ≡ discard_answer (end_of id s.ends)
discard_ended c id s st k found b e f = ap (λ (x : Bool). if x then Ok tt else Err discard_refusal.NotEnded) (sym e) ∙ some_discard c id s st k found b f

pub discard_open : (c : HeldEnds) (id : ℕ) (s : SetState) → HeldStands c s [] → (k : Holder) → lookup (nat_eq id) c.ends.entries ≡ Some k → (b : Bool) → b ≡ false
    → ((x : State) → StandsFor k.end x → b ≡ sets.has_ended x.phase) → Err discard_refusal.NotEnded ≡ discard_answer (end_of id s.ends)
discard_open c id s st k found b e f = ap (λ (x : Bool). if x then Ok tt else Err discard_refusal.NotEnded) (sym e) ∙ some_discard c id s st k found b f

discarded_ended : (s : SetState) (h : sets.Holder) → h.gone ≡ false → sets.has_ended h.end.phase ≡ true
    → record { set = record s { ends = with_end (record h { gone = true }) s.ends }; told = sets.Gone h.id (facts_of h.end) ∷ [] } ≡ sets.after_discarding s (Some h)
discarded_ended s h e f = simp (e, f) refl

pub discard_goes : (c c2 : HeldEnds) (id : ℕ) (k : Holder) → SameNode c c2 → lookup (nat_eq id) c.ends.entries ≡ Some k
    → c2.ends.entries ≡ set_value (nat_eq id) c.ends.entries (record k { discarded = true }) → ((x : State) → StandsFor k.end x → true ≡ sets.has_ended x.phase)
    → HeldGoes (sets.Discard id) c c2
discard_goes c c2 id k same found left ended = λ s st.
    let a : At s.own s.ttl s.number 0 id c.ends.entries s.ends [] = at s.own s.ttl s.number 0 id c.ends.entries s.ends [] k st.ends found in
    let same_k : a.k ≡ k = some_is (lookup (nat_eq id) c.ends.entries) a.k k a.found found in
    let keeps : Keeps s.own s.ttl id k a.h a.mine = subst (λ (x : Holder). Keeps s.own s.ttl id x a.h a.mine) same_k a.keeps in
    let g : Effect = keeps.going in
    let all = nothing (a.before ++ a.mine) a.theirs a.all in
    let two = nothing a.before a.mine (sym all.0) in
    let q : IsQuiet k g = quiet s.own s.ttl id k g (sym two.1 ∙ keeps.untold) in
    let h : sets.Holder = of_holder id k g in
    let k2 : Holder = record k { discarded = true } in
    let h2 : sets.Holder = record h { gone = true } in
    let told : List CircuitTold = sets.Gone id (facts_of g.end) ∷ [] in
    let keeps2 : Keeps s.own s.ttl id k2 h2 told = record { going = g; stands = keeps.stands; is = refl; pair = keeps.pair; taken = keeps.taken; met = keeps.met; untold = simp (q.announced, q.outs, q.notes) refl } in
    let put = a.put k2 h2 told refl keeps2 in
    let both : a.before ++ told ++ a.theirs ≡ told = rw (two.0, all.1) refl in
    let held : HeldStands c2 (record s { ends = with_end h2 s.ends }) told = record {
      own = st.own ∙ sym same.own;
      user = st.user ∙ sym same.user;
      config = st.config ∙ sym same.config;
      next = st.next ∙ sym same.next;
      number = st.number ∙ sym same.number;
      ends = subst (λ es. EachStands s.own s.ttl s.number 0 es (with_end h2 s.ends) told) (sym left)
          (subst (λ ts. EachStands s.own s.ttl s.number 0 (set_value (nat_eq id) c.ends.entries k2) (with_end h2 s.ends) ts) both put);
    } in
    let is : record { set = record s { ends = with_end h2 s.ends }; told = told } ≡ sets.after_discarding s (end_of id s.ends) =
    discarded_ended s h (not_gone id k g q) (sym (ended g.end (stood k.end g keeps.stands))) ∙ ap (λ (o : Option sets.Holder). sets.after_discarding s o) (sym (a.end ∙ ap Some keeps.is)) in
    subst (λ (d : SetDone). HeldStands c2 d.set d.told) is held

pub never_missing : (c : HeldEnds) (id : ℕ) → lookup (nat_eq id) c.ends.entries ≡ None → (s : SetState) → HeldStands c s [] → (h : sets.Holder) → end_of id s.ends ≡ Some h → h.gone ≡ false → ⊥
never_missing c id none s st h is held = let z : true ≡ false = sym (missing_at c id none s st h is) ∙ held in cc z
