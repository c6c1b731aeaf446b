-- What deeds write and take at ends is what was written there and taken there.
use Rattle.std.proofs.Common.{◌≡◌, ◌<◌, ℕ, refl, sym, subst, arith, append-nil, append_assoc, List, [], ◌∷◌, ◌++◌}
use Rattle.std.specs.List.{AllByRecursion}
use Rattle.std.specs.Prelude.{Bool, true, false, nat_eq, if◌then◌else◌, Ok}
use Rattle.std.proofs.lemmas.Bool.Decides.{nat_tests}
use Rattle.ax_address.proofs.SameNumbers.{nat_apart}
use Rattle.circuit_table.specs.Sets as sets
use Rattle.circuit_table.specs.Sets.{Holder, SetState, set_step}
use Rattle.circuit_table.specs.Standing as answers
use Rattle.node_model.specs.declared.user.User.TheVariants.{AtEnd}
use Rattle.node_model.specs.Links as links
use Rattle.node_model.specs.Pumping.{pump}
use Rattle.node_model.specs.States.{State}
use Rattle.node_model.specs.Users.{has_taken}
use Rattle.node_core.specs.Deeds.{AreApart, Deed, Does, Rests, Keeps, Pumps, Writes, Takes, Closes, Sends, Fetches, EndsShowDeeds, said_by, told_to}
use Rattle.node_core.proofs.Ends as ends
use Rattle.node_core.proofs.Ends.{Once, Other}
use Rattle.node_core.proofs.Holders.{Below, closes_keep, comes_keeps, takes_keep, writes_keep}
use Rattle.node_core.proofs.Pumped.{pump_keeps}
use Rattle.node_core.proofs.Wrote.{WroteAt, closes_wrote, comes_wrote, its_take, its_write, others_wrote}

-- ends that are numbered, and what was written to one of them
abbrev Numbered : SetState → Type 0
Numbered set = Below set × Once set.ends

abbrev Has : ℕ → List (List ℕ) → List (List ℕ) → SetState → Type 0
Has id ms gs set = Numbered set × WroteAt set id ms gs

pumped_has : (now id : ℕ) (ms gs : List (List ℕ)) (n : State) → Has id ms gs n.set.set → Has id ms gs (pump now n).set.set
pumped_has now id ms gs n h =
    pump_keeps (λ set ts ss. Has id ms gs set) (λ prompt set t ts ss a. a)
    (λ set ts ss d now a. let k = comes_keeps set d now in ((k.below a.0.0, k.once a.0.0 a.0.1), comes_wrote set d now id ms gs a.0.1 a.1)) now n h

-- ---- one deed

wrote_has : (now at id : ℕ) (text : List ℕ) (ms gs : List (List ℕ)) (set : SetState) → answers.write_answer (sets.end_of at set.ends) text ≡ Ok tt → Has id ms gs set
    → Has id (ms ++ (if nat_eq id at then text ∷ [] else [])) gs (set_step set (sets.Calls at (sets.Writes text) now)).set
wrote_has now at id text ms gs set ok h = by (nat_eq id at) refl
  where
    k : Numbered (set_step set (sets.Calls at (sets.Writes text) now)).set
    k = let w = writes_keep set text now at in (w.below h.0.0, w.once h.0.0 h.0.1)

    by : (b : Bool) → nat_eq id at ≡ b → Has id (ms ++ (if b then text ∷ [] else [])) gs (set_step set (sets.Calls at (sets.Writes text) now)).set
    by true e = let same : id ≡ at = grind (arith, nat_tests, e) in (k, subst (λ (i : ℕ). WroteAt (set_step set (sets.Calls at (sets.Writes text) now)).set i (ms ++ text ∷ []) gs) (sym same) (its_write set text now at ms gs ok (subst (λ (i : ℕ). WroteAt set i ms gs) same h.1)))
    by false e = (k, subst (λ (xs : List (List ℕ)). WroteAt (set_step set (sets.Calls at (sets.Writes text) now)).set id xs gs) (sym (append-nil ms)) (others_wrote set (sets.Writes text) now at id ms gs (nat_apart id at e) h.1))

took_has : (now at id : ℕ) (ms gs : List (List ℕ)) (set : SetState) → has_taken (answers.take_answer (sets.end_of at set.ends)) ≡ true → Has id ms gs set
    → Has id ms (gs ++ (if nat_eq id at then answers.message_at [] (sets.end_of at set.ends) ∷ [] else [])) (set_step set (sets.Calls at sets.Takes now)).set
took_has now at id ms gs set ok h = by (nat_eq id at) refl
  where
    text : List ℕ
    text = answers.message_at [] (sets.end_of at set.ends)

    k : Numbered (set_step set (sets.Calls at sets.Takes now)).set
    k = let w = takes_keep set now at in (w.below h.0.0, w.once h.0.0 h.0.1)

    by : (b : Bool) → nat_eq id at ≡ b → Has id ms (gs ++ (if b then answers.message_at [] (sets.end_of at set.ends) ∷ [] else [])) (set_step set (sets.Calls at sets.Takes now)).set
    by true e = let same : id ≡ at = grind (arith, nat_tests, e) in (k, subst (λ (i : ℕ). WroteAt (set_step set (sets.Calls at sets.Takes now)).set i ms (gs ++ answers.message_at [] (sets.end_of at set.ends) ∷ [])) (sym same) (its_take set now at ms gs ok (subst (λ (i : ℕ). WroteAt set i ms gs) same h.1)))
    by false e = (k, subst (λ (xs : List (List ℕ)). WroteAt (set_step set (sets.Calls at sets.Takes now)).set id ms xs) (sym (append-nil gs)) (others_wrote set sets.Takes now at id ms gs (nat_apart id at e) h.1))

closed_has : (now at id : ℕ) (ms gs : List (List ℕ)) (set : SetState) → Has id ms gs set → Has id ms gs (set_step set (sets.Calls at sets.Closes now)).set
closed_has now at id ms gs set h = let w = closes_keep set now at in ((w.below h.0.0, w.once h.0.0 h.0.1), closes_wrote set now at id ms gs h.0.1 h.1)

-- ---- all of them

joined : (id : ℕ) (ms xs ys gs hs ks : List (List ℕ)) (set : SetState) → Has id ((ms ++ xs) ++ ys) ((gs ++ hs) ++ ks) set → Has id (ms ++ (xs ++ ys)) (gs ++ (hs ++ ks)) set
joined id ms xs ys gs hs ks set h = subst (λ (zs : List (List ℕ)). Has id zs (gs ++ (hs ++ ks)) set) (append_assoc ms xs ys) (subst (λ (zs : List (List ℕ)). Has id ((ms ++ xs) ++ ys) zs set) (append_assoc gs hs ks) h)

shows : {now : ℕ} {last n : State} {ds : List Deed} → Does now last n ds → (id : ℕ) (ms gs : List (List ℕ)) → Has id ms gs n.set.set
    → Has id (ms ++ told_to (AtEnd id) ds) (gs ++ said_by (AtEnd id) ds) last.set.set
unfolding links.acts
shows {now} {last} Rests id ms gs h = subst (λ (zs : List (List ℕ)). Has id zs (gs ++ []) last.set.set) (sym (append-nil ms)) (subst (λ (zs : List (List ℕ)). Has id ms zs last.set.set) (sym (append-nil gs)) h)
shows (Keeps n ss ds d) id ms gs h = shows d id ms gs h
shows {now} (Pumps n ds d) id ms gs h = shows d id ms gs (pumped_has now id ms gs n h)
shows {now} {last} (Writes n ds at text ok d) id ms gs h =
    let g = subst (λ (zs : List (List ℕ)). Has id (ms ++ (if nat_eq id at then text ∷ [] else [])) zs (set_step n.set.set (sets.Calls at (sets.Writes text) now)).set) (sym (append-nil gs)) (wrote_has now at id text ms gs n.set.set ok h) in
    joined id ms (if nat_eq id at then text ∷ [] else []) (told_to (AtEnd id) ds) gs [] (said_by (AtEnd id) ds) last.set.set (shows d id (ms ++ (if nat_eq id at then text ∷ [] else [])) (gs ++ []) g)
shows {now} {last} (Takes n ds at ok d) id ms gs h =
    let text : List ℕ = answers.message_at [] (sets.end_of at n.set.set.ends) in
    let g = subst (λ (zs : List (List ℕ)). Has id zs (gs ++ (if nat_eq id at then text ∷ [] else [])) (set_step n.set.set (sets.Calls at sets.Takes now)).set) (sym (append-nil ms)) (took_has now at id ms gs n.set.set ok h) in
    joined id ms [] (told_to (AtEnd id) ds) gs (if nat_eq id at then text ∷ [] else []) (said_by (AtEnd id) ds) last.set.set (shows d id (ms ++ []) (gs ++ (if nat_eq id at then text ∷ [] else [])) g)
shows {now} (Closes n ds at d) id ms gs h = shows d id ms gs (closed_has now at id ms gs n.set.set h)
shows (Sends n ds peer text ok d) id ms gs h = shows d id ms gs h
shows (Fetches n ds peer ok d) id ms gs h = shows d id ms gs h

-- ---- as the law says it

once_of : (hs : List Holder) → AreApart hs → Once hs
once_of [] a = tt
once_of (h ∷ hs) a = (by hs a.0, once_of hs a.1)
  where
    by : (ks : List Holder) → AllByRecursion (λ k. nat_eq k.id h.id ≡ false) ks → ends.Every (Other h.id) ks
    by [] b = tt
    by (k ∷ ks) b = (b.0, by ks b.1)

below_of : (number : ℕ) (hs : List Holder) → AllByRecursion (λ h. h.id < number) hs → ends.Every (λ h. h.id < number) hs
below_of number [] a = tt
below_of number (h ∷ hs) a = (a.0, below_of number hs a.1)

pub apart_of : (hs : List Holder) → Once hs → AreApart hs
apart_of [] a = tt
apart_of (h ∷ hs) a = (by hs a.0, apart_of hs a.1)
  where
    by : (ks : List Holder) → ends.Every (Other h.id) ks → AllByRecursion (λ k. nat_eq k.id h.id ≡ false) ks
    by [] b = tt
    by (k ∷ ks) b = (b.0, by ks b.1)

pub numbers_of : (number : ℕ) (hs : List Holder) → ends.Every (λ h. h.id < number) hs → AllByRecursion (λ h. h.id < number) hs
numbers_of number [] a = tt
numbers_of number (h ∷ hs) a = (a.0, numbers_of number hs a.1)

pub ends_show : EndsShowDeeds
ends_show now last n ds d a id ms gs e =
    let w = (shows d id ms gs ((below_of n.set.set.number n.set.set.ends a.0, once_of n.set.set.ends a.1), record { holder = e.holder; is = e.is; wrote = e.wrote; taken = (e.many, e.took) })).1 in
    record { holder = w.holder; is = w.is; wrote = w.wrote; many = w.taken.0; took = w.taken.1 }
