-- Where no node starts again, an end that is gone has ended.
use Rattle.std.specs.Prelude.{◌≡◌, ℕ, ◌⊎◌, Bool, true, false, ◌&&◌, nat_eq, length, List, slice_get, slice_set, Option, Some, None, refl}
use Rattle.std.proofs.Common.{sym, ◌∙◌, subst, inl, inr}
use Rattle.ax_address.specs.Callsign.{Callsign}
use Rattle.circuit_l4.specs.declared.pair.Pair.{Pair}
use Rattle.circuit_l4.specs.State.{Effect, State, inbox}
use Rattle.circuit_set.specs.Books.{Book, with_events}
use Rattle.circuit_table.specs.Events.{Name}
use Rattle.circuit_set.specs.NotedRuns.{Net, begins, end_at}
use Rattle.circuit_table.specs.Givings.{IsUp}
use Rattle.circuit_table.specs.Runs.{AreStarts, events_at}
use Rattle.circuit_table.specs.Sets.{Act, Holder, SetDone, SetState, end_of, has_ended, holder_of, is_over, makes_end, set_step, with_end}
use Rattle.circuit_set.proofs.Acts.{set_self}
use Rattle.circuit_set.proofs.Cases.{step_every}
use Rattle.circuit_set.proofs.Given.{Numbers, none_of, one}
use Rattle.circuit_set.proofs.Learning.{no_end}
use Rattle.circuit_set.proofs.Moved.{same_or}
use Rattle.circuit_set.proofs.Stepped as stepped
use Rattle.circuit_set.proofs.Stepped.{same_holder}

abbrev Left : Holder → Type 0
Left h = h.gone ≡ true → has_ended h.end.phase ≡ true

abbrev pub GoneEnded : Net → Type 0
GoneEnded net = (x : Name) (h : Holder) → end_at net x ≡ Some h → h.gone ≡ true → has_ended h.end.phase ≡ true

and_first : (a b : Bool) → (a && b) ≡ true → a ≡ true
and_first true b e = refl
and_first false b e = cc

-- an end is over once it has ended
over_ended : (e : State) → is_over e ≡ true → has_ended e.phase ≡ true
over_ended e o = and_first (has_ended e.phase) (nat_eq (length (inbox e.receiving)) 0) o

module _ (net : Net) (k : GoneEnded net) (n : ℕ) (s : SetState) (here : slice_get net.sets n ≡ Some s) (nums : Numbers s) where
  abbrev P : SetDone → Type 0
  P done = GoneEnded (record { sets = slice_set net.sets n done.set; book = with_events net.book (events_at n s.own done.told) })

  stays : (c : Book) → GoneEnded (record { sets = slice_set net.sets n s; book = c })
  stays c = let now : GoneEnded (record { sets = net.sets; book = c }) = k in subst (λ ss. GoneEnded (record { sets = ss; book = c })) (sym (set_self net.sets n s here)) now

  -- an end that was there
  module _ (h : Holder) (e : State) (over : Bool) (c : Book) (there : end_of h.id s.ends ≡ Some h) (ok : over ≡ true → has_ended e.phase ≡ true) where
    abbrev x : Name
    x = record { node = n; id = h.id }

    abbrev to : Holder
    to = record { id = h.id; at = h.at; asked = h.asked; end = e; gone = over }

    abbrev new : Net
    new = record { sets = slice_set net.sets n (record s { ends = with_end to s.ends }); book = c }

    either : (z : Name) (j : Holder) → end_at new z ≡ Some j → (x ≡ z) ⊎ (x ≡ z → ⊥) → Left j
    either z j q (inl same) = subst Left (same_holder to j (end_at new z) (subst (λ w. end_at new w ≡ Some to) same (stepped.end_now net n s here h e over c there)) q) ok
    either z j q (inr far) = k z j (sym (stepped.end_beside net n s here h e over c there z far) ∙ q)

    moved : GoneEnded new
    moved z j q = either z j q (same_or x z)

  -- a new end
  module _ (at : Callsign) (asked : Option Pair) (request : Option (List ℕ)) (g : Effect) (c : Book) where
    abbrev y : Name
    y = record { node = n; id = s.number }

    abbrev t : SetState
    t = (makes_end s at asked request g).set

    abbrev after : Net
    after = record { sets = slice_set net.sets n t; book = c }

    none_yet : end_of s.number s.ends ≡ None
    none_yet = none_of s.number s.ends nums.below

    new_or_old : (z : Name) (j : Holder) → end_at after z ≡ Some j → (y ≡ z) ⊎ (y ≡ z → ⊥) → Left j
    new_or_old z j q (inl same) =
        let h : Holder = holder_of s at asked g in
        subst Left (same_holder h j (end_at after z) (subst (λ w. end_at after w ≡ Some h) same (stepped.end_here net n s here t h c refl refl none_yet)) q) (over_ended g.end)
    new_or_old z j q (inr far) = k z j (sym (stepped.end_other net n s here t (holder_of s at asked g) c refl refl none_yet z far) ∙ q)

    new_left : GoneEnded after
    new_left z j q = new_or_old z j q (same_or y z)

  pub step_left : (a : Act) → IsUp a → P (set_step s a)
  step_left a up =
      step_every s (one s nums) a P (record {
        rests = λ idle. stays net.book;
        refuses = λ at pair call none. stays net.book;
        moves = λ h heeded d g there held same ends says lives asks by. moved h g.end (is_over g.end) net.book there (over_ended g.end);
        leaves = λ h there held ended none. moved h h.end true net.book there (λ e. ended);
        makes = λ at asked request g fresh by asks. new_left at asked request g net.book;
      }) up

pub start_left : (sets : List SetState) → AreStarts sets → GoneEnded (begins sets)
start_left sets a x h e = no_end sets x h (Left h) a e
