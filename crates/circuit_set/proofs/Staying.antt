-- An end of a run stays, with the call of its partner's node.
use Rattle.std.specs.Prelude.{◌≡◌, ℕ, ◌⊎◌, Bool, true, nat_eq, slice_get, slice_set, Option, Some, None, refl}
use Rattle.std.proofs.Common.{◌∙◌, ap, subst, inl, inr}
use Rattle.circuit_l4.specs.State.{State}
use Rattle.circuit_set.specs.Books.{Book, with_events}
use Rattle.circuit_table.specs.Events.{Name}
use Rattle.circuit_set.specs.Facing.{EndsStay}
use Rattle.circuit_table.specs.Givings.{IsUp}
use Rattle.circuit_set.specs.NotedRuns.{Net, begins, end_at, net_run}
use Rattle.circuit_table.specs.Runs.{Step, end_in, sets_at, told_at}
use Rattle.circuit_table.specs.Sets.{Act, Calls, Comes, Connect, ConnectFor, Discard, Restart, Holder, SetDone, SetState, end_of, holder_of, is_over, makes_end, set_step, with_end}
use Rattle.circuit_set.proofs.Acts.{set_self}
use Rattle.circuit_set.proofs.Cases.{step_every}
use Rattle.circuit_set.proofs.Given.{Numbers, none_of, one}
use Rattle.circuit_set.proofs.Moved.{same_or}
use Rattle.circuit_set.proofs.Restarts.{gone_of}
use Rattle.circuit_set.proofs.Retries.{start_lives}
use Rattle.circuit_set.proofs.Stepped as stepped
use Rattle.circuit_set.proofs.Writings.{run_lives}

module _ (net : Net) (n : ℕ) (s : SetState) (here : slice_get net.sets n ≡ Some s) (nums : Numbers s) where
  abbrev After : SetDone → Book → Net
  After done c = record { sets = slice_set net.sets n done.set; book = c }

  abbrev Stays : Net → Type 0
  Stays new = (z : Name) (j : Holder) → end_at net z ≡ Some j → (k : Holder) × (end_at new z ≡ Some k) × (k.at ≡ j.at)

  abbrev P : SetDone → Type 0
  P done = (c : Book) → Stays (After done c)

  same_set : (c : Book) → Stays (record { sets = slice_set net.sets n s; book = c })
  same_set c z j e = (j, ap (λ ss. end_in (slice_get ss z.node) z.id) (set_self net.sets n s here) ∙ e, refl)

  -- an end that was there
  module _ (h : Holder) (e : State) (over : Bool) (c : Book) (there : end_of h.id s.ends ≡ Some h) where
    abbrev x : Name
    x = record { node = n; id = h.id }

    abbrev to : Holder
    to = record { id = h.id; at = h.at; asked = h.asked; end = e; gone = over }

    abbrev new : Net
    new = record { sets = slice_set net.sets n (record s { ends = with_end to s.ends }); book = c }

    changed : (z : Name) (j : Holder) → end_at net z ≡ Some j → (x ≡ z) ⊎ (x ≡ z → ⊥) → (k : Holder) × (end_at new z ≡ Some k) × (k.at ≡ j.at)
    changed z j q (inl same) =
        let is : h ≡ j = stepped.same_holder h j (end_at net z) (subst (λ w. end_at net w ≡ Some h) same (stepped.end_then net n s here h e over c there)) q in
        (to, subst (λ w. end_at new w ≡ Some to) same (stepped.end_now net n s here h e over c there), ap (λ (i : Holder). i.at) is)
    changed z j q (inr far) = (j, stepped.end_beside net n s here h e over c there z far ∙ q, refl)

    changes : Stays new
    changes z j q = changed z j q (same_or x z)

  up_stays : (a : Act) → IsUp a → P (set_step s a)
  up_stays a up =
      step_every s (one s nums) a P (record {
        rests = λ idle c. same_set c;
        refuses = λ at pair call none c. same_set c;
        moves = λ h heeded d g there held same ends says lives asks by c. changes h g.end (is_over g.end) c there;
        leaves = λ h there held ended none c. changes h h.end true c there;
        makes = λ at asked request g fresh by asks c z j q.
            (j, stepped.old_end net n s here (makes_end s at asked request g).set (holder_of s at asked g) c refl refl (none_of s.number s.ends nums.below) z j q, refl);
      }) up

  act_stays : (a : Act) → P (set_step s a)
  act_stays (Connect dest now) = up_stays (Connect dest now) tt
  act_stays (ConnectFor user dest now) = up_stays (ConnectFor user dest now) tt
  act_stays (Comes d now) = up_stays (Comes d now) tt
  act_stays (Calls id call now) = up_stays (Calls id call now) tt
  act_stays (Discard id) = up_stays (Discard id) tt
  act_stays (Restart pair more) = λ c z j q. let r = stepped.is_lost_now net n s here pair more c z j (nat_eq z.node n) refl q in (gone_of j r.0, r.1, refl)

-- a step at a node, or where none is
step_case : (net : Net) (st : Step) → ((s : SetState) → slice_get net.sets st.node ≡ Some s → Numbers s) → (o : Option SetState) → slice_get net.sets st.node ≡ o → (z : Name) (j : Holder) → end_at net z ≡ Some j
    → (k : Holder) × (end_at (record { sets = sets_at net.sets st.node o st.act; book = with_events net.book (told_at net.sets st.node o st.act) }) z ≡ Some k) × (k.at ≡ j.at)
step_case net st nums None e z j q = (j, q, refl)
step_case net st nums (Some s) e z j q = act_stays net st.node s e (nums s e) st.act (with_events net.book (told_at net.sets st.node (Some s) st.act)) z j q

pub ends_stay : EndsStay
ends_stay sets starts steps st x h e =
    let net : Net = net_run (begins sets) steps in
    step_case net st ((run_lives (begins sets) steps (start_lives sets starts)).0 st.node) (slice_get net.sets st.node) refl x h e
