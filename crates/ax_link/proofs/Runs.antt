-- A run of two ends.
use Rattle.std.proofs.Common.{◌≡◌, ℕ, ◌+◌, ◌≤◌, true, ◌||◌, List, [], ◌∷◌, ◌++◌, length, refl, ap, sym, ◌∙◌, subst, arith, inl, inr, min}
use Rattle.std.proofs.lemmas.Bool.{or_right, or_left}
use Rattle.radio_base.specs.declared.modulus.TheConstants.{COUNT_MAX}
use Rattle.ax_link.specs.declared.phase.LinkPhase.{LinkPhase}
use Rattle.ax_link.specs.declared.phase.LinkPhase.TheVariants.{Down, Up}
use Rattle.ax_link.specs.State.{State, Frame, Effect, is_up}
use Rattle.ax_link.specs.Table.{Input, Set_up, Send, Arrive, Tick, Close, Take, step_at}
use Rattle.ax_link.specs.Pair.{Both, core, Queue, counted}
use Rattle.ax_link.specs.Runs.{Clean, CleanRun, End, Ends, Event, Calls, Comes, Lost, Safe, Side, Left, Right, Starts, after, arrives, at_left, happens, loses, run, set_ups_in, steps, swap, told_opened}
use Rattle.ax_link.proofs.Steps.{way_order}
use Rattle.ax_link.proofs.Pairs.{pair_lost, pair_swap, new_way, both_swap, both_lost_first}
use Rattle.ax_link.proofs.PairSteps.{not_down}
use Rattle.ax_link.proofs.RunStates.{NotUp, setting, SetUpsOnly, Starting, Holds, Kept}
use Rattle.ax_link.proofs.RunStarts.{starting_call, starting_arrival}
use Rattle.ax_link.proofs.RunSteps.{joint_in, lonely_up, lonely_down}

-- ---- a step, a loss, and the other end ----
pub step_holds : (now : ℕ) (i : Input) (l r : State) (tl tl2 tr : List Frame) (a b : ℕ) → Queue i tl tl2 → (a + set_ups_in (step_at now l i).outs) + b ≤ 1 → Kept l (step_at now l i) → Holds l r tl tr a b →
    Holds (step_at now l i).link r tl2 (tr ++ (step_at now l i).outs) (a + set_ups_in (step_at now l i).outs) b
step_holds now i l r tl tl2 tr a b e c k (inr (inl w)) = joint_in l.phase now i l r tl tl2 tr a b refl e c k w
step_holds now i l r tl tl2 tr a b e c k (inr (inr (inl w))) = inr (inr (inl (lonely_up now i l r tl tl2 tr a b e c k w)))
step_holds now i l r tl tl2 tr a b e c k (inr (inr (inr w))) = inr (inr (inr (lonely_down now i l r tl tl2 tr a b e c w)))
step_holds now (Arrive f) l r tl tl2 tr a b e c k (inl w) = starting_arrival now f l r tl2 tr a b (set_ups_in (step_at now l (Arrive f)).outs) c (subst (λ q. Starting l r q tr a b) e w)
step_holds now Set_up l r tl tl2 tr a b e c k (inl w) = inl (starting_call now Set_up l r tl2 tr a b tt (subst (λ q. Starting l r q tr a b) e w))
step_holds now (Send x) l r tl tl2 tr a b e c k (inl w) = inl (starting_call now (Send x) l r tl2 tr a b tt (subst (λ q. Starting l r q tr a b) e w))
step_holds now Tick l r tl tl2 tr a b e c k (inl w) = inl (starting_call now Tick l r tl2 tr a b tt (subst (λ q. Starting l r q tr a b) e w))
step_holds now Close l r tl tl2 tr a b e c k (inl w) = inl (starting_call now Close l r tl2 tr a b tt (subst (λ q. Starting l r q tr a b) e w))
step_holds now Take l r tl tl2 tr a b e c k (inl w) = inl (starting_call now Take l r tl2 tr a b tt (subst (λ q. Starting l r q tr a b) e w))

pub loss_holds : (l r : State) (f : Frame) (tl tr : List Frame) (a b : ℕ) → Holds l r (f ∷ tl) tr a b → Holds l r tl tr a b
loss_holds l r f tl tr a b (inl w) = inl (record {
  left_phase = w.left_phase;
  right_phase = w.right_phase;
  left_new = w.left_new;
  right_new = w.right_new;
  rightward = w.rightward;
  leftward = w.leftward;
  left_only = w.left_only.1;
  right_only = w.right_only;
  left_setting = w.left_setting;
  right_setting = w.right_setting;
  left_coming = omega (arith, w.left_coming);
  right_coming = w.right_coming;
})
loss_holds l r f tl tr a b (inr (inl w)) = inr (inl (record { sound = pair_lost l r f tl tr w.sound; left_coming = w.left_coming.1; right_coming = w.right_coming; set_ups = w.set_ups }))
loss_holds l r f tl tr a b (inr (inr (inl w))) = inr (inr (inl (record { up = w.up; down = w.down; sound = both_lost_first (core l) (core r) f tl [] w.sound; left_coming = w.left_coming.1; right_coming = w.right_coming; set_ups = w.set_ups })))
loss_holds l r f tl tr a b (inr (inr (inr w))) = inr (inr (inr (record { up = w.up; down = w.down; sound = w.sound; left_coming = w.left_coming; right_coming = w.right_coming.1; set_ups = w.set_ups })))

pub other_holds : (l r : State) (tl tr : List Frame) (a b : ℕ) → Holds l r tl tr a b → Holds r l tr tl b a
other_holds l r tl tr a b (inl w) = inl (record {
  left_phase = w.right_phase;
  right_phase = w.left_phase;
  left_new = w.right_new;
  right_new = w.left_new;
  rightward = w.leftward;
  leftward = w.rightward;
  left_only = w.right_only;
  right_only = w.left_only;
  left_setting = w.right_setting;
  right_setting = w.left_setting;
  left_coming = w.right_coming;
  right_coming = w.left_coming;
})
other_holds l r tl tr a b (inr (inl w)) = inr (inl (record { sound = pair_swap l r tl tr w.sound; left_coming = w.right_coming; right_coming = w.left_coming; set_ups = omega (arith, w.set_ups) }))
other_holds l r tl tr a b (inr (inr (inl w))) = inr (inr (inr w))
other_holds l r tl tr a b (inr (inr (inr w))) = inr (inr (inl w))

-- ---- a run ----
-- an end that is Up is known to be or to have been
abbrev pub Marked : End → Type 0
Marked e = e.link.phase ≡ Up → e.was_up ≡ true

pub record Always (w : Ends) : Type 0 where
  pub holds : Holds w.left.link w.right.link w.left.coming w.right.coming w.left.set_ups w.right.set_ups
  pub left : Marked w.left
  pub right : Marked w.right

pub other_always : (w : Ends) → Always w → Always (swap w)
other_always w v = record { holds = other_holds w.left.link w.right.link w.left.coming w.right.coming w.left.set_ups w.right.set_ups v.holds; left = v.right; right = v.left }

pub other_clean : (w : Ends) → Clean (swap w) → Clean w
other_clean w c = record { set_ups = omega (arith, c.set_ups); left = c.right; right = c.left }

-- what a step of the left end shows, where it is clean
pub kept_by : (e : End) (g : Effect) (coming : List Frame) → Marked e → ((after e g coming).was_up ≡ true → g.link.phase ≡ Up) → Kept e.link g
kept_by e g coming m c = record {
  up = λ u. c (or_left e.was_up (is_up g.link.phase || told_opened g.notes) (m u));
  told = λ t. c (or_right e.was_up (is_up g.link.phase || told_opened g.notes) (or_right (is_up g.link.phase) (told_opened g.notes) t));
}

pub marked_after : (e : End) (g : Effect) (coming : List Frame) → Marked (after e g coming)
marked_after e g coming u = or_right e.was_up (is_up g.link.phase || told_opened g.notes) (or_left (is_up g.link.phase) (told_opened g.notes) (ap is_up u))

pub step_always : (now : ℕ) (i : Input) (w : Ends) (coming : List Frame) → Queue i w.left.coming coming → Always w → Clean (steps w (step_at now w.left.link i) coming) → Always (steps w (step_at now w.left.link i) coming)
step_always now i w coming e v c = record {
  holds = step_holds now i w.left.link w.right.link w.left.coming coming w.right.coming w.left.set_ups w.right.set_ups e c.set_ups (kept_by w.left (step_at now w.left.link i) coming v.left c.left) v.holds;
  left = marked_after w.left (step_at now w.left.link i) coming;
  right = v.right;
}

pub arrives_always : (now : ℕ) (w : Ends) (coming : List Frame) → w.left.coming ≡ coming → Always w → Clean (arrives w now coming) → Always (arrives w now coming)
arrives_always now w [] e v c = v
arrives_always now w (f ∷ fs) e v c = step_always (min now COUNT_MAX) (Arrive f) w fs e v c

pub loses_always : (w : Ends) (coming : List Frame) → w.left.coming ≡ coming → Always w → Always (loses w coming)
loses_always w [] e v = v
loses_always w (f ∷ fs) e v = record {
  holds = loss_holds w.left.link w.right.link f fs w.right.coming w.left.set_ups w.right.set_ups (subst (λ q. Holds w.left.link w.right.link q w.right.coming w.left.set_ups w.right.set_ups) e v.holds);
  left = v.left;
  right = v.right;
}

pub left_always : (w : Ends) (e : Event) → Always w → Clean (at_left w e) → Always (at_left w e)
left_always w (Calls Set_up now) v c = step_always (min now COUNT_MAX) Set_up w w.left.coming refl v c
left_always w (Calls (Send x) now) v c = step_always (min now COUNT_MAX) (Send x) w w.left.coming refl v c
left_always w (Calls (Arrive f) now) v c = v
left_always w (Calls Tick now) v c = step_always (min now COUNT_MAX) Tick w w.left.coming refl v c
left_always w (Calls Close now) v c = step_always (min now COUNT_MAX) Close w w.left.coming refl v c
left_always w (Calls Take now) v c = step_always (min now COUNT_MAX) Take w w.left.coming refl v c
left_always w (Comes now) v c = arrives_always now w w.left.coming refl v c
left_always w Lost v c = loses_always w w.left.coming refl v

pub happens_always : (w : Ends) (s : Side) (e : Event) → Always w → Clean (happens w s e) → Always (happens w s e)
happens_always w Left e v c = left_always w e v c
happens_always w Right e v c = other_always (at_left (swap w) e) (left_always (swap w) e (other_always w v) (other_clean (at_left (swap w) e) c))

pub clean_first : (w : Ends) (es : List (Side × Event)) → CleanRun w es → Clean w
clean_first w [] c = c
clean_first w (e ∷ es) c = c.0

pub clean_front : (w : Ends) (es fs : List (Side × Event)) → CleanRun w (es ++ fs) → CleanRun w es
clean_front w [] fs c = clean_first w fs c
clean_front w (e ∷ es) fs c = (c.0, clean_front (happens w e.0 e.1) es fs c.1)

pub run_always : (w : Ends) (es : List (Side × Event)) → Always w → CleanRun w es → Always (run w es)
run_always w [] v c = v
run_always w (e ∷ es) v c = run_always (happens w e.0 e.1) es (happens_always w e.0 e.1 v (clean_first (happens w e.0 e.1) es c.1)) c.1

pub down_not_up : (A : Type 0) (ph : LinkPhase) → ph ≡ Down → ph ≡ Up → A
down_not_up A ph d u = absurd (not_down (sym d ∙ u))

pub starts_always : (w : Ends) → Starts w → Always w
starts_always w s = record {
  holds = inl (record {
    left_phase = subst NotUp (sym s.left_down) tt;
    right_phase = subst NotUp (sym s.right_down) tt;
    left_new = s.left_new;
    right_new = s.right_new;
    rightward = s.rightward;
    leftward = s.leftward;
    left_only = subst SetUpsOnly (sym s.left_coming) tt;
    right_only = subst SetUpsOnly (sym s.right_coming) tt;
    left_setting = subst (λ k. setting k ≤ w.left.set_ups) (sym s.left_down) (omega arith);
    right_setting = subst (λ k. setting k ≤ w.right.set_ups) (sym s.right_down) (omega arith);
    left_coming = subst (λ k. length k ≤ w.right.set_ups) (sym s.left_coming) (omega arith);
    right_coming = subst (λ k. length k ≤ w.left.set_ups) (sym s.right_coming) (omega arith);
  });
  left = λ u. down_not_up (w.left.was_up ≡ true) w.left.link.phase s.left_down u;
  right = λ u. down_not_up (w.right.was_up ≡ true) w.right.link.phase s.right_down u;
}

-- ---- what it gives ----
pub both_safe : (w : Ends) (x y : List Frame) → Both (core w.left.link) (core w.right.link) x y → Safe w
both_safe w x y b = record {
  right_got = b.out.begun;
  left_got = b.back.begun;
  left_acked = (way_order (core w.left.link) (core w.right.link) y x b.out).0;
  right_acked = (way_order (core w.right.link) (core w.left.link) x y b.back).0;
}

pub holds_safe : (w : Ends) → Holds w.left.link w.right.link w.left.coming w.right.coming w.left.set_ups w.right.set_ups → Safe w
holds_safe w (inl h) = both_safe w [] [] (record { out = new_way w.left.link w.right.link [] [] h.rightward h.left_new h.right_new refl refl; back = new_way w.right.link w.left.link [] [] h.leftward h.right_new h.left_new refl refl })
holds_safe w (inr (inl h)) = both_safe w (counted w.left.link.phase w.left.coming) (counted w.right.link.phase w.right.coming) (record { out = h.sound.rightward; back = h.sound.leftward })
holds_safe w (inr (inr (inl h))) = both_safe w w.left.coming [] h.sound
holds_safe w (inr (inr (inr h))) = both_safe w [] w.right.coming (both_swap (core w.right.link) (core w.left.link) w.right.coming [] h.sound)

pub run_safe : (w : Ends) (es : List (Side × Event)) → Starts w → CleanRun w es → Safe (run w es)
run_safe w es s c = holds_safe (run w es) (run_always w es (starts_always w s) c).holds
