-- New links start as the law asks, and a clean run carries a payload.
use Rattle.std.proofs.Common.{◌≡◌, ℕ, ◌+◌, ◌<◌, ◌≤◌, Bool, IsTrue, ◌⊎◌, inl, inr, true, false, [], ◌∷◌, refl, sym, subst, arith}
use Rattle.std.proofs.lemmas.Bool.Decides.{nat_tests}
use Rattle.radio_base.specs.declared.payload.Payload.{Payload}
use Rattle.ax_link.specs.declared.config.LinkConfig.{LinkConfig}
use Rattle.ax_link.specs.declared.phase.LinkPhase.TheVariants.{Up}
use Rattle.ax_link.specs.Opening.{opening, rules_new, window_used}
use Rattle.ax_link.specs.State.{places}
use Rattle.ax_link.specs.Pair.{Fits, IsNew, core}
use Rattle.ax_link.specs.Runs.{Clean, CleanRun, Ends, Starts, carrying, losing, new_ends, run, two_new}
use Rattle.ax_link.proofs.RunStates.{top_none}

fits_8 : (srej : Bool) (w : ℕ) → window_used 8 srej w < 8
fits_8 true w = grind (arith, nat_tests)
fits_8 false w = grind (arith, nat_tests)

fits_128 : (srej : Bool) (w : ℕ) → window_used 128 srej w < 128
fits_128 true w = grind (arith, nat_tests)
fits_128 false w = grind (arith, nat_tests)

both_8 : (v w : ℕ) → window_used 8 true v + window_used 8 true w ≤ 8
both_8 v w = grind (arith, nat_tests)

both_128 : (v w : ℕ) → window_used 128 true v + window_used 128 true w ≤ 128
both_128 v w = grind (arith, nat_tests)

pub window_fits : (size : ℕ) (srej : Bool) (w : ℕ) → (size ≡ 8) ⊎ (size ≡ 128) → window_used size srej w < size
window_fits size srej w (inl e) = subst (λ n. window_used n srej w < n) (sym e) (fits_8 srej w)
window_fits size srej w (inr e) = subst (λ n. window_used n srej w < n) (sym e) (fits_128 srej w)

both_fit : (size v w : ℕ) → (size ≡ 8) ⊎ (size ≡ 128) → window_used size true v + window_used size true w ≤ size
both_fit size v w (inl e) = subst (λ n. window_used n true v + window_used n true w ≤ n) (sym e) (both_8 v w)
both_fit size v w (inr e) = subst (λ n. window_used n true v + window_used n true w ≤ n) (sym e) (both_128 v w)

both_fit_by : (size v w : ℕ) (a b : Bool) → (size ≡ 8) ⊎ (size ≡ 128) → a ≡ b → IsTrue b → window_used size a v + window_used size b w ≤ size
both_fit_by size v w true true m e t = both_fit size v w m
both_fit_by size v w false true m e t = absurd (cc e)
both_fit_by size v w a false m e t = absurd (cc t)

new_fits : (size : ℕ) (a b : LinkConfig) → (size ≡ 8) ⊎ (size ≡ 128) → a.srej ≡ b.srej → Fits (core (opening (rules_new size a))) (core (opening (rules_new size b)))
new_fits size a b m s = record { size = refl; window = window_fits size a.srej a.window m; both = λ t. both_fit_by size a.window b.window a.srej b.srej m s t }

new_is_new : (size : ℕ) (c : LinkConfig) → IsNew (opening (rules_new size c))
new_is_new size c = record { acked = refl; sent = refl; high = omega (arith, top_none (places (rules_new size c))) }

pub new_starts : (size : ℕ) (a b : LinkConfig) → (size ≡ 8) ⊎ (size ≡ 128) → a.srej ≡ b.srej → Starts (new_ends (rules_new size a) (rules_new size b))
new_starts size a b m s = record {
  left_down = refl;
  right_down = refl;
  left_new = new_is_new size a;
  right_new = new_is_new size b;
  left_coming = refl;
  right_coming = refl;
  left_set_ups = refl;
  right_set_ups = refl;
  rightward = new_fits size a b m s;
  leftward = new_fits size b a m (sym s);
}

-- at most one set-up command was put out, and an end that has been Up is
not_up : (w : Ends) → w.left.set_ups + w.right.set_ups ≤ 1 → w.left.was_up ≡ false → w.right.was_up ≡ false → Clean w
not_up w s l r = record { set_ups = s; left = λ e. absurd (cc (e, l)); right = λ e. absurd (cc (e, r)) }

right_up : (w : Ends) → w.left.set_ups + w.right.set_ups ≤ 1 → w.left.was_up ≡ false → w.right.link.phase ≡ Up → Clean w
right_up w s l r = record { set_ups = s; left = λ e. absurd (cc (e, l)); right = λ e. r }

both_up : (w : Ends) → w.left.set_ups + w.right.set_ups ≤ 1 → w.left.link.phase ≡ Up → w.right.link.phase ≡ Up → Clean w
both_up w s l r = record { set_ups = s; left = λ e. l; right = λ e. r }

one : 1 + 0 ≤ 1
one = omega arith

pub carries : (p : Payload) → CleanRun (two_new false) (carrying p) × ((run (two_new false) (carrying p)).right.link.received ≡ p ∷ []) × ((run (two_new false) (carrying p)).left.link.acked ≡ 1)
carries p = (
  (not_up _ (omega arith) refl refl, (not_up _ one refl refl, (right_up _ one refl refl, (both_up _ one refl refl, (both_up _ one refl refl, (both_up _ one refl refl, both_up _ one refl refl)))))),
  refl,
  refl,
)

pub carries_early : (p q : Payload) → CleanRun (two_new true) (losing p q) × ((run (two_new true) (losing p q)).right.link.received ≡ p ∷ q ∷ []) × ((run (two_new true) (losing p q)).left.link.acked ≡ 2)
carries_early p q = (
  (
    not_up _ (omega arith) refl refl,
    (
      not_up _ one refl refl,
      (
        right_up _ one refl refl,
        (
          both_up _ one refl refl,
          (
            both_up _ one refl refl,
            (
              both_up _ one refl refl,
              (both_up _ one refl refl, (both_up _ one refl refl, (both_up _ one refl refl, (both_up _ one refl refl, both_up _ one refl refl)))),
            ),
          ),
        ),
      ),
    ),
  ),
  refl,
  refl,
)
