-- A set holds at most 64 ends.
use Rattle.std.specs.Prelude.{◌≡◌, ℕ, zero, suc, ◌≤◌, Bool, true, false, if◌then◌else◌, List, [], ◌∷◌, length, refl}
use Rattle.std.proofs.Common.{sym, subst, arith, length-append}
use Rattle.std.proofs.lemmas.Bool.Decides.{nat_tests}
use Rattle.circuit_l4.specs.declared.pair.Pair.{Pair}
use Rattle.circuit_table.specs.Givings.{GivenBy, IsUp, after_changes, giving}
use Rattle.circuit_table.specs.Pumps.{runs}
use Rattle.circuit_table.specs.Kept.{HoldsFew}
use Rattle.circuit_table.specs.Pairs.{Change, EndMade, Giving, EndGone, after_giving, pair_given, is_full, without}
use Rattle.circuit_table.specs.Sets.{Act, Calls, Comes, Connect, ConnectFor, Discard, Restart, Holder, SetState, all_gone, held_pairs, set_step}
use Rattle.circuit_set.proofs.Given.{Numbers, runs_given, start_numbers, step_numbers}

without_few : (n : ℕ) (ps : List Pair) → length (without n ps) ≤ length ps
without_few n [] = omega arith
without_few zero (p ∷ ps) = omega arith
without_few (suc n) (p ∷ ps) = omega (arith, without_few n ps)

abbrev Later : List Change → Type 0
Later cs = (g : Giving) → length g.held ≤ 64 → length (after_changes cs g).held ≤ 64

gives_few : (b : Bool) (cs : List Change) (g : Giving) → is_full g ≡ b → length g.held ≤ 64 → Later cs → length (if b then after_changes cs g else after_changes cs (after_giving g)).held ≤ 64
gives_few true cs g e few later = later g few
gives_few false cs g e few later =
    let fewer : length g.held ≤ 63 = grind (arith, nat_tests) in
    later (after_giving g) (omega (arith, length-append g.held (pair_given g ∷ []), fewer))

after_few : (cs : List Change) → Later cs
after_few [] g few = few
after_few (EndMade ∷ cs) g few = gives_few (is_full g) cs g refl few (after_few cs)
after_few (EndGone nth ∷ cs) g few = after_few cs (record { next = g.next; held = without nth g.held }) (omega (arith, without_few nth g.held, few))

none_held : (hs : List Holder) → held_pairs (all_gone hs) ≡ []
none_held [] = refl
none_held (h ∷ hs) = none_held hs

module _ (s : SetState) (nums : Numbers s) (few : length (held_pairs s.ends) ≤ 64) where
  up_few : (a : Act) → IsUp a → length (held_pairs (set_step s a).set.ends) ≤ 64
  up_few a up =
      let g : GivenBy s (runs (a ∷ []) s) = runs_given (a ∷ []) s nums (up, tt) in
      subst (λ (x : Giving). length x.held ≤ 64) (sym g.stands) (after_few g.changes (giving s) few)

  step_few : (a : Act) → length (held_pairs (set_step s a).set.ends) ≤ 64
  step_few (Connect dest now) = up_few (Connect dest now) tt
  step_few (ConnectFor user dest now) = up_few (ConnectFor user dest now) tt
  step_few (Comes d now) = up_few (Comes d now) tt
  step_few (Calls id call now) = up_few (Calls id call now) tt
  step_few (Discard id) = up_few (Discard id) tt
  step_few (Restart pair more) = subst (λ ps. length ps ≤ 64) (sym (none_held s.ends)) (omega arith)

runs_few : (acts : List Act) (s : SetState) → Numbers s → length (held_pairs s.ends) ≤ 64 → length (held_pairs (runs acts s).set.ends) ≤ 64
runs_few [] s nums few = few
runs_few (a ∷ acts) s nums few = runs_few acts (set_step s a).set (step_numbers s nums a) (step_few s nums few a)

pub holds_few : HoldsFew
holds_few s start acts = runs_few acts s (start_numbers s start) (subst (λ hs. length (held_pairs hs) ≤ 64) (sym start.none) (omega arith))
