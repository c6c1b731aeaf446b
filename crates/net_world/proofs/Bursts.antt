-- The texts of a burst, one after another.
use Rattle.std.proofs.Common.{◌≡◌, ◌+◌, ◌-◌, ◌∙◌, ℕ, suc, sym, ap, subst, [], ◌∷◌, length}
use Rattle.std.specs.Prelude.{Ok}
use Rattle.std.specs.Fmt.{decimal}
use Rattle.radio_base.specs.declared.modulus.LinkModulus.TheVariants.{Modulo8}
use Rattle.node_core.specs.declared.acts.ActDone.{ActDone}
use Rattle.node_core.specs.Acts.{UserAct, Write}
use Rattle.net_model.specs.declared.refusals.LineRefusal.{LineRefusal}
use Rattle.net_model.specs.declared.refusals.ReplayRefusal.{ReplayRefusal}
use Rattle.net_model.specs.Events.{Refused, Wrote}
use Rattle.net_model.specs.Lines.{all_wrote, burst_from, refusal_events}
use Rattle.net_model.specs.Answers.{IsRefusedFor}
use Rattle.net_model.specs.Traces.{IsRefusal}
use Rattle.net_model.specs.World.{Act, World, answer, put, reach, tell}
use Rattle.net_world.proofs.Growing.{burst_grows}
use Rattle.net_model.proofs.Looks.{burst_by}
use Rattle.net_world.proofs.Runs.{refused_still}
use Rattle.net_world.proofs.Telling.{tell_both}

-- ---- one text

abbrev pub text : ℕ → ℕ → UserAct
text end nth = Write end (decimal nth)

-- the world after a text that was taken, before the next
abbrev pub taken : ℕ → ℕ → ℕ → ℕ → ℕ → ℕ → World → World
taken line at node end nth more w = put line at Modulo8 (tell line (all_wrote node end nth more) (reach line at (Act (text end nth)) w))

-- after one that was refused
abbrev pub refused : ℕ → ℕ → ℕ → ℕ → ℕ → LineRefusal → World → World
refused line at node end nth why w =
    put line at Modulo8 (tell line (Refused why ∷ []) (tell line (Wrote node end (nth - 1) ∷ []) (reach line at (Act (text end nth)) w)))

pub when_taken : (line at node end nth more : ℕ) (x : ActDone) (w : World) → answer at (text end nth) w ≡ Ok x
    → burst_from line at node end nth (suc more) w ≡ burst_from line at node end (nth + 1) more (taken line at node end nth more w)
unfolding burst_from
when_taken line at node end nth more x w e =
    ap (λ r. burst_by line at node end nth more r (reach line at (Act (text end nth)) w)) e

pub when_refused : (line at node end nth more : ℕ) (why : LineRefusal) (w : World) → IsRefusedFor why (answer at (text end nth) w)
    → burst_from line at node end nth (suc more) w ≡ refused line at node end nth why w
unfolding burst_from
when_refused line at node end nth more why w e =
    let v : World = reach line at (Act (text end nth)) w in
    ap (λ r. burst_by line at node end nth more r v) e.1
    ∙ (ap (λ o. put line at Modulo8 (tell line (Wrote node end (nth - 1) ∷ refusal_events o) v)) e.2
    ∙ ap (put line at Modulo8) (sym (tell_both line (Wrote node end (nth - 1) ∷ []) (Refused why ∷ []) v)))

-- ---- stopped

pub taken_stops : (line at node end nth more : ℕ) (x : ActDone) (w : World) (e : ReplayRefusal) → answer at (text end nth) w ≡ Ok x
    → IsRefusal e (length (taken line at node end nth more w).air) → IsRefusal e (length (burst_from line at node end nth (suc more) w).air)
taken_stops line at node end nth more x w e is stop =
    let v : World = taken line at node end nth more w in
    subst (λ (u : World). IsRefusal e (length u.air)) (sym (when_taken line at node end nth more x w is))
    (refused_still e _ _ (burst_grows line at node end (nth + 1) more v) stop)

pub refused_stops : (line at node end nth more : ℕ) (why : LineRefusal) (w : World) (e : ReplayRefusal) → IsRefusedFor why (answer at (text end nth) w)
    → IsRefusal e (length (refused line at node end nth why w).air) → IsRefusal e (length (burst_from line at node end nth (suc more) w).air)
refused_stops line at node end nth more why w e is stop =
    subst (λ (u : World). IsRefusal e (length u.air)) (sym (when_refused line at node end nth more why w is)) stop
