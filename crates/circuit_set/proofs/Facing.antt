-- Partners name each other's nodes.
use Rattle.std.specs.Prelude.{◌≡◌, List, [], ◌∷◌, slice_get, Option, Some, None, refl}
use Rattle.std.proofs.Common.{subst, inl, inr}
use Rattle.circuit_set.specs.Books.{MadeNote, with_events, partner}
use Rattle.circuit_table.specs.Events.{Name}
use Rattle.circuit_set.specs.NotedRuns.{Net, begins, net_run, net_step}
use Rattle.circuit_set.specs.Facing.{Faces, PartnersFace}
use Rattle.circuit_table.specs.Runs.{AreSteps, IsAct, Step, sets_at, told_at}
use Rattle.circuit_table.specs.Sets.{SetState}
use Rattle.circuit_set.proofs.Knowing.{Known, MadeOk, Opened}
use Rattle.circuit_set.proofs.Learning.{start_known, step_known}
use Rattle.circuit_set.proofs.Partners.{Partner, of_made, partner_of}
use Rattle.circuit_set.proofs.Retries.{Both, start_lives, step_lives}

-- ---- a run ----
step_case : (net : Net) → Known net → Both net → (st : Step) → IsAct st.act → (o : Option SetState) → slice_get net.sets st.node ≡ o
    → Known (record { sets = sets_at net.sets st.node o st.act; book = with_events net.book (told_at net.sets st.node o st.act) })
step_case net k both st is None e = k
step_case net k both st is (Some s) e = step_known net k st.node s e (both.0 st.node s e) st.act is

run_known : (net : Net) (steps : List Step) → Known net → Both net → AreSteps steps → Known (net_run net steps)
run_known net [] k both are = k
run_known net (st ∷ sts) k both are =
    run_known (net_step net st) sts (step_case net k both st are.0 (slice_get net.sets st.node) refl) (step_lives net st (slice_get net.sets st.node) both refl) are.1

-- ---- who is whose partner ----
asked : (net : Net) (m : MadeNote) (x y : Name) → Opened net m x → m.who ≡ y → Faces net x y
asked net m x y o e = subst (λ z. Faces net x z) e (record { mine = o.asker; here = o.there; other = o.end; there = o.here; at = o.to; back = o.from })

asker : (net : Net) (m : MadeNote) (x y : Name) → Opened net m y → m.who ≡ x → Faces net x y
asker net m x y o e = subst (λ z. Faces net z y) e (record { mine = o.end; here = o.here; other = o.asker; there = o.there; at = o.from; back = o.to })

faces : (net : Net) (x y : Name) → Known net → partner net.book x ≡ Some y → Faces net x y
faces net x y k h =
    let p : Partner net.book.made x y = partner_of net.book.made x y h in
    let ok : MadeOk net p.note = of_made (MadeOk net) net.book.made p.note k.made p.inside in
    elim p.which [
      | inl met ↦ asked net p.note x y (ok.opened x met.0) met.1
      | inr own ↦ asker net p.note x y (ok.opened y own.1) own.0
    ]

pub partners_face : PartnersFace
partners_face sets starts calls steps are x y h =
    let net : Net = net_run (begins sets) steps in
    faces net x y (run_known (begins sets) steps (start_known sets starts calls) (start_lives sets starts) are) h
