-- A network of which no datagram and no pair comes back too late is safe at each line.
use Rattle.std.proofs.Common.{◌≡◌, ◌∙◌, ◌≤◌, ℕ, refl, sym, ap, subst, arith, List, [], ◌∷◌, ◌++◌, append_assoc, map, Bool, true, false, cond}
use Rattle.std.specs.Prelude.{◌||◌, ◌==◌, nat_le, find, slice_get, unwrap_or, Option, None, Ok, Some}
use Rattle.std.specs.Option.{option_map}
use Rattle.std.specs.List.{AllByRecursion}
use Rattle.circuit_set.specs.Books.{Fresh, empty}
use Rattle.circuit_table.specs.Events.{Name}
use Rattle.circuit_set.specs.NotedRuns.{NarrowIsTimely}
use Rattle.circuit_set.specs.ByBook.{FreshByBook, TimelyBy128, TimelyByBook}
use Rattle.circuit_set.specs.TooLate.{AllowsByWindow, IsFresh, IsTimely}
use Rattle.circuit_table.specs.Runs.{AreNarrow, AreStarts, AreSteps, Step, end_in, end_named, events_of, sets_run}
use Rattle.circuit_set.specs.Safe.{CircuitsSafe, IsSafe, Safe, SafeEnd}
use Rattle.circuit_table.specs.Sets.{Holder}
use Rattle.circuit_verdict.specs.Verdicts as verdicts
use Rattle.circuit_verdict.specs.declared.allowance.Allowance.TheVariants as verdicts_at
use Rattle.network_file.specs.declared.plan.instructions.NumberedInstruction.{NumberedInstruction}
use Rattle.network_file.specs.declared.plan.declarations.Declaration.{Declaration}
use Rattle.network_file.specs.declared.plan.keys.Key.{Key}
use Rattle.network_file.specs.declared.plan.keys.Key.TheVariants.{Window}
use Rattle.network_file.specs.Keys.{Assignment, takes, is_of, same_key, value_of}
use Rattle.network_file.specs.Laws.{IsAllowed, SettingsFit}
use Rattle.network_file.specs.Networks.{network_of}
use Rattle.network_file.specs.Plan.{Plan, version_of}
use Rattle.net_laws.specs.Promises.{IsRunOf, NetworksAreSound, RunsThrough, WorldsAreRuns, InTimeIsSafe, SafeNow, end_now, end_with}
use Rattle.net_model.specs.SoundPlans.{first_sets, set_of}
use Rattle.net_model.specs.Circuits.{what_was_told}
use Rattle.net_model.specs.Circuits.{IsVerdictOn, allowance_of, circuit_events}
use Rattle.net_model.specs.Lines.{do_lines, world}
use Rattle.net_model.specs.Starting.{Placed, by_number, new_placed}
use Rattle.net_model.specs.World.{World, start}
use Rattle.net_model.proofs.WhatWasTold.{told_are}
use Rattle.net_laws.proofs.Moving.{set_is}
use Rattle.node_core.proofs.Tracing.{and_right}

-- ---- before version 3 no window is above 64

window_fits : (k : Key) (version value : ℕ) → same_key k Window ≡ true → takes version k value ≡ true → nat_le 3 version ≡ false → value ≤ 64
window_fits Window version value s t v = let fits : nat_le value 64 ≡ true = sym (ap (λ b. b || nat_le value 64) v) ∙ t in grind (arith, fits)
window_fits key version value s t v = absurd (cc s)

narrow_case : (b : Bool) (version node : ℕ) (s : Assignment) (ss : List Assignment) → is_of node Window s ≡ b → takes version s.key s.value ≡ true → nat_le 3 version ≡ false
    → unwrap_or (option_map (λ (x : Assignment). x.value) (find (is_of node Window) ss)) 4 ≤ 64
    → unwrap_or (option_map (λ (x : Assignment). x.value) (cond b (Some s) (find (is_of node Window) ss))) 4 ≤ 64
narrow_case true version node s ss e t v rest = window_fits s.key version s.value (and_right (s.node == node) (same_key s.key Window) e) t v
narrow_case false version node s ss e t v rest = rest

narrow_in : (version node : ℕ) (ss : List Assignment) → AllByRecursion (IsAllowed version) ss → nat_le 3 version ≡ false
    → unwrap_or (option_map (λ (x : Assignment). x.value) (find (is_of node Window) ss)) 4 ≤ 64
narrow_in version node [] all v = omega arith
narrow_in version node (s ∷ ss) all v = narrow_case (is_of node Window s) version node s ss refl all.0.1 v (narrow_in version node ss all.1 v)

are_narrow : (plan : Plan) (ds : List Declaration) → ((node : ℕ) → value_of plan.settings node Window ≤ 64) → AreNarrow (map set_of (map (new_placed plan) ds))
are_narrow plan [] h = tt
are_narrow plan (d ∷ ds) h =
    (subst (λ x. x.config.window ≤ 64) (sym (set_is plan d (record { index = 1; ident = 1 }) 1)) (h d.node), are_narrow plan ds h)

-- ---- what is in time by its verdict

-- by the allowance of the file's version
timely_case : (plan : Plan) (b : Bool) → nat_le 3 (version_of plan) ≡ b → FreshByBook → TimelyByBook → TimelyBy128 → (narrow : NarrowIsTimely) → AreStarts (first_sets plan) → (nat_le 3 (version_of plan) ≡ false → AreNarrow (first_sets plan))
    → (steps : List Step) → AreSteps steps → IsFresh (events_of (first_sets plan) steps)
    → IsTimely (verdicts.allows_of (allowance_of plan)) (events_of (first_sets plan) steps) → IsTimely AllowsByWindow (events_of (first_sets plan) steps)
timely_case plan true v pairs by_window by_128 narrow starts low steps are fresh t =
    subst (λ b. IsTimely (verdicts.allows_of (cond b verdicts_at.OfWindow verdicts_at.Fixed)) (events_of (first_sets plan) steps)) v t
timely_case plan false v pairs by_window by_128 narrow starts low steps are fresh t =
    let told = events_of (first_sets plan) steps in
    let noted : Fresh empty told = (pairs told).1 fresh in
    (by_window told noted).0
    (narrow (first_sets plan) starts (low v) steps are
    ((by_128 told noted).1 (subst (λ b. IsTimely (verdicts.allows_of (cond b verdicts_at.OfWindow verdicts_at.Fixed)) told) v t)))

-- a run of the nodes' circuits through all lines is in time
pub in_time_run : FreshByBook → TimelyByBook → TimelyBy128 → NetworksAreSound → NarrowIsTimely → SettingsFit → (bytes : List ℕ) (plan : Plan) → network_of bytes ≡ Ok plan → IsVerdictOn plan (world plan) None
    → (done later : List NumberedInstruction) (r : RunsThrough plan done later)
    → IsTimely AllowsByWindow (events_of (first_sets plan) (r.steps ++ r.then)) × IsFresh (events_of (first_sets plan) (r.steps ++ r.then))
in_time_run pairs by_window by_128 sounds narrow fit bytes plan e v done later r =
    let all : List Step = r.steps ++ r.then in
    let told : verdicts.events_of v.events ≡ events_of (first_sets plan) all =
    told_are v.events ∙ (ap what_was_told v.are ∙ r.all.told) in
    let ok = v.verdict.none.0 refl in
    let fresh : IsFresh (events_of (first_sets plan) all) = subst IsFresh told ok.1 in (
      timely_case plan (nat_le 3 (version_of plan)) refl pairs by_window by_128 narrow (sounds bytes plan e).starts
          (λ low. are_narrow plan (by_number plan.declared 1 16) (λ node. narrow_in (version_of plan) node plan.settings (fit bytes plan e) low))
          all r.all.are fresh (subst (IsTimely (verdicts.allows_of (allowance_of plan))) told ok.0),
      fresh,
    )

-- each line comes to a run of the nodes' circuits, which goes on to the last line, and is in time
pub record InTime (plan : Plan) (done later : List NumberedInstruction) : Type 0 where
  pub runs : RunsThrough plan done later
  pub timely : IsTimely AllowsByWindow (events_of (first_sets plan) (runs.steps ++ runs.then))
  pub fresh : IsFresh (events_of (first_sets plan) (runs.steps ++ runs.then))

pub in_time : FreshByBook → TimelyByBook → TimelyBy128 → NetworksAreSound → WorldsAreRuns → NarrowIsTimely → SettingsFit → (bytes : List ℕ) (plan : Plan) → network_of bytes ≡ Ok plan → IsVerdictOn plan (world plan) None
    → (done later : List NumberedInstruction) → plan.instructions ≡ done ++ later → InTime plan done later
in_time pairs by_window by_128 sounds runs narrow fit bytes plan e v done later is =
    let r : RunsThrough plan done later = runs bytes plan e done later is in
    let t = in_time_run pairs by_window by_128 sounds narrow fit bytes plan e v done later r in record { runs = r; timely = t.0; fresh = t.1 }

-- ---- the ends that the nodes know of
module _ (plan : Plan) (steps : List Step) (w : World) (run : IsRunOf plan steps w) where
  abbrev ends : Name → Option Holder
  ends = end_named (sets_run (first_sets plan) steps)

  held_case : (x : Name) (h : Holder) (o : Option Placed) → slice_get w.nodes x.node ≡ o → end_with o x.id ≡ Some h → ends x ≡ Some h
  held_case x h None e q = absurd (cc q)
  held_case x h (Some p) e q = let r = run.nodes x.node p e in ap (λ o. end_in o x.id) r.1 ∙ r.2.held x.id h q

  -- the run has them
  held : (x : Name) (h : Holder) → end_now w x ≡ Some h → ends x ≡ Some h
  held x h q = held_case x h (slice_get w.nodes x.node) refl q

  safe_now : Safe (first_sets plan) steps → SafeNow w
  safe_now safe x h q =
      let s : IsSafe (first_sets plan) steps x h = safe x h (held x h q) in
      let t : SafeEnd (map (λ e. e.event) (circuit_events w)) ends x h = subst (λ es. SafeEnd es ends x h) (sym run.told) s.end in
      record { joined = λ y k j there. t.joined y k j (held y k there); back = t.back; alone = t.alone }

pub in_time_is_safe : FreshByBook → TimelyByBook → TimelyBy128 → NetworksAreSound → WorldsAreRuns → CircuitsSafe → NarrowIsTimely → SettingsFit → InTimeIsSafe
in_time_is_safe pairs by_window by_128 sounds runs safe narrow fit bytes plan e v done later is =
    let t : InTime plan done later = in_time pairs by_window by_128 sounds runs narrow fit bytes plan e v done later is in
    let r : RunsThrough plan done later = t.runs in
    record {
      now = safe_now plan r.steps (do_lines plan done (start plan)) r.is (safe (first_sets plan) (sounds bytes plan e).starts r.steps r.then r.all.are t.timely t.fresh);
      steps = r.steps;
      run = r.is;
      safe = λ before after s. (let whole : r.steps ++ r.then ≡ before ++ (after ++ r.then) = ap (λ xs. xs ++ r.then) s ∙ append_assoc before after r.then in
          safe (first_sets plan) (sounds bytes plan e).starts before (after ++ r.then) (subst AreSteps whole r.all.are)
          (subst (λ xs. IsTimely AllowsByWindow (events_of (first_sets plan) xs)) whole t.timely) (subst (λ xs. IsFresh (events_of (first_sets plan) xs)) whole t.fresh));
    }
