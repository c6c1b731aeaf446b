-- A network has one verdict: where none is one, none other is.
use Rattle.std.proofs.Common.{◌≡◌, ◌∙◌, ℕ, List, refl, sym, ap, subst, arith}
use Rattle.std.specs.Prelude.{Some, None, Ok}
use Rattle.circuit_verdict.specs.Verdicts.{AreInTime, events_of}
use Rattle.circuit_verdict.specs.declared.late.Late.{Late}
use Rattle.network_file.specs.Networks.{network_of}
use Rattle.network_file.specs.Plan.{Plan}
use Rattle.net_model.specs.Circuits.{what_was_told}
use Rattle.net_model.specs.Circuits.{IsVerdictOn, allowance_of, AirsFew, AirsTooMany, IsInTime, IsLate, IsNetwork}
use Rattle.net_model.specs.Lines.{world}
use Rattle.net_model.specs.World.{World}
use Rattle.net_model.proofs.WhatWasTold.{told_are}

one_verdict : (plan : Plan) (w : World) (late : Late) → IsVerdictOn plan w None → IsVerdictOn plan w (Some late) → ⊥
one_verdict plan w late a b =
    let same : events_of a.events ≡ events_of b.events =
    told_are a.events ∙ (ap what_was_told (a.are ∙ sym b.are) ∙ sym (told_are b.events)) in
    let ok = a.verdict.none.0 refl in
    let none = b.verdict.none.1 (subst (AreInTime (allowance_of plan)) same ok) in
    absurd (cc none)

-- and so has a file: there is nothing late in what has nothing late
module _ (bytes : List ℕ) (network : Plan) (read : network_of bytes ≡ Ok network) where
  pub in_time_not_late : IsVerdictOn network (world network) None → IsNetwork bytes IsLate → ⊥
  in_time_not_late verdict other =
      let some : Ok network ≡ Ok other.0 = sym read ∙ other.1 in
      let same : network ≡ other.0 = cc some in
      one_verdict other.0 (world other.0) other.2.1.0 (subst (λ n. IsVerdictOn n (world n) None) same verdict) other.2.1.1

  pub late_not_in_time : (late : Late) → IsVerdictOn network (world network) (Some late) → IsNetwork bytes IsInTime → ⊥
  late_not_in_time late verdict other =
      let some : Ok network ≡ Ok other.0 = sym read ∙ other.1 in
      let same : network ≡ other.0 = cc some in
      one_verdict other.0 (world other.0) late other.2.1 (subst (λ n. IsVerdictOn n (world n) (Some late)) same verdict)

  -- as many frames as may be there, or more
  pub few_many : AirsFew network → IsNetwork bytes AirsTooMany → ⊥
  few_many few other =
      let some : Ok network ≡ Ok other.0 = sym read ∙ other.1 in
      let same : network ≡ other.0 = cc some in
      let many : AirsTooMany network = subst AirsTooMany (sym same) other.2 in
      omega arith
