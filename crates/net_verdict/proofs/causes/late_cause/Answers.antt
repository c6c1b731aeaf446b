use Rattle.std.proofs.Common.{◌≡◌, ◌∙◌, [], List, map, ap, subst, refl}
use Rattle.circuit_verdict.specs.Verdicts.{AreInTime}
use Rattle.net_verdict.specs.Causes.{ComesLateBy, Finds, HasTaken, sign_of}
use Rattle.net_model.specs.Circuits.{what_was_told}
use Rattle.net_model.specs.Circuits.{allowance_of, events_at}
use Rattle.net_model.specs.Events as events
use Rattle.net_model.specs.Events.{numbered_of}
use Rattle.net_model.specs.Standing.{AreDeclared}
use Rattle.net_verdict.proofs.LateLines.{cause_is, empty_in_time, no_cause}
use Rattle.net_verdict.proofs.causes.late_cause.Goals as goal
use Rattle.net_model.specs.declared.members.Member.{Member}
use Rattle.net_model.proofs.Stores.{all_declared}
use Rattle.net_model.specs.Traces.{left_of}

pub returns-in-Some : goal.returns-in-Some
returns-in-Some c = λ plan w late allowed trace verdict.
    let start : HasTaken (allowance_of plan) c.new-verdict.result [] =
    record { allows = c.new-verdict.ensures.allowance ∙ (c.allowance.ensures ∙ allowed); events = []; are = refl; stands = c.new-verdict.ensures.start; in_time = empty_in_time (allowance_of plan) } in
    let declared : AreDeclared c.members-members.result.now w.nodes = ap (map (λ (m : Member). m.declared)) c.members-members.ensures ∙ all_declared (left_of c.args.trace.now).members w.nodes w.mails trace.members in
    let same : map numbered_of c.events-events.result.now ≡ w.told = ap (map numbered_of) c.events-events.ensures ∙ trace.told in
    let comes = subst (Finds (allowance_of plan) w.nodes (map numbered_of c.events-events.result.now)) c.in-Some.is (c.in_ok-event.ensures (allowance_of plan) w.nodes declared start) in
    cause_is plan w late (record { event = c.in-Some.event; sign = c.sign_of-sign.result }) c.in-Some.cause
    (subst (λ es. ComesLateBy (allowance_of plan) w.nodes es c.in-Some.event c.in-Some.cause) same comes)
    (c.sign_of-sign.ensures w.nodes declared ∙ ap (λ es. sign_of w.nodes es c.in-Some.cause) same) verdict

pub returns : goal.returns
returns c = λ plan w late allowed trace verdict.
    let start : HasTaken (allowance_of plan) c.new-verdict.result [] =
    record { allows = c.new-verdict.ensures.allowance ∙ (c.allowance.ensures ∙ allowed); events = []; are = refl; stands = c.new-verdict.ensures.start; in_time = empty_in_time (allowance_of plan) } in
    let declared : AreDeclared c.members-members.result.now w.nodes = ap (map (λ (m : Member). m.declared)) c.members-members.ensures ∙ all_declared (left_of c.args.trace.now).members w.nodes w.mails trace.members in
    let same : map numbered_of c.events-events.result.now ≡ w.told = ap (map numbered_of) c.events-events.ensures ∙ trace.told in
    let all = subst (Finds (allowance_of plan) w.nodes (map numbered_of c.events-events.result.now)) c.in-None.is (c.in_ok-event.ensures (allowance_of plan) w.nodes declared start) in
    no_cause plan w late (subst (λ (es : List events.NumberedEvent). AreInTime (allowance_of plan) (what_was_told (events_at w.nodes es))) same all) verdict
