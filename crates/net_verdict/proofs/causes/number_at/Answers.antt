use Rattle.std.proofs.Common.{◌≡◌, ◌∙◌, sym, ap, arith, get_or, rules, true, false}
use Rattle.std.specs.Prelude.{is_some}
use Rattle.net_model.specs.declared.events.NumberedEvent.{NumberedEvent}
use Rattle.net_verdict.specs.Causes.{tells}
use Rattle.net_model.specs.Circuits.{event_at}
use Rattle.net_model.specs.Events.{event_of}
use Rattle.net_verdict.proofs.Blames.{goes_past, is_here, none_left, passes_by, tells_here}
use Rattle.net_verdict.proofs.causes.number_at.Goals as goal

pub loop-at-preserved-then-is_none : goal.loop-at-preserved-then-is_none
loop-at-preserved-then-is_none c = λ nodes e.
    let none : is_some c.circuit_event.result ≡ false = search rules in
    let x : NumberedEvent = get_or c.args.events.now c.loop-at.at c.index-events-at.result in
    let silent : tells (event_at nodes x.line (event_of x.event)) ≡ false = ap tells (c.circuit_event.ensures nodes x.line e) ∙ (tells_here x.line c.circuit_event.result ∙ none) in
    sym (passes_by c.args.events.now c.loop-at.at c.loop-at.left x nodes (omega arith) (ap (λ (d : NumberedEvent). get_or c.args.events.now c.loop-at.at d) c.index-events-at.is) silent) ∙ c.loop-at.invariant nodes e

pub loop-at-preserved : goal.loop-at-preserved
loop-at-preserved c = λ nodes e.
    let some : is_some c.circuit_event.result ≡ true = search rules in
    let x : NumberedEvent = get_or c.args.events.now c.loop-at.at c.index-events-at.result in
    let told : tells (event_at nodes x.line (event_of x.event)) ≡ true = ap tells (c.circuit_event.ensures nodes x.line e) ∙ (tells_here x.line c.circuit_event.result ∙ some) in
    sym (goes_past c.args.events.now c.loop-at.at c.loop-at.left x nodes (omega arith) (ap (λ (d : NumberedEvent). get_or c.args.events.now c.loop-at.at d) c.index-events-at.is) told (omega arith)) ∙ c.loop-at.invariant nodes e

pub returns-then-left-eq0 : goal.returns-then-left-eq0
returns-then-left-eq0 c = λ nodes e.
    let some : is_some c.circuit_event.result ≡ true = search rules in
    let x : NumberedEvent = get_or c.args.events.now c.loop-at.at c.index-events-at.result in
    let told : tells (event_at nodes x.line (event_of x.event)) ≡ true = ap tells (c.circuit_event.ensures nodes x.line e) ∙ (tells_here x.line c.circuit_event.result ∙ some) in
    sym (is_here c.args.events.now c.loop-at.at c.loop-at.left x nodes (omega arith) (ap (λ (d : NumberedEvent). get_or c.args.events.now c.loop-at.at d) c.index-events-at.is) told (omega arith)) ∙ c.loop-at.invariant nodes e

pub returns : goal.returns
returns c = λ nodes e. sym (none_left c.args.events.now c.loop-at.at c.loop-at.left _ nodes (omega arith)) ∙ c.loop-at.invariant nodes e
