use Rattle.std.proofs.Common.{◌++◌, ◌∙◌, [], ◌∷◌, refl, subst, sym}
use Rattle.circuit_table.specs.Standing.{event_told}
use Rattle.node_core.specs.declared.entry.NodeEntry.TheVariants.{Set}
use Rattle.node_model.specs.Pumping.{pump}
use Rattle.node_core.specs.Standing.{Holds}
use Rattle.node_model.specs.Sessions.{hear_circuits}
use Rattle.node_model.specs.States.{Of_set, State}
use Rattle.node_core.proofs.Entering.{told_by_length}
use Rattle.node_core.proofs.Holding.{entered}
use Rattle.node_core.proofs.Nodes.{pumped_told}
use Rattle.node_core.proofs.Leading.{before_entering, nothing_lies, pumped_is, told_on, was_called}
use Rattle.node_core.proofs.station.Station.pump_on.Goals as goal

pub loop-now-preserved : goal.loop-now-preserved
loop-now-preserved c = λ n h.
    let now = c.args.now.0 in
    let i = c.loop-now.invariant n h in
    let s = c.loop-now.self in
    let event = c.in-Ok-Some.event in
    let pumps = rw c.in-Ok-Some.field-0-is at c.in-Ok-Some.ensures.pumps in
    let x = was_called c.parts.ensures.offers c.parts.ensures.takes c.parts.ensures.less now s c.pump.new.self i.0 _ i.1 c.in-Ok-Some.ensures.router pumps in
    let s1 = record s { set = c.pump.new.self } in
    let s2 = c.hear_circuits.new.self in
    let m : State = before_entering x.q i.0 in
    let ss = hear_circuits m.settings.prompt (event_told event) m.sessions in
    let hears = c.in_ok-hear_circuits-in-Ok-Some.ensures.goes m x.holds in
    let next : State = record m { sessions = ss; entries = i.0.entries ++ Of_set (event_told event) ∷ [] } in (
      next,
      entered s2 (record s2 { entries = c.push_back.new.self }) (Set event) c.in_ok-push_back-in-Ok-Some.ensures.items refl (record m { sessions = ss }) hears,
      ◌∙◌ {c = pump now next} i.2 (told_on now i.0 x.q (event_told event) x.told x.leads),
    )

pub returns-in-Ok-None-clause-did : goal.returns-in-Ok-None-clause-did
returns-in-Ok-None-clause-did c = λ n h.
    let now = c.args.now.0 in
    let i = c.loop-now.invariant n h in
    let s = c.loop-now.self in
    let pumps = rw c.in-Ok-None.field-0-is at c.in-Ok-None.ensures.pumps in
    let x = was_called c.parts.ensures.offers c.parts.ensures.takes c.parts.ensures.less now s c.pump.new.self i.0 _ i.1 c.in-Ok-None.ensures.router pumps in
    let s1 = record s { set = c.pump.new.self } in
    let held : Holds s1 (pump now n) = subst (Holds s1) (sym (i.2 ∙ pumped_is now i.0 x.q x.told x.leads)) x.holds in
    told_by_length c.args.self.now s1 n (pump now n) c.len-before.result c.len.result h held (c.len-before.ensures ∙ c.args.self.now.entries.ok.0) (c.len.ensures ∙ s.entries.ok.0)

pub returns-in-Ok-None-clause-goes : goal.returns-in-Ok-None-clause-goes
returns-in-Ok-None-clause-goes c = λ n h.
    let now = c.args.now.0 in
    let i = c.loop-now.invariant n h in
    let s = c.loop-now.self in
    let pumps = rw c.in-Ok-None.field-0-is at c.in-Ok-None.ensures.pumps in
    let x = was_called c.parts.ensures.offers c.parts.ensures.takes c.parts.ensures.less now s c.pump.new.self i.0 _ i.1 c.in-Ok-None.ensures.router pumps in
    subst (Holds (record s { set = c.pump.new.self })) (sym (i.2 ∙ pumped_is now i.0 x.q x.told x.leads)) x.holds

pub returns-clause-did : goal.returns-clause-did
returns-clause-did c = λ n h.
    let now = c.args.now.0 in
    let i = c.loop-now.invariant n h in
    let s = c.loop-now.self in
    let still : Holds s (pump now i.0) = nothing_lies c.parts.ensures.offers c.parts.ensures.takes c.parts.ensures.less now s i.0 i.1 (c.is_idle.ensures.pumps c.loop-now-test.false now) in
    let held : Holds s (pump now n) = subst (Holds s) (sym i.2) still in
    told_by_length c.args.self.now s n (pump now n) c.len-before.result c.len-2.result h held (c.len-before.ensures ∙ c.args.self.now.entries.ok.0) (c.len-2.ensures ∙ s.entries.ok.0)

pub returns-clause-goes : goal.returns-clause-goes
returns-clause-goes c = λ n h.
    let now = c.args.now.0 in
    let i = c.loop-now.invariant n h in
    let s = c.loop-now.self in
    subst (Holds s) (sym i.2) (nothing_lies c.parts.ensures.offers c.parts.ensures.takes c.parts.ensures.less now s i.0 i.1 (c.is_idle.ensures.pumps c.loop-now-test.false now))

pub returns-clause-told : goal.returns-clause-told
returns-clause-told c = λ n. pumped_told c.parts.ensures.offers c.parts.ensures.takes c.parts.ensures.less c.args.now.0 n

pub returns-in-Ok-None-clause-told : goal.returns-in-Ok-None-clause-told
returns-in-Ok-None-clause-told c = λ n. pumped_told c.parts.ensures.offers c.parts.ensures.takes c.parts.ensures.less c.args.now.0 n
