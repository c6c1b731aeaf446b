use Rattle.std.proofs.Common.{◌∙◌, [], ◌∷◌, refl, subst, sym}
use Rattle.link_table.specs.Calls as calls
use Rattle.node_core.specs.declared.entry.NodeEntry.TheVariants.{Link}
use Rattle.node_model.specs.Serving.{enter_notices}
use Rattle.node_core.specs.Standing.{Holds}
use Rattle.node_model.specs.Sessions.{hear_link}
use Rattle.node_model.specs.States.{Of_link, State, at_links, at_sessions, enter}
use Rattle.node_core.proofs.Entering.{none_fetched, none_to_enter, notice_moves, told_some}
use Rattle.node_core.proofs.Hearing.{heard_link}
use Rattle.node_core.proofs.Holding.{entered, with_sessions}
use Rattle.node_core.proofs.station.Station.enter_each.Goals as goal

pub loop-told-preserved : goal.loop-told-preserved
loop-told-preserved c = λ n h.
    let i = c.loop-told.invariant n h in
    let peer = c.in-Some.told.0 in
    let note = c.in-Some.told.1 in
    let s = c.next_notice.new.self in
    let s2 = c.hear_link.new.self in
    let m : State = at_links calls.notice i.0 in
    let h1 = c.next_notice.ensures.goes i.0 i.1 in
    let m2 : State = at_sessions (hear_link peer note) m in
    let h2 = with_sessions s s2 m2.sessions (c.hear_link.ensures.sessions ∙ heard_link s m peer note h1) c.hear_link.ensures.same m h1 in (
      enter (Of_link peer note ∷ []) m2,
      entered s2 (record s2 { entries = c.push_back.new.self }) (Link peer note) c.in_ok-push_back.ensures.items refl m2 h2,
      i.2 ∙ notice_moves peer note i.0 (c.in-Some.ensures.answer i.0 i.1),
    )

pub returns-clause-did : goal.returns-clause-did
returns-clause-did c = λ n h.
    let i = c.loop-told.invariant n h in
    let none = sym c.in_default.is ∙ c.next_notice.ensures.answer i.0 i.1 in
    let s = c.next_notice.new.self in
    let held : Holds s (enter_notices n) = subst (Holds s) (none_fetched i.0 none ∙ sym (i.2 ∙ none_to_enter i.0 none)) (c.next_notice.ensures.goes i.0 i.1) in
    told_some c.args.self.now s n c.len-before.result c.len.result h held (c.len-before.ensures ∙ c.args.self.now.entries.ok.0) (c.len.ensures ∙ s.entries.ok.0)

pub returns-clause-goes : goal.returns-clause-goes
returns-clause-goes c = λ n h.
    let i = c.loop-told.invariant n h in
    let none = sym c.in_default.is ∙ c.next_notice.ensures.answer i.0 i.1 in
    let s = c.next_notice.new.self in
    subst (Holds s) (none_fetched i.0 none ∙ sym (i.2 ∙ none_to_enter i.0 none)) (c.next_notice.ensures.goes i.0 i.1)
