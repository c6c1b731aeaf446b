use Rattle.std.proofs.Common.{◌∙◌, ap, is_err, sym, subst}
use Rattle.link_table.specs.Standing.{TableStands, shown, text_at}
use Rattle.link_table.specs.Texts as texts
use Rattle.link_table.proofs.Kept.{keeps_on}
use Rattle.link_table.proofs.Tables.{goes_as}
use Rattle.link_table.proofs.TextLifting.{no_text, text_same, took, took_none}
use Rattle.link_table.proofs.table.LinkTable.take_text.Goals as goal

pub returns-then-not-text_waits-clause-goes : goal.returns-then-not-text_waits-clause-goes
returns-then-not-text_waits-clause-goes c = rw (← c.self.view_is) (λ t s.
    subst (TableStands (shown c.self.inside.core c.self.inside.spent))
    (sym (took_none c.self.inside.core c.args.peer.now c.args.now.0 c.text_waits.result t s.links c.text_waits.ensures c.if-not-text_waits.true)) s)

pub returns-then-not-text_waits-clause-answer : goal.returns-then-not-text_waits-clause-answer
returns-then-not-text_waits-clause-answer c = rw (← c.self.view_is) (λ t s.
    no_text (text_at c.args.peer.now c.self.inside.core.links.entries) c.text_waits.result c.text_waits.ensures c.if-not-text_waits.true
    ∙ sym (text_same c.self.inside.core.own c.args.peer.now c.self.inside.core.links.entries t s.links))

pub returns-clause-goes : goal.returns-clause-goes
returns-clause-goes c = rw (← c.self.view_is) (
    goes_as (texts.take_text c.args.peer.now c.args.now.0) c.self.inside.core c.take_text-taken.new.self c.self.inside.spent c.is_err-self-inside.result
    (c.is_err-self-inside.ensures.value ∙ ap is_err c.in_ok-taken.was)
    (took c.self.inside.core c.take_text-taken.new.self c.args.peer.now c.args.now.0 c.text_waits.result c.text_waits.ensures c.if-not-text_waits.false (rw c.in_ok-taken.was at c.take_text-taken.ensures.goes)))

pub returns-clause-answer : goal.returns-clause-answer
returns-clause-answer c = rw (← c.self.view_is) (λ t s.
    sym (text_same c.self.inside.core.own c.args.peer.now c.self.inside.core.links.entries t s.links ∙ (rw c.in_ok-taken.was at c.take_text-taken.ensures.text)))

pub returns-then-not-text_waits-clause-kept : goal.returns-then-not-text_waits-clause-kept
returns-then-not-text_waits-clause-kept c = rw (← c.self.view_is) (λ t s. c.kept.ensures (shown c.self.inside.core c.self.inside.spent) t s)

pub returns-clause-kept : goal.returns-clause-kept
returns-clause-kept c = keeps_on (texts.take_text c.args.peer.now c.args.now.0) _ _ c.kept.ensures (returns-clause-goes c)
