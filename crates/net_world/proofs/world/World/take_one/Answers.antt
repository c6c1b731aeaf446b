use Rattle.std.proofs.Common.{◌∙◌, ap, sym, subst}
use Rattle.std.specs.Prelude.{Some, None}
use Rattle.std.proofs.lemmas.Result.{err_from_is_err_and}
use Rattle.net_world.specs.Agents.{AgentStands}
use Rattle.net_model.specs.Mailing.{Agent, heard_by, mail_at}
use Rattle.net_world.specs.Running.{course}
use Rattle.net_world.proofs.Runs.{refused_same, refused_still}
use Rattle.net_world.proofs.Turning.{asked, asking_stops, none_given, none_taken, none_waits, one_taken, takes_grow}
use Rattle.net_world.proofs.world.World.take_one.Goals as goal

pub returns-then-not-has_message-clause-ok : goal.returns-then-not-has_message-clause-ok
returns-then-not-has_message-clause-ok c = λ more a t.
    let none = sym c.if-not-has_message.true ∙ c.has_message.ensures a.world t.world in
    subst (λ (b : Agent). AgentStands (course c.args.self.now) c.args.answers.now.items b) (none_waits c.args.here.line c.args.here.node c.args.here.at c.args.id more a none) t

pub returns-in_err-answer-clause-err : goal.returns-in_err-answer-clause-err
returns-in_err-answer-clause-err c =
    let p = err_from_is_err_and c.from_residual.result c.from_residual.ensures.1 in
    rw (p.1, p.2) (λ more a t.
    let waits = sym c.if-not-has_message.false ∙ c.has_message.ensures a.world t.world in
    asking_stops c.args.here.line c.args.here.node c.args.here.at c.args.id more a _ waits (c.in_err-answer.ensures.err a.world t.world))

pub returns-in-Some-clause-ok : goal.returns-in-Some-clause-ok
returns-in-Some-clause-ok c = λ more a t.
    let message = c.deref.result.now in
    let from = Some c.in-Some.from in
    let b : Agent = asked c.args.here.line c.args.here.node c.args.here.at c.args.id a in
    let waits = sym c.if-not-has_message.false ∙ c.has_message.ensures a.world t.world in
    let said = rw c.in-Took.is at (c.in_ok-answer.ensures.answer a.world t.world) in (
      heard_by c.args.here.line c.args.here.node c.args.here.at c.args.id message from (mail_at c.args.here.at b.world) b,
      c.in_ok-hear-in-Some.ensures b (record { world = c.in_ok-answer.ensures.goes a.world t.world; answers = t.answers }),
      one_taken c.args.here.line c.args.here.node c.args.here.at c.args.id more a message from waits (sym c.in-Some.is ∙ c.partner_at-from.ensures a.world t.world) said.0 said.1 (said.2 ∙ ap (λ m. Some m) (sym c.deref.ensures.value)),
    )

pub returns-in_err-hear-in-Some-clause-err : goal.returns-in_err-hear-in-Some-clause-err
returns-in_err-hear-in-Some-clause-err c =
    let p = err_from_is_err_and c.from_residual-in_err-hear-in-Some.result c.from_residual-in_err-hear-in-Some.ensures.1 in
    rw (p.1, p.2) (λ more a t.
    let message = c.deref.result.now in
    let from = Some c.in-Some.from in
    let b : Agent = asked c.args.here.line c.args.here.node c.args.here.at c.args.id a in
    let waits = sym c.if-not-has_message.false ∙ c.has_message.ensures a.world t.world in
    let said = rw c.in-Took.is at (c.in_ok-answer.ensures.answer a.world t.world) in
    let heard : Agent = heard_by c.args.here.line c.args.here.node c.args.here.at c.args.id message from (mail_at c.args.here.at b.world) b in
    let whole = one_taken c.args.here.line c.args.here.node c.args.here.at c.args.id more a message from waits (sym c.in-Some.is ∙ c.partner_at-from.ensures a.world t.world) said.0 said.1 (said.2 ∙ ap (λ m. Some m) (sym c.deref.ensures.value)) in
    refused_same _ _ _ (ap (λ (x : Agent). x.world) (sym whole))
    (refused_still _ _ _ (takes_grow c.args.here.line c.args.here.node c.args.here.at c.args.id more heard) (c.in_err-hear-in-Some.ensures b (record { world = c.in_ok-answer.ensures.goes a.world t.world; answers = t.answers }))))

pub returns-in-Took-clause-ok : goal.returns-in-Took-clause-ok
returns-in-Took-clause-ok c = λ more a t.
    let b : Agent = asked c.args.here.line c.args.here.node c.args.here.at c.args.id a in
    let waits = sym c.if-not-has_message.false ∙ c.has_message.ensures a.world t.world in
    let said = rw c.in-Took.is at (c.in_ok-answer.ensures.answer a.world t.world) in (
      b,
      record { world = c.in_ok-answer.ensures.goes a.world t.world; answers = t.answers },
      one_taken c.args.here.line c.args.here.node c.args.here.at c.args.id more a c.in-Took.message.items None waits (sym c.in-None.is ∙ c.partner_at-from.ensures a.world t.world) said.0 said.1 said.2,
    )

pub returns-in-Done-clause-ok : goal.returns-in-Done-clause-ok
returns-in-Done-clause-ok c = λ more a t.
    let waits = sym c.if-not-has_message.false ∙ c.has_message.ensures a.world t.world in
    let said = rw c.in-Done.is at (c.in_ok-answer.ensures.answer a.world t.world) in
    subst (λ (b : Agent). AgentStands (course c.input.new.self) c.args.answers.now.items b)
    (none_taken c.args.here.line c.args.here.node c.args.here.at c.args.id more a waits said.0 said.1 said.2)
    (record { world = c.in_ok-answer.ensures.goes a.world t.world; answers = t.answers })

pub returns-clause-ok : goal.returns-clause-ok
returns-clause-ok c = λ more a t.
    let waits = sym c.if-not-has_message.false ∙ c.has_message.ensures a.world t.world in
    let said = rw c.in-Refused.is at (c.in_ok-answer.ensures.answer a.world t.world) in
    subst (λ (b : Agent). AgentStands (course c.input.new.self) c.args.answers.now.items b)
    (none_given c.args.here.line c.args.here.node c.args.here.at c.args.id more a waits said.0 said.1)
    (record { world = c.in_ok-answer.ensures.goes a.world t.world; answers = t.answers })
