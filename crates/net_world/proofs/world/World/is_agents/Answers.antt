use Rattle.std.proofs.Common.{◌∙◌, refl, sym, true, false}
use Rattle.std.specs.Prelude.{is_some}
use Rattle.std.specs.Option.{option_copied}
use Rattle.circuit_table.specs.CircuitSets.{facts_at}
use Rattle.circuit_table.specs.Sets.{end_of}
use Rattle.net_model.specs.Mailing.{ends_here}
use Rattle.net_world.specs.Running.{course}
use Rattle.net_world.proofs.Looking.{agents_is, lent_held}
use Rattle.net_model.proofs.Stores.{copied_some}
use Rattle.net_world.proofs.Turning.{stores_as}
use Rattle.net_world.proofs.world.World.is_agents.Goals as goal

pub returns-then-keeps_mail : goal.returns-then-keeps_mail
returns-then-keeps_mail c = λ w t.
    let at = c.place_of-at.result in
    let o = end_of c.args.end (ends_here at w) in
    agents_is (course c.args.self.now) w c.args.number at c.args.end true c.is_some.result c.place_of-at.ensures t
    (sym c.if-keeps_mail.true ∙ c.keeps_mail.ensures w.nodes w.mails (stores_as w.nodes w.mails c.deref.ensures.value t.trace.members))
    (c.is_some.ensures ∙ (sym (copied_some c.end_at.result) ∙ lent_held (option_copied c.end_at.result) o (c.end_at.ensures w t)))

pub returns-else-keeps_mail : goal.returns-else-keeps_mail
returns-else-keeps_mail c = λ w t.
    let at = c.place_of-at.result in
    let held = is_some (facts_at (end_of c.args.end (ends_here at w))) in
    c.if-keeps_mail.false
    ∙ agents_is (course c.args.self.now) w c.args.number at c.args.end false held c.place_of-at.ensures t
    (sym c.if-keeps_mail.false ∙ c.keeps_mail.ensures w.nodes w.mails (stores_as w.nodes w.mails c.deref.ensures.value t.trace.members)) refl
