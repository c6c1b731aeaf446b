use Rattle.std.proofs.Common.{◌∙◌, refl, sym, true, false}
use Rattle.circuit_table.specs.Sets.{end_of}
use Rattle.net_world.specs.Agents.{is_up_end}
use Rattle.net_model.specs.Mailing.{ends_here}
use Rattle.net_world.proofs.Looking.{dest_when}
use Rattle.net_world.proofs.world.World.dest_of.Goals as goal

pub returns-then-not-is_requested : goal.returns-then-not-is_requested
returns-then-not-is_requested c = λ w t.
    let o = end_of c.args.id (ends_here c.args.at w) in
    dest_when o false (is_up_end o) (sym c.if-not-is_requested.true ∙ c.is_requested.ensures w t) refl

pub returns-then-not-is_up : goal.returns-then-not-is_up
returns-then-not-is_up c = λ w t.
    let o = end_of c.args.id (ends_here c.args.at w) in
    dest_when o true false (sym c.if-not-is_requested.false ∙ c.is_requested.ensures w t) (sym c.if-not-is_up.true ∙ c.is_up.ensures w t)

pub returns : goal.returns
returns c = λ w t.
    let o = end_of c.args.id (ends_here c.args.at w) in
    c.partner_at.ensures w t
    ∙ dest_when o true true (sym c.if-not-is_requested.false ∙ c.is_requested.ensures w t) (sym c.if-not-is_up.false ∙ c.is_up.ensures w t)
