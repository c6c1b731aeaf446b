use Rattle.std.proofs.Common.{◌∙◌, sym}
use Rattle.link_table.proofs.Kept.{offer_keeps_on}
use Rattle.link_table.proofs.Sending.{when_ok}
use Rattle.link_table.proofs.Tables.{offers_if_ok}
use Rattle.link_table.proofs.table.LinkTableCarrier.offer.Goals as goal

pub invariant_of-self : goal.invariant_of-self
invariant_of-self c unspent = when_ok c.offer-offered.result _ c.offer-offered.ensures.rests (sym c.is_err-self-inside.ensures.value ∙ unspent)

pub returns-clause-made : goal.returns-clause-made
returns-clause-made c = rw (← c.self.view_is) (
    offers_if_ok c.offer-offered.result c.args.to.now c.args.datagram.now c.args.now.0 c.self.inside.core c.offer-offered.new.self c.self.inside.spent
    c.is_err-self-inside.result c.is_err-self-inside.ensures.value c.offer-offered.ensures.offers)

pub returns-clause-kept : goal.returns-clause-kept
returns-clause-kept c = offer_keeps_on c.offer-offered.result c.args.to.now c.args.datagram.now c.args.now.0 _ _ c.kept.ensures (returns-clause-made c)
