use Rattle.std.proofs.Common.{refl}
use Rattle.kiss_framing.proofs.Steps.{fed}
use Rattle.kiss_framing.proofs.deframer.Deframer.feed.Goals as goal

pub returns : goal.returns
returns c =
    let next = fed _ _ _ _ c.take_in-ends.ensures.stepped in
    rw (← c.self.view_is, c.item_of.ensures.item)
    ((refl, λ _. tt, next.goes_on), record { goes_on = tt; adds = next.adds; exact = next.exact; small = c.item_of.ensures.small })

pub invariant_of-self : goal.invariant_of-self
invariant_of-self c = c.take_in-ends.new.self.fits
