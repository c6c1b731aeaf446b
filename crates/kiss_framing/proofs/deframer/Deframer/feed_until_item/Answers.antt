use Rattle.std.proofs.Common.{refl}
use Rattle.kiss_framing.proofs.Runs.{fed_some, all_taken}
use Rattle.kiss_framing.proofs.deframer.Deframer.feed_until_item.Goals as goal

pub returns : goal.returns
returns c =
    let next = fed_some _ _ _ c.take_in_some-count.result.1 _ _ c.take_in_some-count.ensures in
    rw (← c.self.view_is, c.item_of.ensures.item) (
      (refl, λ _. tt, next.goes_on),
      record {
        goes_on = tt;
        adds = next.adds;
        first = next.first;
        all = all_taken _ _ _ c.take_in_some-count.result.1 _ _ c.item_of.result c.take_in_some-count.ensures c.item_of.ensures.item;
        within = next.within;
        moves = next.moves;
        small = c.item_of.ensures.small;
      },
    )

pub invariant_of-self : goal.invariant_of-self
invariant_of-self c = c.take_in_some-count.new.self.fits
