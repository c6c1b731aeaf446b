use Rattle.std.proofs.Common.{[], Some}
use Rattle.kiss_framing.specs.Feeding.{handed_out}
use Rattle.station_live.proofs.taking.take_next.Goals as goal

pub returns-in_ok-take_item-in-Some-clause-goes : goal.returns-in_ok-take_item-in-Some-clause-goes
returns-in_ok-take_item-in-Some-clause-goes c = λ stream stands.
    (handed_out (Some c.in-Some.item), rw c.in-Some.is at (c.feed_until_item.ensures.adds stream stands), c.in_ok-take_item-in-Some.ensures)

-- no item
pub returns-in-None-clause-goes : goal.returns-in-None-clause-goes
returns-in-None-clause-goes c = λ stream stands. ([], rw c.in-None.is at (c.feed_until_item.ensures.adds stream stands), λ s h. h)
