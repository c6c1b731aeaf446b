use Rattle.std.proofs.Common.{◌∙◌, ap}
use Rattle.std.specs.Prelude.{Option}
use Rattle.kiss_framing.specs.Feeding.{handed_out}
use Rattle.kiss_framing.specs.declared.item.KissItem.{KissItem}
use Rattle.kiss_framing.proofs.Handing.{handed_is}
use Rattle.node_core.proofs.feeding.take_given.Goals as goal

pub returns-in_ok-settle-in-Some-clause-goes : goal.returns-in_ok-settle-in-Some-clause-goes
returns-in_ok-settle-in-Some-clause-goes c =
    rw (ap (λ (o : Option KissItem). handed_out o) c.in-Some.is ∙ handed_is c.in-Some.item)
    (λ n h. c.in_ok-settle-in-Some.ensures.goes _ (c.in_ok-take_item-in-Some.ensures n h))
