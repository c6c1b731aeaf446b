use Rattle.std.proofs.Common.{◌∙◌, sym, subst, append-nil}
use Rattle.kiss_framing.specs.Stream.{items}
use Rattle.cmd_streams.proofs.StreamItems.{nothing_more}
use Rattle.cmd_streams.proofs.items.take_next.Goals as goal

-- no item, no answer
pub returns-in-None-clause-takes : goal.returns-in-None-clause-takes
returns-in-None-clause-takes g c = λ stream stands first text more is took.
    let same = rw c.in-None.is at (c.feed_until_item.ensures.adds stream stands) ∙ append-nil (items stream) in
    rw (nothing_more c.args.answer.now more is, append-nil text) (subst (λ is. g.T.ItemTaker.took first c.args.taker.now is text) (sym same) took)
