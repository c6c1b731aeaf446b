use Rattle.node_core.proofs.Framing.{frame_adds, frame_held}
use Rattle.node_core.proofs.Nodes.{items_both}
use Rattle.node_core.proofs.feeding.take_kiss_frame.Goals as goal

pub returns-clause-fed : goal.returns-clause-fed
returns-clause-fed c stream stands = frame_held c.fend_ends.ensures c.feed.follows.lender-at-none stream c.args.octets.now (c.feed.follows.holds-at-none stream stands)

pub returns-clause-taken : goal.returns-clause-taken
returns-clause-taken c stream stands = record {
  given = _;
  adds = frame_adds c.fend_parts.ensures stream c.args.octets.now _ _ (c.feed.ensures.adds stream stands) c.read_back.ensures.item;
  taken = λ n h. rw (items_both c.args.now.0 _ _ n) (c.in_ok-take_given-2.ensures.goes _ (c.in_ok-take_given.ensures.goes n h));
}
