use Rattle.std.proofs.Common.{◌≤◌, ◌+◌, arith, is_some, length, subst, sym}
use Rattle.link_table.specs.Standing.{text_in}
use Rattle.link_table.proofs.TextLifting.{entry_at, one_length, one_more}
use Rattle.link_table.proofs.held_links.HeldLinks.texts.Goals as goal

pub loop-at-preserved : goal.loop-at-preserved
loop-at-preserved c =
    let x = entry_at c.args.self.now.links.entries c.loop-at.at (omega (arith, c.loop-at-test.true, c.len-at-end.ensures.len)) in
    let added = c.add_text_at.ensures x.0 x.1 in
    record {
      all = one_more c.args.self.now.links.entries c.loop-at.at (c.loop-at.at + 1) x.0.0 x.0.1 c.loop-at.peers.items c.add_text_at.new.peers.items _ (omega arith) x.1 added c.loop-at.invariant.all;
      few = subst (λ ps. length ps ≤ c.loop-at.at + 1) (sym added) (one_length (is_some (text_in x.0.1)) x.0.0 c.loop-at.peers.items c.loop-at.at c.loop-at.invariant.few);
    }
