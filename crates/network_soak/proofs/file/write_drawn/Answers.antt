use Rattle.network_soak.proofs.Drawn.{no_more, one_more}
use Rattle.network_soak.proofs.file.write_drawn.Goals as goal

pub loop-nth-preserved : goal.loop-nth-preserved
loop-nth-preserved c =
    one_more c.loop-nth.nth c.loop-nth.draws.x c.write_one.new.draws.x c.loop-nth.text.items c.write_one.new.text.items _ c.loop-nth-test.true c.in_ok-write_one.ensures.text c.in_ok-write_one.ensures.after c.loop-nth.invariant

pub returns : goal.returns
returns c = no_more c.loop-nth.nth c.loop-nth.draws.x c.loop-nth.text.items _ c.loop-nth-test.false c.loop-nth.invariant
