use Rattle.tool_cmd.proofs.SentFrames.{written}
use Rattle.tool_cmd.proofs.ip.gateway.write_ui.Goals as goal

pub returns-clause-exact : goal.returns-clause-exact
returns-clause-exact c =
    written c.write_frame.result c.address_of.result c.address_of-2.result c.new.result c.args.call.now c.args.to.now c.args.pid c.args.info.now c.write_frame.new.out.items
    c.address_of.ensures.value c.address_of-2.ensures.value c.new.ensures c.address_of-2.ensures.call c.address_of.ensures.call c.requires c.write_frame.ensures.full.0 c.write_frame.ensures.ok
