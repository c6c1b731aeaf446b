use Rattle.std.proofs.Common.{◌≡◌, ◌∙◌, sym}
use Rattle.std.proofs.lemmas.List.{append_cancel_left}
use Rattle.ax_ip.specs.Machine.{state}
use Rattle.tool_cmd.proofs.Gateways.{one_more}
use Rattle.tool_cmd.proofs.ip.gateway.GatewayItemTaker.take_item.Goals as goal

pub returns-clause-takes : goal.returns-clause-takes
returns-clause-takes c = λ first before text more grown took.
    let sent : more ≡ c.as_slice.result.now = append_cancel_left c.args.answer.now more c.as_slice.result.now (sym grown ∙ c.in_ok-octets.ensures.ok) in
    one_more (state first.forwarder) (state c.args.self.now.forwarder) (state c.answer_item.new.self.forwarder) before c.args.item.now text more took c.answer_item.ensures.state (sent ∙ (c.as_slice.ensures.value ∙ c.answer_item.ensures.sent))
