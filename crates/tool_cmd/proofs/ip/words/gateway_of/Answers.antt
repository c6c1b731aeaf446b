use Rattle.std.proofs.lemmas.List.{take_rest}
use Rattle.ax_ip.specs.Machine.{state}
use Rattle.tool_cmd.proofs.GatewayWords.{none_of}
use Rattle.tool_cmd.proofs.ip.words.gateway_of.Goals as goal

pub returns-else-add_routes-clause-none : goal.returns-else-add_routes-clause-none
returns-else-add_routes-clause-none c =
    let start = rw (c.as_bytes.ensures.value, c.as_bytes-in-len2-up.ensures.value) at c.in_ok-gateway-in-len2-up.ensures in
    none_of c.args.words.now c.call-item.result c.addr-item.result (state c.in_ok-gateway-in-len2-up.gateway.forwarder) c.in-len2-up.len_at_least c.call-item.is c.addr-item.is start
    (rw (take_rest c.args.words.now 2) at (c.add_routes.ensures.none c.if-add_routes.false))
