use Rattle.std.proofs.lemmas.List.{take_rest}
use Rattle.ax_ip.specs.Machine.{state}
use Rattle.tool_cmd.proofs.GatewayWords.{none_later}
use Rattle.tool_cmd.proofs.ip.words.+add_routes.Goals as goal

pub returns-then-add_route-clause-none : goal.returns-then-add_route-clause-none
returns-then-add_route-clause-none t c = λ is.
    none_later c.args.words.now c.word-item.result (state c.args.gateway.now.forwarder) (state c.add_route.new.gateway.forwarder) c.in-len1-up.len_at_least c.word-item.is
    (rw c.as_bytes.ensures.value at (c.add_route.ensures.added c.if-add_route.true)) (rw (take_rest c.args.words.now 1) at (c.add_routes.ensures.none is))
