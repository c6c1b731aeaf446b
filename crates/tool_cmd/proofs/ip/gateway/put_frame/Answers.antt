use Rattle.std.proofs.Common.{◌≡◌, ◌≤◌, ◌∙◌, length, ap, arith}
use Rattle.kiss_framing.specs.Stream.{framed}
use Rattle.tool_cmd.specs.Gateways.{ui_octets}
use Rattle.tool_cmd.proofs.ip.gateway.put_frame.Goals as goal

pub returns : goal.returns
returns c =
    let out = c.args.sent.now in
    let info : ui_octets c.args.call.now out.to out.pid c.as_slice.result.now ≡ ui_octets c.args.call.now out.to out.pid out.info.items =
    ap (λ xs. ui_octets c.args.call.now out.to out.pid xs) c.as_slice.ensures.value in
    let same = c.as_slice-2.ensures.value ∙ (c.write_ui.ensures.exact ∙ info) in
    let short : length c.as_slice-2.result.now ≤ 272 = omega (arith, ap length c.as_slice-2.ensures.value, c.write_ui.ensures.len) in
    c.put_data.ensures (omega (arith, short)) ∙ ap (λ os. framed 0 0 os) same
