use Rattle.std.proofs.Common.{◌≡◌, ◌∙◌, ap, arith}
use Rattle.kiss_framing.specs.Stream.{framed}
use Rattle.node_cmd.proofs.live.add_frame.Goals as goal

pub returns : goal.returns
returns c =
    let out : c.put_data.new.bytes.items ≡ framed 0 0 c.as_slice.result.now = c.put_data.ensures (omega (arith, c.as_slice.ensures.few)) in
    rw (c.as_slice-2.ensures.value ∙ (out ∙ ap (λ os. framed 0 0 os) c.as_slice.ensures.value)) at c.octets.ensures.ok
