use Rattle.std.proofs.Common.{◌≡◌, ◌++◌, ◌∙◌, ap, sym, drop, append_assoc}
use Rattle.std.specs.Prelude.{Ok}
use Rattle.std.proofs.lemmas.List.{take_rest}
use Rattle.l3_datagram.specs.Datagrams.{head_at}
use Rattle.frame_lines.specs.DatagramLines as lines
use Rattle.frame_lines.specs.TransportLines.{transport_text}
use Rattle.frame_lines.proofs.datagrams.write_datagram_text.Goals as goal

pub returns-in_ok-write_transport_text-in-Ok : goal.returns-in_ok-write_transport_text-in-Ok
returns-in_ok-write_transport_text-in-Ok c =
    let octets = c.args.octets.now in
    let read : head_at octets ≡ Ok c.in-Ok.head = sym c.read_datagram.ensures.exact ∙ c.in-Ok.is in
    let line : c.as_str.result.now ≡ lines.head_line c.in-Ok.head = c.as_str.ensures.value ∙ c.in_ok-line-in-Ok.ensures in
    let first : c.text.new.self ≡ c.args.out.now ++ lines.head_line c.in-Ok.head = c.in_ok-text-in-Ok.ensures.ok ∙ ap (λ t. c.args.out.now ++ t) line in
    let all : c.write_transport_text.new.out ≡ (c.args.out.now ++ lines.head_line c.in-Ok.head) ++ transport_text (drop 15 octets) =
    rw (← first) (rw (take_rest octets 15) at c.in_ok-write_transport_text-in-Ok.ensures) in
    rw read (all ∙ append_assoc c.args.out.now (lines.head_line c.in-Ok.head) (transport_text (drop 15 octets)))
