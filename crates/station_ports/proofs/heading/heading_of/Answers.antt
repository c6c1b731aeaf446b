use Rattle.std.proofs.Common.{◌≡◌, ◌∙◌, ap, refl, take, arith}
use Rattle.std.specs.Prelude.{Some}
use Rattle.std.proofs.lemmas.List.{length-take-le}
use Rattle.station_ports.specs.declared.heading.Heading.{Heading}
use Rattle.station_ports.specs.Headings.{heading_of}
use Rattle.station_ports.proofs.Readdressing.{long_head}
use Rattle.station_ports.proofs.heading.heading_of.Goals as goal

pub returns-in-Ok-clause-found : goal.returns-in-Ok-clause-found
returns-in-Ok-clause-found c =
    let found = c.in-Ok.ensures.found in
    rw c.heading_from.ensures (c.in-Ok.head, record { within = found.0; spelled = found.1 }, refl)

pub returns-in-Ok-clause-room : goal.returns-in-Ok-clause-room
returns-in-Ok-clause-room c =
    let found = c.in-Ok.ensures.found in
    let end : c.heading_from.result.end ≡ c.in-Ok.end = ap (λ (h : Heading). h.end) c.heading_from.ensures in
    let octets = c.args.octets.now in
    let long = long_head c.in-Ok.head (take c.in-Ok.end octets) found.1 in
    let taken = length-take-le c.in-Ok.end octets found.0 in
    (omega (arith, end, long, taken), omega (arith, end, found.0))

pub returns-in-Ok-clause-only : goal.returns-in-Ok-clause-only
returns-in-Ok-clause-only c h addresses rest spelled whole =
    ap Some c.heading_from.ensures ∙ ap heading_of (c.in-Ok.ensures.only h addresses rest spelled whole)

pub returns-in-Err-clause-only : goal.returns-in-Err-clause-only
returns-in-Err-clause-only c h addresses rest spelled whole = ap heading_of (c.in-Err.ensures.only h addresses rest spelled whole)
