use Rattle.std.proofs.Common.{◌≡◌, ◌+◌, ◌*◌, ◌-◌, ◌∙◌, ◌∷◌, [], ap, length, take, drop, slice_index}
use Rattle.std.proofs.lemmas.List.{take_at, take_rest}
use Rattle.ax_address.proofs.CallOctets.{doubles}
use Rattle.station_ports.specs.Readdressed.{with_ssid}
use Rattle.station_ports.proofs.Readdressing.{six_doubles}
use Rattle.station_ports.proofs.readdressed.with_call.Goals as goal

pub returns : goal.returns
returns c =
    let call = c.args.call.now in
    let octets = c.args.octets.now in
    let name = c.write_net_call-name.result in
    let six : take 6 name ≡ doubles call.letters =
    ap (take 6) c.write_net_call-name.ensures.exact
    ∙ take_at (doubles call.letters) ((96 + 2 * call.ssid) ∷ []) 6 (six_doubles call.letters call.ssid c.write_net_call-name.ensures.spelled.is_call) in
    let rest : take (length octets - (c.args.at + 7)) (drop (c.args.at + 7) octets) ≡ drop (c.args.at + 7) octets = take_rest octets (c.args.at + 7) in
    let last : c.with_ssid-last.result ≡ with_ssid (slice_index octets (c.args.at + 6)) call.ssid =
    c.with_ssid-last.ensures ∙ ap (with_ssid (slice_index octets (c.args.at + 6))) c.ssid.ensures.value in
    rw (six, rest, last) at c.joined.ensures
