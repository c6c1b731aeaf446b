use Rattle.std.proofs.Common.{◌∙◌, ◌++◌, ap}
use Rattle.station_members.proofs.BeaconFrames.{with_text, wrote}
use Rattle.station_members.proofs.beacons.beacon_octets.Goals as goal

pub returns : goal.returns
returns c =
    let to = c.args.config.now.to in
    let from = c.args.config.now.from in
    let text = c.args.config.now.text.now in
    c.push_text.ensures
    ∙ (ap (λ octets. octets ++ text) (wrote c.write_frame.result to from c.address_of.result c.address_of-2.result c.new.result c.write_frame.new.out.items c.address_of.ensures.call c.address_of-2.ensures.call
    c.address_of.ensures.value c.address_of-2.ensures.value c.new.ensures c.write_frame.ensures.ok c.write_frame.ensures.full)
    ∙ with_text to from text)
