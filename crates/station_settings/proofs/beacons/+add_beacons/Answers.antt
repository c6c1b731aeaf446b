use Rattle.station_settings.proofs.OneBeacon.{first_and_others}
use Rattle.station_settings.proofs.beacons.+add_beacons.Goals as goal

pub returns-in_ok-add_beacons-in-len1-up : goal.returns-in_ok-add_beacons-in-len1-up
returns-in_ok-add_beacons-in-len1-up t c = λ s stands.
    first_and_others _ c.args.beacons.now c.beacon-item.result s c.in-len1-up.len_at_least c.beacon-item.is
    (c.in_ok-add_beacons-in-len1-up.ensures _ (c.in_ok-add_beacon-in-len1-up.ensures s stands))
