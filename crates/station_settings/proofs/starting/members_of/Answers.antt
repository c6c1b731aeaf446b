use Rattle.std.proofs.Common.{ap, length}
use Rattle.station_settings.proofs.Started.{as_it_says}
use Rattle.station_settings.proofs.starting.members_of.Goals as goal

pub returns : goal.returns
returns c =
    as_it_says _ c.args.pair c.args.file.now _ _ _ _ _ _ (ap length c.ports.ensures.ports) c.denied.ensures c.members.ensures.members c.post.ensures c.members-4.ensures.members c.beacons.ensures.beacons
    (c.in_ok-add_beacons.ensures _ (c.in_ok-set_up_all.ensures _ (c.in_ok-add_post.ensures _ (c.in_ok-add_members.ensures _ c.in_ok-members.ensures))))
