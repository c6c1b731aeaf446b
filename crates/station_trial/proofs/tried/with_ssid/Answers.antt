use Rattle.station_trial.specs.Starting.{with_ssid}
use Rattle.station_trial.proofs.Calls.{spelled_with}
use Rattle.station_trial.proofs.tried.with_ssid.Goals as goal

pub returns-in-Ok : goal.returns-in-Ok
returns-in-Ok c = cc (c.in-Ok.ensures.only (with_ssid c.args.call.now c.args.ssid) (spelled_with c.args.call.now c.write_net_call-octets.result c.args.ssid c.requires c.write_net_call-octets.ensures.spelled))

pub returns-in-Err : goal.returns-in-Err
returns-in-Err c = absurd (cc (c.in-Err.ensures.only (with_ssid c.args.call.now c.args.ssid) (spelled_with c.args.call.now c.write_net_call-octets.result c.args.ssid c.requires c.write_net_call-octets.ensures.spelled)))
