use Rattle.std.proofs.Common.{Some, None}
use Rattle.station_trial.specs.Gifts.{dealt_by, gift_of}
use Rattle.station_trial.proofs.Dealing.{gives}
use Rattle.station_trial.proofs.places.give_if.Goals as goal

pub returns-in_ok-fetch-in-Some : goal.returns-in_ok-fetch-in-Some
returns-in_ok-fetch-in-Some c = λ t o stands outlet.
    let gift = gift_of c.args.octets.now c.in-Some.given in
    let given = c.in_ok-give-in-Some.ensures t stands in
    gives (dealt_by c.args.dealt.now c.args.octets.now) c.args.at c.args.now (Some gift) c.args.tried.now.file _ _ t o (c.in-Some.ensures c.args.octets.now) stands.file
    (record {
      file = given.file;
      station = c.in_ok-fetch-in-Some.ensures.station _ given.station;
      restarts = given.restarts;
      call = given.call;
    })
    (c.in_ok-fetch-in-Some.ensures.outlet _ o given.station outlet)

pub returns-in-None : goal.returns-in-None
returns-in-None c = λ t o stands outlet.
    gives (dealt_by c.args.dealt.now c.args.octets.now) c.args.at c.args.now None c.args.tried.now.file _ _ t o (c.in-None.ensures c.args.octets.now) stands.file stands outlet
