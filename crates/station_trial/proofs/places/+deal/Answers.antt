use Rattle.station_trial.specs.Gifts.{dealt_by}
use Rattle.station_trial.proofs.Dealing.{deals_more, deals_none}
use Rattle.station_trial.proofs.places.+deal.Goals as goal

pub returns-in-None : goal.returns-in-None
returns-in-None t c = λ ts o all outlet.
    deals_none (dealt_by c.args.dealt.now c.args.octets.now) c.args.now c.args.at c.args.outlet.now c.args.tried.now ts o c.in-None.ensures.cases all outlet

pub returns-in_ok-deal-in-Some : goal.returns-in_ok-deal-in-Some
returns-in_ok-deal-in-Some t c = λ ts o all outlet.
    deals_more (dealt_by c.args.dealt.now c.args.octets.now) c.args.now c.args.at c.in-Some.one.now c.give_if.new.tried c.in-Some.more.now c.deal.new.tried
    c.args.outlet.now c.give_if.new.outlet c.deal.new.outlet c.in_ok-give_if-in-Some.ensures c.in_ok-deal-in-Some.ensures ts o
    (rw c.in-Some.ensures.cases.0 at all) outlet
