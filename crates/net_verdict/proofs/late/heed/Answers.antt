use Rattle.net_verdict.proofs.Judged.{heeds_none_as, heeds_one}
use Rattle.net_verdict.proofs.late.heed.Goals as goal

pub returns-in_ok-heed-in-Some : goal.returns-in_ok-heed-in-Some
returns-in_ok-heed-in-Some c = λ nodes e.
    heeds_one c.args.verdict.now c.heed.new.self _ _ (c.in-Some.ensures nodes c.args.numbered.now.line e) c.in_ok-heed-in-Some.ensures.goes_on c.heed.ensures.same

pub returns-in-None : goal.returns-in-None
returns-in-None c = λ nodes e. heeds_none_as c.args.verdict.now _ (c.in-None.ensures nodes c.args.numbered.now.line e)
