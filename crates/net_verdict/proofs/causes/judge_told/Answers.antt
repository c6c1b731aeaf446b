use Rattle.std.proofs.Common.{◌∙◌, sym}
use Rattle.net_verdict.proofs.Blames.{found_late, taken_more}
use Rattle.net_verdict.proofs.causes.judge_told.Goals as goal

pub returns-in-Some : goal.returns-in-Some
returns-in-Some c =
    found_late c.args.verdict.now c.args.verdict.now (record { line = c.args.line; event = c.args.event.now }) c.in-Some.cause
    (λ ns stands in_time. sym c.in-Some.is ∙ c.in_ok-cause.ensures.exact ns stands in_time)
    (λ ns stands in_time all. (let none = sym c.in-Some.is ∙ (c.in_ok-cause.ensures.none ns stands in_time).1 all in absurd (cc none)))
    (λ ns stands in_time. c.in_ok-cause.ensures.shows ns stands in_time c.in-Some.cause c.in-Some.is)

pub returns-in_ok-heed-in-None : goal.returns-in_ok-heed-in-None
returns-in_ok-heed-in-None c =
    taken_more c.args.verdict.now c.heed.new.self (record { line = c.args.line; event = c.args.event.now }) c.in_ok-heed-in-None.ensures.goes_on c.heed.ensures.same
    (λ ns stands in_time. (c.in_ok-cause.ensures.none ns stands in_time).0 c.in-None.is)
