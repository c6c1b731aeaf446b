use Rattle.node_core.specs.Standing.{IsAnswer}
use Rattle.node_core.proofs.Answering.{is_answer}
use Rattle.node_core.proofs.station.Station.act.Goals as goal

pub settle-requires : goal.settle-requires
settle-requires c =
    let answered : IsAnswer c.do_act-outcome.result = is_answer c.do_act-outcome.result c.if-wants_memory.ensures in
    let s = c.requires.stands in
    (_, (c.do_act-outcome.ensures answered s.0 s.1.0 s.1.1).stands)

pub returns-clause-acts : goal.returns-clause-acts
returns-clause-acts c answered n h told =
    let a = c.do_act-outcome.ensures answered n h told in
    record { answer = a.answer; stands = c.in_ok-settle.ensures.goes _ a.stands }
