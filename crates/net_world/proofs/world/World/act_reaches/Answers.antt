use Rattle.std.proofs.Common.{◌<◌, ◌≤◌, arith, length, refl, subst, sym}
use Rattle.node_core.specs.declared.acts.ActDone.TheVariants.{Done}
use Rattle.node_core.specs.Acts.{act_of}
use Rattle.net_model.specs.Answers.{IsAnswerTo}
use Rattle.net_world.specs.Running.{course}
use Rattle.net_model.specs.World.{Act}
use Rattle.net_world.proofs.Reaching.{answered, no_answer, reached, stays}
use Rattle.net_world.proofs.world.World.act_reaches.Goals as goal

pub returns-in_ok-tell_entries-clause-goes : goal.returns-in_ok-tell_entries-clause-goes
returns-in_ok-tell_entries-clause-goes c =
    let h : c.args.at < length c.args.self.now.members.items = omega (arith, c.if-at-len.true, c.len.ensures) in
    reached (course c.args.self.now) (course c.tell_entries.new.self) c.args.line c.args.at (Act (act_of c.args.act.now)) c.index_mut.result.now c.act-outcome.new.self h c.index_mut.ensures.value
    (c.act-outcome.ensures.goes c.in_ok-answer.ensures.outcome) c.in_ok-tell_entries.ensures

pub returns-in_ok-tell_entries-clause-answer : goal.returns-in_ok-tell_entries-clause-answer
returns-in_ok-tell_entries-clause-answer c = λ w t.
    let h : c.args.at < length c.args.self.now.members.items = omega (arith, c.if-at-len.true, c.len.ensures) in
    subst (λ outcome. IsAnswerTo c.in_ok-answer.answer outcome)
    (sym (answered (course c.args.self.now) c.args.at (act_of c.args.act.now) w c.index_mut.result.now c.act-outcome.result h t c.index_mut.ensures.value (c.act-outcome.ensures.answer c.in_ok-answer.ensures.outcome)))
    c.in_ok-answer.ensures.answer

pub returns-else-at-len : goal.returns-else-at-len
returns-else-at-len c =
    let old = course c.args.self.now in
    let h : length c.args.self.now.members.items ≤ c.args.at = omega (arith, c.if-at-len.false, c.len.ensures) in
    record {
      goes = stays old c.args.line c.args.at (Act (act_of c.args.act.now)) h;
      answer = λ w t. (Done, no_answer old c.args.at (act_of c.args.act.now) w h t, refl);
    }
