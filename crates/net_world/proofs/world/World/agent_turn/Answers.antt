use Rattle.std.proofs.Common.{[], arith, length}
use Rattle.std.proofs.lemmas.Result.{err_from_is_err_and}
use Rattle.radio_base.specs.declared.modulus.LinkModulus.TheVariants.{Modulo8}
use Rattle.circuit_table.specs.CircuitSets.{held_ids}
use Rattle.net_model.specs.Mailing.{Agent, ends_here, offer_part, take_part}
use Rattle.net_world.specs.Running.{course}
use Rattle.net_model.specs.World.{World, tell}
use Rattle.net_world.proofs.Growing.{put_grows}
use Rattle.net_world.proofs.Runs.{refused_still}
use Rattle.net_world.proofs.Turning.{offer_at_grows, starts, turn_runs}
use Rattle.net_world.proofs.world.World.agent_turn.Goals as goal

pub returns-in_err-take_at_ends : goal.returns-in_err-take_at_ends
returns-in_err-take_at_ends c =
    let p = err_from_is_err_and c.from_residual.result c.from_residual.ensures.1 in
    rw (p.1, p.2) (λ w t.
    let line = c.args.here.line in
    let taken : Agent = take_part line c.args.here.node c.args.here.at w in
    let offered : World = offer_part line c.args.here.node c.args.here.at taken.world in
    let more = offer_at_grows line c.args.here.node c.args.here.at (held_ids (ends_here c.args.here.at taken.world)) taken.world in
    let last = put_grows line c.args.here.at Modulo8 (tell line taken.answers offered) in
    refused_still _ (length taken.world.air) _ (omega (arith, more, last)) (c.in_err-take_at_ends.ensures (record { world = w; answers = [] }) (starts _ w _ t c.new-answers.ensures.items)))

pub returns-in_err-offer_at_ends : goal.returns-in_err-offer_at_ends
returns-in_err-offer_at_ends c =
    let p = err_from_is_err_and c.from_residual-in_err-offer_at_ends.result c.from_residual-in_err-offer_at_ends.ensures.1 in
    rw (p.1, p.2) (λ w t.
    let line = c.args.here.line in
    let taken : Agent = take_part line c.args.here.node c.args.here.at w in
    let stands = c.in_ok-take_at_ends.ensures (record { world = w; answers = [] }) (starts _ w _ t c.new-answers.ensures.items) in
    let offered : World = offer_part line c.args.here.node c.args.here.at taken.world in
    let last = put_grows line c.args.here.at Modulo8 (tell line taken.answers offered) in
    refused_still _ (length offered.air) _ (omega (arith, last)) (c.in_err-offer_at_ends.ensures taken.world stands.world))

pub returns : goal.returns
returns c =
    let line = c.args.here.line in
    turn_runs line c.args.here.node c.args.here.at (course c.args.self.now) (course c.take_at_ends.new.self) (course c.offer_at_ends.new.self) (course c.tell_each.new.self) (course c.put_in_air.new.self)
    c.take_at_ends.new.answers.items c.put_in_air.result
    (λ w t. c.in_ok-take_at_ends.ensures (record { world = w; answers = [] }) (starts _ w _ t c.new-answers.ensures.items)) c.in_ok-offer_at_ends.ensures c.in_ok-tell_each.ensures c.put_in_air.ensures
