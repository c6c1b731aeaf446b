use Rattle.std.proofs.Common.{subst}
use Rattle.station_lists.specs.Telling.{told_text}
use Rattle.station_lists.specs.declared.shown_node.ShownNode.{ShownNode}
use Rattle.station_lists.specs.declared.told.Told.TheVariants as told
use Rattle.station_users.specs.Standing.{AtGoes}
use Rattle.station_users.specs.Telling.{answer}
use Rattle.station_users.proofs.linking.say_busy.Goals as goal

pub returns : goal.returns
returns c =
    subst (λ (n : ShownNode). AtGoes (answer (told_text (told.Busy n)) c.args.turn.moment) c.args.sides.now c.args.session.now c.answer.new.sides
    c.answer.new.session) c.by_call.ensures c.in_ok-answer.ensures
