use Rattle.std.proofs.Common.{◌∙◌}
use Rattle.station_lists.specs.Telling.{told_text}
use Rattle.station_users.specs.Telling.{answer, reply, say}
use Rattle.station_users.proofs.Going.{by_look}
use Rattle.station_users.proofs.telling.answer.Goals as goal

pub returns : goal.returns
unfolding answer
returns c =
    by_look (reply (told_text c.args.told.now)) (λ text a. say text c.args.turn.moment a) c.bytes.result.now c.args.sides.now c.args.session.now
    c.say.new.sides c.say.new.session (λ s stand. c.bytes.ensures ∙ c.in_ok-text.ensures s stand) c.in_ok-say.ensures
