use Rattle.std.proofs.Common.{◌∙◌, ap}
use Rattle.text_lines.specs.UserLines.{first_line}
use Rattle.station_sessions.specs.Sessions.{Session}
use Rattle.station_users.specs.Texts.{cut_line, need_text}
use Rattle.station_users.proofs.Going.{then_session}
use Rattle.station_users.proofs.texts.take_line.Goals as goal

pub returns-clause-goes : goal.returns-clause-goes
returns-clause-goes c =
    then_session (need_text c.args.turn.moment) cut_line c.args.sides.now c.args.session.now c.need_text.new.sides
    c.need_text.new.session c.cut_line.new.session c.in_ok-need_text.ensures c.cut_line.ensures

pub returns-clause-line : goal.returns-clause-line
returns-clause-line c =
    λ s stand. c.in_ok-line.ensures.items_if_clones_equal (λ x y h. h) ∙ (c.next_line.ensures.line ∙ ap first_line (c.rest.ensures
    ∙ ap (λ (x : Session). x.rest) (c.in_ok-need_text.ensures s stand).session))
