use Rattle.std.proofs.Common.{◌∙◌, ap}
use Rattle.std.specs.Prelude.{◌||◌}
use Rattle.station_users.specs.Unclaimed.{drop_end_texts, take_at, take_link_texts, takes_at, takes_link_texts}
use Rattle.station_users.proofs.Halls.{hall_then}
use Rattle.station_users.proofs.hall.Hall.take_at.Goals as goal

pub returns-clause-goes : goal.returns-clause-goes
unfolding take_at
returns-clause-goes c =
    hall_then (take_link_texts c.args.turn.moment c.args.member) (drop_end_texts c.args.turn.moment c.args.member) c.args.self.now
    c.take_link_texts.new.self c.drop_end_texts.new.self c.in_ok-at_links.ensures.goes c.in_ok-at_ends.ensures.goes

pub returns-clause-dropped : goal.returns-clause-dropped
unfolding takes_at
returns-clause-dropped c = λ u t.
    ap (λ b. b || c.in_ok-at_ends.at_ends) (c.in_ok-at_links.ensures.dropped u t)
    ∙ ap (λ b. takes_link_texts c.args.turn.moment c.args.member u || b) (c.in_ok-at_ends.ensures.dropped _ (c.in_ok-at_links.ensures.goes u t))
