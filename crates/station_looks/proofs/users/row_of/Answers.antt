use Rattle.std.proofs.Common.{◌∙◌, ap}
use Rattle.station_lists.specs.Lists.{line_from, where_text}
use Rattle.station_looks.specs.Rows.{doing_of, from_of}
use Rattle.station_looks.proofs.users.row_of.Goals as goal

pub returns : goal.returns
returns c = λ s stand.
    let session = c.args.session.now in
    ap (λ call. line_from call (where_text c.from_of.result) c.doing_of.result) c.user.ensures
    ∙ (ap (λ text. line_from session.user text c.doing_of.result)
    (c.from_of.ensures s stand ∙ ap (λ place. where_text (from_of c.args.about.now s session place)) c.place.ensures)
    ∙ ap (line_from session.user (where_text (from_of c.args.about.now s session session.place))) (c.doing_of.ensures ∙ ap doing_of c.stage.ensures))
