use Rattle.std.proofs.Common.{◌++◌, ◌∙◌, ap, map}
use Rattle.std.specs.Prelude.{codes}
use Rattle.station_lists.specs.Lists.{ended, neighbour_line, more_text}
use Rattle.station_looks.specs.Rows.{neighbour_rows}
use Rattle.station_looks.proofs.Lines.{same_list}
use Rattle.station_looks.proofs.neighbours.see_neighbours.Goals as goal

pub returns : goal.returns
returns c = λ s stand.
    c.in_ok-add_neighbours.ensures
    ∙ ap (λ text. c.args.text.now ++ text)
    (same_list neighbour_line 100 (ended (codes "Routes:")) more_text c.deref.result.now (neighbour_rows c.args.about.now s)
    (ap (map neighbour_line) c.deref.ensures.value ∙ c.in_ok-all.ensures s stand))
