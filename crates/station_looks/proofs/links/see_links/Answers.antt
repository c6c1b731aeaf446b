use Rattle.std.proofs.Common.{◌++◌, ◌∙◌, ap, map}
use Rattle.std.specs.Prelude.{codes}
use Rattle.station_lists.specs.Lists.{ended, link_line, more_text}
use Rattle.station_looks.specs.Rows.{link_rows}
use Rattle.station_looks.proofs.Lines.{same_list}
use Rattle.station_looks.proofs.links.see_links.Goals as goal

pub returns : goal.returns
returns c = λ s stand.
    c.in_ok-add_links.ensures
    ∙ ap (λ text. c.args.text.now ++ text)
    (same_list link_line 100 (ended (codes "Links:")) more_text c.deref.result.now (link_rows c.args.about.now s)
    (ap (map link_line) c.deref.ensures.value ∙ c.in_ok-all.ensures s stand))
