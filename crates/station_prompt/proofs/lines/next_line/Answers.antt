use Rattle.std.proofs.Common.{◌∙◌}
use Rattle.station_prompt.proofs.FirstLine.{slice_behind}
use Rattle.station_prompt.proofs.lines.next_line.Goals as goal

pub returns-in-Some-clause-behind : goal.returns-in-Some-clause-behind
returns-in-Some-clause-behind c =
    c.without_lf.ensures ∙ slice_behind c.args.text.now c.in-Some.end c.in-Some.ensures.place c.in-Some.ensures.within
