use Rattle.std.proofs.Common.{◌+◌, length}
use Rattle.std.proofs.Math.Seq.{drop-length}
use Rattle.std.proofs.lemmas.List.{take_rest}
use Rattle.text_lines.proofs.Cuts.{lines-first, lines-last}
use Rattle.text_lines.proofs.lines.first_line.Goals as goal

pub returns-in-Some-clause-cut : goal.returns-in-Some-clause-cut
returns-in-Some-clause-cut c =
    rw (c.without_return.ensures, take_rest c.args.text.now (c.in-Some.end + 1)) (lines-first c.args.text.now c.in-Some.end c.in-Some.ensures.place c.in-Some.ensures.within)

pub returns-in-None-clause-cut : goal.returns-in-None-clause-cut
returns-in-None-clause-cut c =
    rw (take_rest c.args.text.now (length c.args.text.now), drop-length c.args.text.now) (lines-last c.args.text.now c.in-None.ensures.place c.requires)
