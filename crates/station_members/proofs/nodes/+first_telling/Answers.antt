use Rattle.std.proofs.Common.{◌∙◌}
use Rattle.station_members.proofs.FirstTelling.{told_first, told_rest}
use Rattle.station_members.proofs.nodes.+first_telling.Goals as goal

pub returns-then-has_entries-clause-place : goal.returns-then-has_entries-clause-place
returns-then-has_entries-clause-place t c = λ ns stand.
    told_first c.args.nodes.now ns c.first-item.result c.has_entries.result c.in-len1-up.len_at_least c.first-item.is c.has_entries.ensures c.if-has_entries.true stand

pub returns-else-has_entries-clause-place : goal.returns-else-has_entries-clause-place
returns-else-has_entries-clause-place t c = λ ns stand.
    c.behind.ensures
    ∙ told_rest c.args.nodes.now ns c.first-item.result c.has_entries.result c.first_telling.result c.in-len1-up.len_at_least c.first-item.is c.has_entries.ensures
    c.if-has_entries.false c.first_telling.ensures.place stand
