use Rattle.std.proofs.Common.{sym}
use Rattle.nodes_broadcast.proofs.Spelled.{one_left}
use Rattle.nodes_broadcast.proofs.read.entry_of.Goals as goal

pub returns-clause-found : goal.returns-clause-found
returns-clause-found c = record {
  dest = c.in_ok-dest.ensures.found;
  alias = sym c.alias_of.ensures;
  best = c.in_ok-best.ensures.found;
  quality = one_left c.args.octets.now c.requires.whole;
}
