use Rattle.std.proofs.Common.{◌∙◌, sym, ap, length, arith}
use Rattle.std.proofs.lemmas.List.{take_rest, length-take, length-drop}
use Rattle.std.proofs.lemmas.Result.{err_from_is_err_and}
use Rattle.nodes_broadcast.proofs.Spelled.{reads_entries, refuses_entries}
use Rattle.nodes_broadcast.proofs.read.fill.Goals as goal

pub returns-in_err-read_entries-clause-exact : goal.returns-in_err-read_entries-clause-exact
returns-in_err-read_entries-clause-exact c =
    let p = err_from_is_err_and c.from_residual.result c.from_residual.ensures.1 in
    rw (p.1, p.2) (refuses_entries c.args.info.now _ c.in_default.ensures.value (rw (take_rest c.args.info.now 7) at c.in_err-read_entries.ensures.exact))

pub returns-clause-exact : goal.returns-clause-exact
returns-clause-exact c =
    reads_entries c.args.info.now c.alias_of-nodes.result c.read_entries.new.entries.items c.in_default.ensures.value c.alias_of-nodes.ensures (rw (take_rest c.args.info.now 7) at c.in_ok-read_entries.ensures.exact)

pub returns-clause-found : goal.returns-clause-found
returns-clause-found c = record {
  is_nodes = c.in_default.ensures.shape.first;
  alias = sym c.alias_of-nodes.ensures;
  six = ap length c.alias_of-nodes.ensures ∙ grind (arith, length-take, length-drop, c.in_default.ensures.shape.head);
  entries = rw (take_rest c.args.info.now 7) at c.in_ok-read_entries.ensures.found;
  few = c.read_entries.ensures.few;
}
