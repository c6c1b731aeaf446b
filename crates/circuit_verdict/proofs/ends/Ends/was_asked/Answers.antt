use Rattle.std.proofs.Common.{◌≡◌, ◌∙◌, sym, rules}
use Rattle.std.specs.Prelude.{None}
use Rattle.indexmap.specs.IndexMap.{get}
use Rattle.circuit_table.specs.Events.{same_name}
use Rattle.circuit_verdict.proofs.Made.{unasked_none}
use Rattle.circuit_verdict.proofs.ends.Ends.was_asked.Goals as goal

pub returns-in-None : goal.returns-in-None
returns-in-None c ms notes =
    let none : get same_name c.args.self.now.notes c.args.end.now ≡ None = search rules in
    sym (unasked_none ms c.args.end.now (sym (notes c.args.end.now) ∙ none))
