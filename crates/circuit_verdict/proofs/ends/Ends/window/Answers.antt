use Rattle.std.proofs.Common.{◌≡◌, ◌∙◌, sym, rules}
use Rattle.std.specs.Prelude.{None}
use Rattle.indexmap.specs.IndexMap.{get}
use Rattle.circuit_table.specs.Events.{same_name}
use Rattle.circuit_verdict.proofs.Made.{unopened}
use Rattle.circuit_verdict.proofs.ends.Ends.window.Goals as goal

pub returns-in-None : goal.returns-in-None
returns-in-None c ms lost s =
    let none : get same_name c.args.self.now.notes c.args.end.now ≡ None = search rules in
    sym (unopened ms c.args.end.now (sym (s.notes c.args.end.now) ∙ none))
