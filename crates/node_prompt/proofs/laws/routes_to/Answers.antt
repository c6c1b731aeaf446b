use Rattle.node_prompt.proofs.LineLaws.{wanted_is_asked_for, routes_are_asked_for}
use Rattle.node_prompt.proofs.laws.routes_to.Goals as goal

pub returns-clause-wanted : goal.returns-clause-wanted
returns-clause-wanted c = wanted_is_asked_for

pub returns-clause-shown : goal.returns-clause-shown
returns-clause-shown c = routes_are_asked_for
