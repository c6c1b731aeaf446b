use Rattle.node_core.proofs.Elsewhere.{stays_elsewhere}
use Rattle.node_core.proofs.Noted.{ends_show_lists, note_deeds}
use Rattle.node_core.proofs.Reached.{apart, numbered}
use Rattle.node_core.proofs.Shown.{ends_show}
use Rattle.node_core.proofs.laws.deeds_noted.Goals as goal

pub returns-clause-served : goal.returns-clause-served
returns-clause-served c = note_deeds

pub returns-clause-elsewhere : goal.returns-clause-elsewhere
returns-clause-elsewhere c = stays_elsewhere

pub returns-clause-apart : goal.returns-clause-apart
returns-clause-apart c = apart c.parts.ensures.offers c.parts.ensures.takes c.parts.ensures.less c.carried.ensures c.call_texts.ensures

pub returns-clause-ends : goal.returns-clause-ends
returns-clause-ends c = ends_show

pub returns-clause-numbered : goal.returns-clause-numbered
returns-clause-numbered c = numbered c.parts.ensures.offers c.parts.ensures.takes c.parts.ensures.less c.carried.ensures c.call_texts.ensures

pub returns-clause-lists : goal.returns-clause-lists
returns-clause-lists c = ends_show_lists
