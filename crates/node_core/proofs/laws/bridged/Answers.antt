use Rattle.node_core.proofs.Reached.{bounded, bridged, closed_last, reads_ends, writes_ends}
use Rattle.node_core.proofs.laws.bridged.Goals as goal

pub returns-clause-bridged : goal.returns-clause-bridged
returns-clause-bridged c = bridged c.parts.ensures.offers c.parts.ensures.takes c.parts.ensures.less c.carried.ensures c.call_texts.ensures

pub returns-clause-bounded : goal.returns-clause-bounded
returns-clause-bounded c = bounded c.parts.ensures.offers c.parts.ensures.takes c.parts.ensures.less c.carried.ensures c.call_texts.ensures

pub returns-clause-closed : goal.returns-clause-closed
returns-clause-closed c = closed_last c.parts.ensures.offers c.parts.ensures.takes c.parts.ensures.less c.carried.ensures c.call_texts.ensures

pub returns-clause-ends : goal.returns-clause-ends
returns-clause-ends c = writes_ends c.parts.ensures.offers c.parts.ensures.takes c.parts.ensures.less c.carried.ensures c.call_texts.ensures

pub returns-clause-read : goal.returns-clause-read
returns-clause-read c = reads_ends c.parts.ensures.offers c.parts.ensures.takes c.parts.ensures.less c.carried.ensures c.call_texts.ensures
