use Rattle.link_table.proofs.Payloads.{counts_payloads, offers_leave, takes_lower}
use Rattle.link_table.proofs.laws.payloads.Goals as goal

pub returns-clause-offers : goal.returns-clause-offers
returns-clause-offers c = offers_leave

pub returns-clause-takes : goal.returns-clause-takes
returns-clause-takes c = takes_lower

pub returns-clause-kept : goal.returns-clause-kept
returns-clause-kept c = counts_payloads
