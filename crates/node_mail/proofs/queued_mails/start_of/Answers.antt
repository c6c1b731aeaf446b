use Rattle.std.proofs.Common.{arith, rules}
use lib.Dec.{ltb}
use Rattle.std.proofs.lemmas.List.Sorted.{IsPartitionPoint-from_clause, IsPartitionedBy-ltb}
use Rattle.std.proofs.lemmas.Bool.Decides.{nat_tests}
use Rattle.node_mail.specs.declared.queued_mails.QueuedMail.{QueuedMail}
use Rattle.node_mail.proofs.Queues.{non_decreasing}
use Rattle.node_mail.proofs.queued_mails.start_of.Goals as goal

pub returns-clause-before : goal.returns-clause-before
returns-clause-before c i d p =
    let parted = IsPartitionedBy-ltb (λ (q : QueuedMail). q.number) _ c.args.number (non_decreasing c.args.mails.now c.requires) in
    let point = IsPartitionPoint-from_clause (λ (q : QueuedMail). ltb q.number c.args.number) _ _ c.partition_point.ensures.partitioned parted (λ a r q k. search rules) in
    let here = point.0 i d (omega arith) p in
    grind (arith, nat_tests, here)

pub returns-clause-after : goal.returns-clause-after
returns-clause-after c i d p q =
    let parted = IsPartitionedBy-ltb (λ (q : QueuedMail). q.number) _ c.args.number (non_decreasing c.args.mails.now c.requires) in
    let point = IsPartitionPoint-from_clause (λ (q : QueuedMail). ltb q.number c.args.number) _ _ c.partition_point.ensures.partitioned parted (λ a r q k. search rules) in
    let here = point.1 i d p q in
    grind (arith, nat_tests, here)
