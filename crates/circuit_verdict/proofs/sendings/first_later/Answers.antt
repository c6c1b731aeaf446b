use Rattle.std.proofs.lemmas.List.Sorted.{IsPartitionPoint-from_clause, IsPartitionedBy-leb}
use Rattle.std.proofs.lemmas.Bool.Decides.{nat_tests}
use Rattle.std.proofs.Common.{arith, rules}
use Rattle.circuit_verdict.specs.declared.message.Message.{Message}
use lib.Dec.{leb}
use Rattle.circuit_verdict.proofs.sendings.first_later.Goals as goal

pub returns-clause-before : goal.returns-clause-before
returns-clause-before c rises i d p =
    let parted = IsPartitionedBy-leb (λ (m : Message). m.first) _ c.args.place rises in
    let point = IsPartitionPoint-from_clause (λ (m : Message). leb m.first c.args.place) _ _ c.partition_point.ensures.partitioned parted (λ a r q k. search rules) in
    let here = point.0 i d (omega arith) p in
    grind (arith, nat_tests, here)

pub returns-clause-after : goal.returns-clause-after
returns-clause-after c rises i d p q =
    let parted = IsPartitionedBy-leb (λ (m : Message). m.first) _ c.args.place rises in
    let point = IsPartitionPoint-from_clause (λ (m : Message). leb m.first c.args.place) _ _ c.partition_point.ensures.partitioned parted (λ a r q k. search rules) in
    let here = point.1 i d p q in
    grind (arith, nat_tests, here)
