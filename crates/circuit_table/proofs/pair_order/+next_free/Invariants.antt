use Rattle.circuit_table.proofs.pair_order.+next_free.Given as goal

abbrev pub decreases-next_free : goal.decreases-next_free
decreases-next_free l = l.many
