use Rattle.std.proofs.Common.{◌≡◌, ℕ, [], length}
use Rattle.net_model.specs.Ends.{all_items, ends_at}
use Rattle.net_model.proofs.ends.empty_lists.Given as goal

abbrev pub invariant-loop : goal.invariant-loop
invariant-loop l = (length l.lists.items ≡ l.counter) × ((node : ℕ) → ends_at node (all_items l.lists.items) ≡ [])
