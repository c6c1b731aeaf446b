-- Defaults are in the ranges of their keys.
use Rattle.std.proofs.Common.{◌≤◌, arith}
use Rattle.network_file.specs.declared.plan.keys.Key.{Key}
use Rattle.network_file.specs.declared.plan.keys.Key.TheVariants.{Window}
use Rattle.network_file.specs.Keys.{least_of, most_of, default_of}

pub default_in_range : (k : Key) → (least_of k ≤ default_of k) × (default_of k ≤ most_of k)
default_in_range Window = (omega arith, omega arith)
default_in_range key = (omega arith, omega arith)
