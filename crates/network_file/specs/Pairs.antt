-- The pair that a node gives first after a restart. Own profile.
use Rattle.std.specs.Prelude.{ℕ}

pub record PairNumbers : Type 0 where
  pub index : ℕ
  pub ident : ℕ
