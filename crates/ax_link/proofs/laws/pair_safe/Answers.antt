use Rattle.ax_link.proofs.Pairs.{pair_safe}
use Rattle.ax_link.proofs.laws.pair_safe.Goals as goal

pub returns : goal.returns
returns c = record { safe = λ l r tl tr. pair_safe l r tl tr }
