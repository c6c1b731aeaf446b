use Rattle.ax_link.proofs.Pairs.{pair_start}
use Rattle.ax_link.proofs.laws.pair_start.Goals as goal

pub returns : goal.returns
returns c = record { sound = λ l r tl tr. pair_start l r tl tr }
