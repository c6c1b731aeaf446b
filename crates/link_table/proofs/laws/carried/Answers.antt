use Rattle.std.proofs.Common.{refl}
use Rattle.link_table.proofs.Carrier.{carries_on}
use Rattle.link_table.proofs.laws.carried.Goals as goal

pub returns : goal.returns
returns c = λ offered came sizes.
    carries_on c.steps.ensures.payloads c.steps.ensures.bounds c.steps.ensures.settings (λ size config m. (c.link_safe.ensures.bounded size config config m refl).left) offered came sizes
