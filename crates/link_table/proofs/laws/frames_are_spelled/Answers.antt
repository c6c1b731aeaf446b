use Rattle.std.proofs.Common.{refl}
use Rattle.link_table.proofs.Reaching.{reaches_on}
use Rattle.link_table.proofs.laws.frames_are_spelled.Goals as goal

pub returns : goal.returns
returns c =
    reaches_on c.steps.ensures.bounds c.steps.ensures.settings c.frames_can_be_written.ensures
    (λ size config m. (c.link_safe.ensures.bounded size config config m refl).left)
