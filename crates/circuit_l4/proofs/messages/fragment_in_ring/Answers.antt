use Rattle.std.proofs.Common.{refl, ◌∙◌}
use Rattle.circuit_l4.proofs.Rings.{fragment_is}
use Rattle.circuit_l4.proofs.messages.fragment_in_ring.Goals as goal

pub returns : goal.returns
returns c =
    fragment_is _ _ _ c.args.start c.args.len c.args.nth _ _ _ c.requires.held c.requires.nth refl refl c.min.ensures (c.text_of.ensures ∙ c.part.ensures) refl
