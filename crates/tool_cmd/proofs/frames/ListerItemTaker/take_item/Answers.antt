use Rattle.std.proofs.Common.{◌≡◌, ◌∙◌, ap, sym}
use Rattle.std.specs.Prelude.{Some}
use Rattle.kiss_framing.specs.Feeding.{handed_out}
use Rattle.radio_base.specs.Modulus.{modulus_size}
use Rattle.tool_cmd.proofs.StreamItems.{lists-more}
use Rattle.tool_cmd.proofs.frames.ListerItemTaker.take_item.Goals as goal

pub returns-in_ok-add_item-in-Modulo8-clause-takes : goal.returns-in_ok-add_item-in-Modulo8-clause-takes
returns-in_ok-add_item-in-Modulo8-clause-takes c = λ first before text more grown took.
    let size : modulus_size first.modulus ≡ 8 = ap modulus_size (sym took.0 ∙ c.in-Modulo8.is) in
    (took.0, rw size (lists-more 8 before (handed_out (Some c.args.item.now)) _ _ text more grown (rw size at took.1) c.in_ok-add_item-in-Modulo8.ensures))

pub returns-in_ok-add_item-in-Modulo128-clause-takes : goal.returns-in_ok-add_item-in-Modulo128-clause-takes
returns-in_ok-add_item-in-Modulo128-clause-takes c = λ first before text more grown took.
    let size : modulus_size first.modulus ≡ 128 = ap modulus_size (sym took.0 ∙ c.in-Modulo128.is) in
    (took.0, rw size (lists-more 128 before (handed_out (Some c.args.item.now)) _ _ text more grown (rw size at took.1) c.in_ok-add_item-in-Modulo128.ensures))
