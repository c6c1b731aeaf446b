use Rattle.std.proofs.Common.{List, ℕ, sym, subst, arith}
use Rattle.std.proofs.lemmas.List.{take_rest}
use Rattle.ax_frame.specs.Frames.{Spells, frame}
use Rattle.radio_base.specs.Modulus.{modulus_size}
use Rattle.ax_frame.proofs.Fields.{is_of_link}
use Rattle.ax_frame.proofs.FrameLaws.{frame_takes}
use Rattle.ax_frame.proofs.read.behind_head.Goals as goal

pub returns-clause-found : goal.returns-clause-found
returns-clause-found c = λ h begins.
    let bytes = c.args.bytes.now in
    let parts = c.in_ok-control in
    let taken = frame_takes (modulus_size c.args.modulus) bytes h c.args.at (parts.control, parts.pid, parts.at) (is_of_link c.args.modulus) (λ i. omega (arith, c.type_inv.bytes i)) begins c.requires.ends (sym parts.ensures.judged) in
    subst (λ (info : List ℕ). Spells (modulus_size c.args.modulus) (frame h parts.control parts.pid info) bytes) (sym (take_rest bytes parts.at)) taken.spells
