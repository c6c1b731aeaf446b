use Rattle.std.proofs.Common.{◌≤◌, sym, length, arith}
use Rattle.std.proofs.lemmas.List.{length-drop}
use Rattle.radio_base.specs.Modulus.{modulus_size}
use Rattle.ax_frame.proofs.Fields.{is_of_link}
use Rattle.ax_frame.proofs.FrameLaws.{control_at_takes, pid_takes}
use Rattle.ax_frame.proofs.read.parts.Goals as goal

pub pid_at-requires : goal.pid_at-requires
pid_at-requires c =
    let field = control_at_takes (modulus_size c.args.modulus) c.args.at c.args.bytes.now (c.in_ok-control.control, c.in_ok-control.at) (is_of_link c.args.modulus) (λ i. omega (arith, c.type_inv.bytes i)) (sym c.in_ok-control.ensures) in
    omega (arith, field.within, length-drop c.args.at c.args.bytes.now, c.requires.within)

pub returns-clause-within : goal.returns-clause-within
returns-clause-within c =
    let field = control_at_takes (modulus_size c.args.modulus) c.args.at c.args.bytes.now (c.in_ok-control.control, c.in_ok-control.at) (is_of_link c.args.modulus) (λ i. omega (arith, c.type_inv.bytes i)) (sym c.in_ok-control.ensures) in
    let within : c.in_ok-control.at ≤ length c.args.bytes.now = omega (arith, field.within, length-drop c.args.at c.args.bytes.now, c.requires.within) in
    let pid = pid_takes c.in_ok-control.at c.args.bytes.now c.in_ok-control.control (c.in_ok-pid.pid, c.in_ok-pid.at) within (sym c.in_ok-pid.ensures) in
    omega (arith, pid.within, length-drop c.in_ok-control.at c.args.bytes.now)
