use Rattle.std.proofs.Common.{◌++◌, ◌∷◌, [], ◌∙◌, ap}
use Rattle.radio_base.specs.Modulus.{modulus_size}
use Rattle.net_report.specs.Reports.{text_of_frame}
use Rattle.ax_frame.specs.Frames.{read_at}
use Rattle.net_report.proofs.Texts.{frame_line_joined}
use Rattle.net_report.proofs.reports.write_frame_line.Goals as goal

pub returns : goal.returns
returns c =
    let frame = text_of_frame (read_at (modulus_size c.args.frame.now.modulus) c.args.frame.now.octets.items) in
    let first = c.in_ok-text.ensures.ok in
    let second = c.in_ok-write_frame_text.ensures in
    c.in_ok-text-2.ensures.ok ∙ (ap (λ t. t ++ 10 ∷ []) (second ∙ ap (λ t. t ++ frame) first) ∙ frame_line_joined c.args.text.now c.as_str.result.now c.args.number c.args.frame.now.sender frame (c.as_str.ensures.value ∙ c.air_start-start.ensures))
