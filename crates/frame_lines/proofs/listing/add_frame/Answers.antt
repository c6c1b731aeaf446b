use Rattle.std.proofs.Common.{◌≡◌, ◌++◌, ◌∙◌, refl, codes}
use Rattle.ax_frame.specs.Frames.{view}
use Rattle.ax_frame.specs.FrameText.{frame_text, number_text}
use Rattle.frame_lines.proofs.ListingLemmas.{gained}
use Rattle.frame_lines.proofs.listing.add_frame.Goals as goal

pub returns : goal.returns
returns c =
    let port = number_text (codes "port=") c.args.port in
    let text = frame_text (view c.args.frame.now) in
    let prefix : c.as_str.result.now ≡ port ++ codes " " = rw (c.as_str.ensures.value, c.push_str.ensures.bytes, c.push_number.ensures.text, c.new-line.ensures) refl in
    let all : c.text-2.new.self ≡ ((c.args.text.now ++ (port ++ codes " ")) ++ text) ++ codes "\n" =
    rw (c.in_ok-text-2.ensures.ok, c.in_ok-show_frame.ensures.ok, c.in_ok-text.ensures.ok, prefix) refl in
    all ∙ gained c.args.text.now port (codes " ") text (codes "\n")
