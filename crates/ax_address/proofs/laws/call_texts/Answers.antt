use Rattle.ax_address.proofs.Texts.{reads_call_texts}
use Rattle.ax_address.proofs.laws.call_texts.Goals as goal

pub returns : goal.returns
returns c = reads_call_texts
