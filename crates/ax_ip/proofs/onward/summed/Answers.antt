use Rattle.std.proofs.Common.{◌≡◌, ◌∙◌, ◌++◌, ap}
use Rattle.ax_ip.specs.Packets.{word_octets, lacking, word_sum}
use Rattle.ax_ip.proofs.Words.{sum_is, pushed}
use Rattle.ax_ip.proofs.onward.summed.Goals as goal

pub returns-clause-octets : goal.returns-clause-octets
returns-clause-octets c =
    let sum = sum_is _ _ c.checksum-sum.result c.args.front.now c.args.back.now c.word_sum.ensures.value c.word_sum-2.ensures.value c.requires.even c.checksum-sum.ensures.value in
    let word : c.word_octets.result ≡ word_octets (lacking (word_sum (c.args.front.now ++ c.args.back.now))) = c.word_octets.ensures.value ∙ ap word_octets sum in
    pushed _ _ _ _ _ _ _ c.push_octets.ensures.octets (rw word at c.push_octets-2.ensures.octets) c.push_octets-3.ensures.octets
