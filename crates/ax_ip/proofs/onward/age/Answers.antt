use Rattle.std.proofs.Common.{◌≡◌, ◌+◌, ◌-◌, ℕ, List, take, drop, get_or, set, refl}
use Rattle.ax_ip.specs.Machine.{with_header_sum}
use Rattle.ax_ip.specs.Packets.{word_octets, lacking, word_sum}
use Rattle.ax_ip.proofs.onward.age.Goals as goal

signed : (p w : List ℕ) (header x y s : ℕ) → x ≡ word_sum (take 10 p) → y ≡ word_sum (take (header - 12) (drop 12 p)) → s ≡ lacking (x + y) → w ≡ word_octets s
    → set (set p 10 (get_or w 0 0)) 11 (get_or w 1 0) ≡ with_header_sum header p
signed p w header x y s a b c d = rw (d, c, a, b) refl

pub returns : goal.returns
returns c = signed _ c.word_octets.result _ _ _ _ c.word_sum.ensures.value c.word_sum-2.ensures.value c.checksum-sum.ensures.value c.word_octets.ensures.value
