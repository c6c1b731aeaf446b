-- Sums of words.
use Rattle.std.proofs.Common.{◌≡◌, ◌<◌, ◌≤◌, ◌+◌, ◌%◌, ◌++◌, ◌∙◌, ℕ, sym, ap, List, [], ◌∷◌, length, arith, append_assoc}
use Rattle.std.specs.Prelude.{◌&&◌, ◌==◌, nat_eq, nat_lt}
use Rattle.std.proofs.lemmas.Bool.Decides.{nat_tests}
use Rattle.ax_ip.specs.Packets.{word_sum, lacking}

-- words add up part by part, where the first part has no half of one
pub word_sum_append : (xs ys : List ℕ) → length xs % 2 ≡ 0 → word_sum (xs ++ ys) ≡ word_sum xs + word_sum ys
word_sum_append [] ys h = omega arith
word_sum_append (x ∷ []) ys h = absurd (omega arith)
word_sum_append (x ∷ y ∷ xs) ys h = let rest = word_sum_append xs ys (omega arith) in omega arith

-- the sum of ones' complement is FFFF where the words add up to a multiple of it that isn't 0
pub right_is : (r w : ℕ) → r ≤ 65535 → r % 65535 ≡ w % 65535 → (0 < w → 0 < r) → (w ≡ 0 → r ≡ 0) → nat_eq r 65535 ≡ (nat_lt 0 w && (w % 65535 == 0))
right_is r w small same some none = grind (arith, nat_tests)

pub sum_is : (x y s : ℕ) (front back : List ℕ) → x ≡ word_sum front → y ≡ word_sum back → length front % 2 ≡ 0 → s ≡ lacking (x + y) → s ≡ lacking (word_sum (front ++ back))
sum_is x y s front back h g even e = e ∙ ap lacking (rw (h, g) (sym (word_sum_append front back even)))

pub pushed : (start front word back one two three : List ℕ) → one ≡ start ++ front → two ≡ one ++ word → three ≡ two ++ back → three ≡ start ++ ((front ++ word) ++ back)
pushed start front word back one two three e f g = rw (g, f, e) (simp append_assoc)
