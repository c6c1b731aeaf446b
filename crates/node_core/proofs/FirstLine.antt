-- How many bytes of a text are done with when its first line is.
use Rattle.std.proofs.Common.{◌≡◌, ◌≢◌, ◌<◌, ◌+◌, ◌∙◌, ℕ, suc, refl, sym, ap, List, [], ◌∷◌, length, drop, arith, true, false}
use Rattle.std.specs.Prelude.{◌==◌, zero, slice_index_or}
use Rattle.std.proofs.lemmas.Bool.Decides.{nat_tests}
use Rattle.std.proofs.lemmas.List.{drop_all}
use Rattle.text_lines.specs.UserLines.{first_line, behind_line, without_lf}
use Rattle.text_lines.proofs.UserLines.{behind_return, behind_whole, suc_of}

pub lf_step : (at : ℕ) (text : List ℕ) → at < length text → slice_index_or text at 0 ≡ 10 → without_lf (drop at text) ≡ drop (suc at) text
lf_step at [] h e = absurd (omega (arith, h))
lf_step zero (b ∷ bs) h e = rw (let t : (b == 10) ≡ true = grind (arith, nat_tests, e) in t) refl
lf_step (suc at) (b ∷ bs) h e = lf_step at bs (omega (arith, h)) e

pub no_lf_step : (at : ℕ) (text : List ℕ) → at < length text → slice_index_or text at 0 ≢ 10 → without_lf (drop at text) ≡ drop at text
no_lf_step at [] h e = absurd (omega (arith, h))
no_lf_step zero (b ∷ bs) h e = rw (let t : (b == 10) ≡ false = grind (arith, nat_tests, e) in t) refl
no_lf_step (suc at) (b ∷ bs) h e = no_lf_step at bs (omega (arith, h)) e

-- how many bytes of a text are done with: the whole line, and no more where the text ends with it
pub done_whole : (text : List ℕ) (end : ℕ) → end ≡ length (first_line text) → end ≡ length text → drop end text ≡ behind_line text
done_whole text end e h = drop_all end text (omega (arith, h)) ∙ sym (behind_whole text (sym e ∙ h))

behind_end : (text : List ℕ) (end : ℕ) → end ≡ length (first_line text) → end < length text → behind_line text ≡ without_lf (drop (end + 1) text)
behind_end text end e h = rw (suc_of end) (rw e (behind_return text (omega (arith, e, h))))

-- its CR where the text ends with that
pub done_return : (text : List ℕ) (end : ℕ) → end ≡ length (first_line text) → end + 1 ≡ length text → drop (end + 1) text ≡ behind_line text
done_return text end e h =
    let none : drop (end + 1) text ≡ [] = drop_all (end + 1) text (omega (arith, h)) in
    none ∙ sym (behind_end text end e (omega (arith, h)) ∙ ap without_lf none)

-- an LF right behind that
pub done_lf : (text : List ℕ) (end : ℕ) → end ≡ length (first_line text) → end + 1 < length text → slice_index_or text (end + 1) 0 ≡ 10 → drop (end + 2) text ≡ behind_line text
done_lf text end e h lf =
    let two : end + 2 ≡ suc (end + 1) = omega arith in
    rw two (sym (behind_end text end e (omega (arith, h)) ∙ lf_step (end + 1) text h lf))

-- and nothing else
pub done_no_lf : (text : List ℕ) (end : ℕ) → end ≡ length (first_line text) → end + 1 < length text → slice_index_or text (end + 1) 0 ≢ 10 → drop (end + 1) text ≡ behind_line text
done_no_lf text end e h lf = sym (behind_end text end e (omega (arith, h)) ∙ no_lf_step (end + 1) text h lf)
