-- The last lines of a report.
use Rattle.std.proofs.Common.{◌≡◌, ◌+◌, ℕ, suc, List, [], ◌∷◌, ◌++◌, length, map, Option, Some, None, slice_get, unwrap_or, refl, ap, sym, ◌∙◌, append_assoc, append-nil, arith}
use Rattle.std.specs.Prelude.{codes}
use Rattle.std.specs.Fmt.{decimal}
use Rattle.ax_link.specs.declared.facts.LinkFacts.{LinkFacts}
use Rattle.link_life.specs.declared.act.Side.{Side}
use Rattle.link_life.specs.declared.book.Book.{Book}
use Rattle.link_life.specs.declared.epoch.Epoch.{Epoch as EpochKept}
use Rattle.link_life.specs.declared.epoch.Lasting.{Lasting}
use Rattle.link_life.specs.Ends.{End, Epoch, epochs, lasting, partner_of}
use Rattle.link_life.specs.Reports.{epoch_line, epoch_lines, letter}
use Rattle.link_life.specs.Standing as standing
use Rattle.link_life.specs.Standing.{BookStands, FactsAre, counted, epoch_kept, epoch_line_kept, epoch_lines_kept, number_kept, over_kept}
use Rattle.link_life.proofs.Books.{all_over}

first_is : (hs : List ℕ) → unwrap_or (slice_get hs 0) 0 ≡ partner_of hs
first_is [] = refl
first_is (x ∷ xs) = refl

line_same : (side : Side) (n : ℕ) (e : Epoch) → epoch_line_kept side n (counted e) ≡ epoch_line side n e
line_same side n e =
    ap (λ p.
    codes "epoch "
    ++ (letter side
    ++ (codes " "
    ++ (decimal n
    ++ (codes " "
    ++ ((codes "given=" ++ (decimal (length e.given) ++ (codes " got=" ++ (decimal (length e.received) ++ (codes " acked=" ++ (decimal e.acked ++ (codes " partner=" ++ decimal p)))))))
    ++ codes "\n")))))) (first_is e.heard)

lines_same : (side : Side) (n : ℕ) (es : List Epoch) → epoch_lines_kept side n (map counted es) ≡ epoch_lines side n es
lines_same side n [] = refl
lines_same side n (e ∷ es) = ap (λ xs. xs ++ epoch_lines_kept side (suc n) (map counted es)) (line_same side (suc n) e) ∙ ap (λ xs. epoch_line side (suc n) e ++ xs) (lines_same side (suc n) es)

lines_last : (side : Side) (n : ℕ) (es : List EpochKept) (e : EpochKept) → epoch_lines_kept side n (es ++ e ∷ []) ≡ epoch_lines_kept side n es ++ epoch_line_kept side (suc (n + length es)) e
lines_last side n [] e = let z : n + 0 ≡ n = omega arith in rw z (append-nil (epoch_line_kept side (suc n) e))
lines_last side n (x ∷ xs) e =
    let z : n + suc (length xs) ≡ suc n + length xs = omega arith in
    rw z (ap (λ ys. epoch_line_kept side (suc n) x ++ ys) (lines_last side (suc n) xs e)
    ∙ sym (append_assoc (epoch_line_kept side (suc n) x) (epoch_lines_kept side (suc n) xs) (epoch_line_kept side (suc (suc n + length xs)) e)))

-- with no epoch that lasts
pub ends_over : (size : ℕ) (side : Side) (b : Book) (e : End) (old new : List ℕ) → BookStands size b e → b.lasting ≡ None → new ≡ old ++ epoch_lines_kept side 0 b.over.items →
    new ≡ old ++ epoch_lines side 0 (epochs e)
ends_over size side b e old new s n q = by e.heard (sym s.lasting ∙ n)
  where
    by : (h : Option (List ℕ)) → standing.lasting_of h ≡ None → new ≡ old ++ epoch_lines side 0 (e.over ++ lasting e.link h)
    by None z = q ∙ ap (λ (xs : List EpochKept). old ++ epoch_lines_kept side 0 xs) s.over ∙ ap (λ xs. old ++ xs) (lines_same side 0 e.over) ∙ ap (λ (xs : List Epoch). old ++ epoch_lines side 0 xs) (sym (append-nil e.over))
    by (Some hs) z = absurd (cc z)

-- with one that lasts
pub ends_lasting : (size : ℕ) (side : Side) (b : Book) (e : End) (f : LinkFacts) (l : Lasting) (old mid new : List ℕ) → FactsAre f e.link → BookStands size b e → b.lasting ≡ Some l →
    mid ≡ old ++ epoch_lines_kept side 0 b.over.items → new ≡ mid ++ epoch_line_kept side (number_kept b) (epoch_kept f l) → new ≡ old ++ epoch_lines side 0 (epochs e)
ends_lasting size side b e f l old mid new a s n q r =
    let number : number_kept b ≡ suc (0 + length b.over.items) = ap (λ (x : Option Lasting). standing.number_by (length b.over.items) x) n ∙ (let z : suc (length b.over.items) ≡ suc (0 + length b.over.items) = omega arith in z) in
    let line : new ≡ old ++ epoch_lines_kept side 0 (b.over.items ++ epoch_kept f l ∷ []) =
    r ∙ ap (λ m. mid ++ epoch_line_kept side m (epoch_kept f l)) number ∙ ap (λ xs. xs ++ epoch_line_kept side (suc (0 + length b.over.items)) (epoch_kept f l)) q
    ∙ append_assoc old (epoch_lines_kept side 0 b.over.items) (epoch_line_kept side (suc (0 + length b.over.items)) (epoch_kept f l))
    ∙ ap (λ xs. old ++ xs) (sym (lines_last side 0 b.over.items (epoch_kept f l))) in
    let all : b.over.items ++ epoch_kept f l ∷ [] ≡ map counted (epochs e) = all_over size b e f _ a s (ap (λ (x : Option Lasting). b.over.items ++ over_kept f x) (sym n)) in
    line ∙ ap (λ (xs : List EpochKept). old ++ epoch_lines_kept side 0 xs) all ∙ ap (λ xs. old ++ xs) (lines_same side 0 (epochs e))
