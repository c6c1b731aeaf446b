-- Lines and items, as they come.
use Rattle.std.proofs.Common.{◌≡◌, ◌++◌, ◌∙◌, ◌-◌, ℕ, List, [], ◌∷◌, sym, ap, subst, append_assoc}
use Rattle.kiss_framing.specs.Stream.{Item}
use Rattle.frame_lines.specs.Listing.{Lists}
use Rattle.std.proofs.lemmas.List.{append_cancel_left}

-- the lines of items one after another
pub lists-append : (size : ℕ) (is js : List Item) (a b : List ℕ) → Lists size is a → Lists size js b → Lists size (is ++ js) (a ++ b)
lists-append size [] js a b e lb = rw e lb
lists-append size (i ∷ is) js a b la lb =
    (la.0, la.1 ++ b, la.2, lists-append size is js la.1 b la.3 lb, ap (λ xs. xs ++ b) la.4 ∙ append_assoc la.0 la.1 b)

-- what was added is the one text behind the old one
pub lists-more : (size : ℕ) (is new : List Item) (old behind text more : List ℕ) → behind ≡ old ++ more → Lists size is text → (line : List ℕ) × Lists size new line × (behind ≡ old ++ line) → Lists size (is ++ new) (text ++ more)
lists-more size is new old behind text more grown before adds =
    let same : adds.0 ≡ more = append_cancel_left old adds.0 more (sym adds.2 ∙ grown) in
    lists-append size is new text more before (subst (λ xs. Lists size new xs) same adds.1)
