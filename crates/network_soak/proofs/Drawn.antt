-- The drawn lines, one after another.
use Rattle.std.proofs.Common.{◌≡◌, ◌∙◌, ◌<◌, ◌≤◌, ◌+◌, ◌-◌, ◌++◌, ℕ, suc, List, [], refl, sym, ap, append_assoc, append-nil, arith}
use Rattle.network_soak.specs.Files.{drawn, drawn_text}

-- as many as are left, of which there is one
left_before : (nth : ℕ) → nth < 301 → 301 - nth ≡ suc (301 - (nth + 1))
left_before nth h = omega arith

first_of : (nth more x : ℕ) → drawn_text nth (suc more) x ≡ (drawn nth x).text ++ drawn_text (nth + 1) more (drawn nth x).after
unfolding drawn_text
first_of nth more x = refl

none_of : (nth x : ℕ) → drawn_text nth 0 x ≡ []
unfolding drawn_text
none_of nth x = refl

-- one line more is written
pub one_more : (nth x next : ℕ) (text new all : List ℕ) → nth < 301 → new ≡ text ++ (drawn nth x).text → next ≡ (drawn nth x).after → text ++ drawn_text nth (301 - nth) x ≡ all
    → new ++ drawn_text (nth + 1) (301 - (nth + 1)) next ≡ all
one_more nth x next text new all h wrote after so_far =
    let rest : ℕ → List ℕ = λ y. drawn_text (nth + 1) (301 - (nth + 1)) y in
    let last = rest (drawn nth x).after in
    let both : drawn_text nth (301 - nth) x ≡ (drawn nth x).text ++ last =
    ap (λ n. drawn_text nth n x) (left_before nth h) ∙ first_of nth (301 - (nth + 1)) x in
    ap (λ y. new ++ rest y) after ∙ (ap (λ t. t ++ last) wrote ∙ (append_assoc text (drawn nth x).text last ∙ (ap (λ t. text ++ t) (sym both) ∙ so_far)))

-- none is left
pub no_more : (nth x : ℕ) (text all : List ℕ) → 301 ≤ nth → text ++ drawn_text nth (301 - nth) x ≡ all → text ≡ all
no_more nth x text all h so_far =
    let none : 301 - nth ≡ 0 = omega arith in
    sym (append-nil text) ∙ (ap (λ t. text ++ t) (sym (ap (λ n. drawn_text nth n x) none ∙ none_of nth x)) ∙ so_far)
