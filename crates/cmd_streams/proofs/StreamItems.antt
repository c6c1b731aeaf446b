-- Items, as they come.
use Rattle.std.proofs.Common.{◌≡◌, ◌++◌, ◌∙◌, ◌-◌, ℕ, List, [], sym, append-nil}
use Rattle.std.proofs.lemmas.List.{append_cancel_left}

-- where nothing was added it was nothing
pub nothing_more : (text more : List ℕ) → text ≡ text ++ more → more ≡ []
nothing_more text more e = append_cancel_left text more [] (sym e ∙ sym (append-nil text))
