use Rattle.std.proofs.Common.{◌≡◌, ◌++◌, List, [], ◌∷◌, ℕ, map, refl, sym, ◌∙◌, ap, append_assoc}
use Rattle.link_life.specs.declared.act.NumberedAct.{NumberedAct}
use Rattle.link_life.specs.Lives.{Life, act_on, after_act, run}
use Rattle.link_life.specs.Reports.{epochs_text, life_text, line_text}
use Rattle.link_life.proofs.laws.reports_end.Goals as goal

ends : (w : Life) (script : List NumberedAct) → (lines : List ℕ) × (life_text w script ≡ lines ++ epochs_text (run w (map (λ n. n.act) script)))
ends w [] = ([], refl)
ends w (n ∷ ns) =
    let later : Life = after_act (act_on n.act w) w in
    let line : List ℕ = line_text w.rules.size n.line (act_on n.act w) in
    let more = ends later ns in
    (line ++ more.0, ap (λ text. line ++ text) more.1 ∙ sym (append_assoc line more.0 (epochs_text (run later (map (λ k. k.act) ns)))))

pub returns : goal.returns
returns c = ends
