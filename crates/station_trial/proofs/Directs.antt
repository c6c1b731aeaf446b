-- What a line does, from what it says.
use Rattle.std.proofs.Common.{◌≡◌, ◌∙◌, ℕ, List, true, false, Ok, Err, Result, refl, sym, ap, subst, drop}
use Rattle.std.specs.Prelude.{if◌then◌else◌}
use Rattle.std.specs.Bool.{MatchBool}
use Rattle.text_lines.specs.Lines.{words_of}
use Rattle.station_script.specs.Directives.{Asked, asked, directive_of}
use Rattle.station_script.specs.declared.directive.Directive.{Directive}
use Rattle.station_script.specs.declared.directive_refusal.DirectiveRefusal.{DirectiveRefusal}
use Rattle.station_script.specs.declared.directive_refusal.DirectiveRefusal.TheVariants.{NoDirective}
use Rattle.station_trial.specs.declared.trial.Came.{Came}
use Rattle.station_trial.specs.declared.trial.Came.TheVariants.{Done, Refused}
use Rattle.station_trial.specs.Directing.{Becomes, Directs, DirectsBy, DirectsLine, DoesLine, Outcome, begins_with}
use Rattle.station_trial.specs.Standing.{Kept, TrialStands}
use Rattle.station_trial.specs.Trials.{TrialState, type_line}

-- what came of it is known
pub came_of : (outcome : Outcome) (came : Came) (k : Kept) → came ≡ outcome.0 → TrialStands k outcome.1 → (after : TrialState) × Becomes outcome came after × TrialStands k after
came_of outcome came k is stands = (outcome.1, (is, refl), stands)

-- what was done is what a directive asks for
pub does_asked : (d it : Directive) (s : TrialState) (came : Came) (after : TrialState) → d ≡ it → Directs (asked it) s came after → Directs (asked d) s came after
does_asked d it s came after is does = subst (λ x. Directs (asked x) s came after) (sym is) does

-- a directive does this step
pub does_step : (d it : Directive) (step : TrialState → Outcome) (old new : Kept) (came : Came) → d ≡ it
    → ((s : TrialState) (c : Came) (after : TrialState) → Becomes (step s) c after → Directs (asked it) s c after)
    → ((s : TrialState) → TrialStands old s → (came ≡ (step s).0) × TrialStands new (step s).1)
    → (s : TrialState) → TrialStands old s → (after : TrialState) × Directs (asked d) s came after × TrialStands new after
does_step d it step old new came is does goes s stands =
    let gone = goes s stands in
    ((step s).1, does_asked d it s came (step s).1 is (does s came (step s).1 (gone.0, refl)), gone.1)

-- ---- the words behind the mark

pub with_space : (rest : List ℕ) (s : TrialState) → begins_with 32 rest ≡ true → DirectsLine rest s (Refused NoDirective) s
with_space rest s space =
    subst (λ b. DirectsBy (if b then Err NoDirective else directive_of (words_of rest)) s (Refused NoDirective) s) (sym space) (refl, refl)

read_by : (rest : List ℕ) (r : Result Asked DirectiveRefusal) → begins_with 32 rest ≡ false → r ≡ directive_of (words_of rest)
    → r ≡ (if begins_with 32 rest then Err NoDirective else directive_of (words_of rest))
read_by rest r plain is = is ∙ sym (ap (λ b. if b then Err NoDirective else directive_of (words_of rest)) plain)

pub as_asked : (rest : List ℕ) (s : TrialState) (came : Came) (after : TrialState) (asked : Asked) → begins_with 32 rest ≡ false
    → Ok asked ≡ directive_of (words_of rest) → Directs asked s came after → DirectsLine rest s came after
as_asked rest s came after asked plain is does = subst (λ r. DirectsBy r s came after) (read_by rest (Ok asked) plain is) does

pub as_refused : (rest : List ℕ) (s : TrialState) (why : DirectiveRefusal) → begins_with 32 rest ≡ false
    → Err why ≡ directive_of (words_of rest) → DirectsLine rest s (Refused why) s
as_refused rest s why plain is = subst (λ r. DirectsBy r s (Refused why) s) (read_by rest (Err why) plain is) (refl, refl)

-- ---- lines

pub does_directive : (line rest : List ℕ) (s : TrialState) (came : Came) (after : TrialState) → begins_with 33 line ≡ true → rest ≡ drop 1 line
    → DirectsLine rest s came after → DoesLine line s came after
does_directive line rest s came after mark behind does =
    subst (λ b. MatchBool b (DirectsLine (drop 1 line) s came after) (Becomes (Done, type_line line s) came after)) (sym mark)
    (subst (λ r. DirectsLine r s came after) behind does)

pub does_typing : (line : List ℕ) (s : TrialState) → begins_with 33 line ≡ false → DoesLine line s Done (type_line line s)
does_typing line s other =
    subst (λ b. MatchBool b (DirectsLine (drop 1 line) s Done (type_line line s)) (Becomes (Done, type_line line s) Done (type_line line s))) (sym other) (refl, refl)
