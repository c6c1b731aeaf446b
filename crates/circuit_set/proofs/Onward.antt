-- An end that has come to where it is by inputs of its own: its expiries in a run are those over these inputs.
use Rattle.std.specs.Prelude.{◌≡◌, ℕ, ◌+◌, ◌↔◌, Bool, true, false, not, ◌&&◌, ◌||◌, nat_lt, if◌then◌else◌, List, [], ◌∷◌, ◌++◌, Contains, None, refl}
use Rattle.std.proofs.Common.{sym, ◌∙◌, ap, subst, arith, append_assoc}
use Rattle.std.proofs.lemmas.Bool.Decides.{nat_tests}
use Rattle.std.proofs.lemmas.List.{append-nil}
use Rattle.circuit_l4.specs.declared.notice.EndNotice.{EndNotice}
use Rattle.circuit_l4.specs.declared.notice.EndNotice.TheVariants.{FailedRetries}
use Rattle.circuit_l4.specs.State.{Effect, State}
use Rattle.circuit_l4.specs.Laws.{FailsAfterRetries, IsNew, after_inputs, followed_by}
use Rattle.circuit_l4.specs.Table.{Input, step}
use Rattle.circuit_l4.specs.Expiries as ends
use Rattle.circuit_l4.specs.Expiries.{Moment, any_renews, count, expires, expiries, is_anew, is_closing, renews}
use Rattle.circuit_l4.proofs.Retries.{moment_of, since_all}
use Rattle.circuit_set.proofs.Acts.{lives_on}
use Rattle.circuit_set.proofs.Invariant.{Lived}

-- ---- a moment at which nothing expires and nothing counts anew ----
any_still : (ms : List Moment) (m : Moment) (more : List Moment) → renews m ≡ false → any_renews (ms ++ m ∷ more) ≡ any_renews (ms ++ more)
any_still [] m more e = simp e refl
any_still (x ∷ ms) m more e = ap (λ b. renews x || b) (any_still ms m more e)

count_still : (ms : List Moment) (m : Moment) (more : List Moment) → expires m ≡ false → count (ms ++ m ∷ more) ≡ count (ms ++ more)
count_still [] m more e = let here : count (m ∷ more) ≡ 0 + count more = simp e refl in omega (arith, here)
count_still (x ∷ ms) m more e = ap (λ n. (if expires x then 1 else 0) + n) (count_still ms m more e)

first_still : (b : Bool) (m : Moment) (more : List Moment) → any_renews more ≡ b → renews m ≡ false → expires m ≡ false → expiries (m ∷ more) ≡ expiries more
first_still true m more e f g = simp e refl
first_still false m more e f g =
    let all : expiries more ≡ count more = ap count (since_all more e) in
    let here : expiries (m ∷ more) ≡ count (m ∷ more) = simp (e, f) refl in
    here ∙ count_still [] m more g ∙ sym all

later_still : (b c : Bool) (x : Moment) (xs ys : List Moment) → any_renews xs ≡ b → any_renews ys ≡ b → renews x ≡ c → expiries xs ≡ expiries ys → count xs ≡ count ys → expiries (x ∷ xs) ≡ expiries (x ∷ ys)
later_still true c x xs ys e f g same counts =
    let one : expiries (x ∷ xs) ≡ expiries xs = simp e refl in
    let two : expiries (x ∷ ys) ≡ expiries ys = simp f refl in
    one ∙ same ∙ sym two
later_still false true x xs ys e f g same counts =
    let one : expiries (x ∷ xs) ≡ count xs = simp (e, g) refl in
    let two : expiries (x ∷ ys) ≡ count ys = simp (f, g) refl in
    one ∙ counts ∙ sym two
later_still false false x xs ys e f g same counts =
    let one : expiries (x ∷ xs) ≡ count (x ∷ xs) = simp (e, g) refl in
    let two : expiries (x ∷ ys) ≡ count (x ∷ ys) = simp (f, g) refl in
    one ∙ ap (λ n. (if expires x then 1 else 0) + n) counts ∙ sym two

-- it changes no count
expiries_still : (ms : List Moment) (m : Moment) (more : List Moment) → renews m ≡ false → expires m ≡ false → expiries (ms ++ m ∷ more) ≡ expiries (ms ++ more)
expiries_still [] m more f g = first_still (any_renews more) m more refl f g
expiries_still (x ∷ ms) m more f g =
    later_still (any_renews (ms ++ more)) (renews x) x (ms ++ m ∷ more) (ms ++ more) (any_still ms m more f) refl refl (expiries_still ms m more f g) (count_still ms m more g)

and_not : (b : Bool) → (b && not b) ≡ false
and_not true = refl
and_not false = refl

self_anew : (s : State) → is_anew s s ≡ false
self_anew s =
    let same : nat_lt s.sending.acked s.sending.acked ≡ false = grind (arith, nat_tests) in
    let closing : (is_closing s.phase && not (is_closing s.phase)) ≡ false = and_not (is_closing s.phase) in
    simp (same, closing) refl

-- ---- over inputs ----
moments_on : (g : Effect) (inputs : List (Input × ℕ)) (i : Input) (now : ℕ) → ends.moments g.end (inputs ++ (i, now) ∷ []) ≡ ends.moments g.end inputs ++ moment_of (after_inputs g inputs).end i now ∷ []
moments_on g [] i now = refl
moments_on g (j ∷ inputs) i now = ap (λ ms. moment_of g.end j.0 j.1 ∷ ms) (moments_on (followed_by g (step g.end j.0 j.1)) inputs i now)

-- one moment more, and many
abbrev pub and_then : List Moment → Moment → List Moment
and_then past m = past ++ m ∷ []

abbrev pub onward : List Moment → List Moment → List Moment
onward past [] = past
onward past (m ∷ ms) = onward (and_then past m) ms

pub onward_is : (past ms : List Moment) → onward past ms ≡ past ++ ms
onward_is past [] = sym (append-nil past)
onward_is past (m ∷ ms) = onward_is (and_then past m) ms ∙ append_assoc past (m ∷ []) ms

pub onward_on : (past xs ys : List Moment) → onward past (xs ++ ys) ≡ onward (onward past xs) ys
onward_on past [] ys = refl
onward_on past (x ∷ xs) ys = onward_on (and_then past x) xs ys

-- it has come here by inputs of its own, and whatever comes next, its expiries are those over these
pub record Life (past : List Moment) (s : State) (notes : List EndNotice) : Type 0 where
  pub lived : Lived s notes
  pub retries : s.config.retries ≡ lived.first.end.config.retries
  pub same : (more : List Moment) → expiries (past ++ more) ≡ expiries (ends.moments lived.first.end lived.inputs ++ more)

pub begins : (g : Effect) → IsNew g → Life [] g.end g.notes
begins g new = record { lived = record { first = g; new = new; inputs = []; end = refl; notes_are = refl }; retries = refl; same = λ more. refl }

pub goes : (past : List Moment) (s : State) (i : Input) (now : ℕ) (notes : List EndNotice) → (step s i now).end.config.retries ≡ s.config.retries → Life past s notes
    → Life (and_then past (moment_of s i now)) (step s i now).end (notes ++ (step s i now).notes)
unfolding lives_on
goes past s i now notes kept l =
    let m : Moment = moment_of s i now in
    let given : List (Input × ℕ) = l.lived.inputs in
    let first : Effect = l.lived.first in
    let all : ends.moments first.end (given ++ (i, now) ∷ []) ≡ ends.moments first.end given ++ m ∷ [] =
    moments_on first given i now ∙ ap (λ t. ends.moments first.end given ++ moment_of t i now ∷ []) l.lived.end in
    record {
      lived = lives_on s notes i now l.lived;
      retries = kept ∙ l.retries;
      same = λ more.
          ap expiries (append_assoc past (m ∷ []) more) ∙ l.same (m ∷ more) ∙ sym (ap expiries (append_assoc (ends.moments first.end given) (m ∷ []) more))
          ∙ sym (ap (λ ms. expiries (ms ++ more)) all);
    }

-- nothing has changed
pub still : (past : List Moment) (s : State) (notes : List EndNotice) → Life past s notes → Life (and_then past (record { was = s; tick = None; is = s })) s notes
still past s notes l = record {
  lived = l.lived;
  retries = l.retries;
  same = λ more.
      let m : Moment = record { was = s; tick = None; is = s } in
      ap expiries (append_assoc past (m ∷ []) more) ∙ expiries_still past m more (self_anew s) refl ∙ l.same more;
}

-- what it was told of them
pub tells : FailsAfterRetries → (past : List Moment) (s : State) (notes : List EndNotice) → Life past s notes → Contains notes FailedRetries ↔ (expiries past ≡ s.config.retries + 1)
tells law past s notes l =
    let first : Effect = l.lived.first in
    let all : List Moment = ends.moments first.end l.lived.inputs in
    let count_is : expiries past ≡ expiries all = ap expiries (sym (append-nil past)) ∙ l.same [] ∙ ap expiries (append-nil all) in
    let more : first.end.config.retries + 1 ≡ s.config.retries + 1 = ap (λ n. n + 1) (sym l.retries) in
    let t : Contains notes FailedRetries ↔ (expiries all ≡ first.end.config.retries + 1) =
    subst (λ ns. Contains ns FailedRetries ↔ (expiries all ≡ first.end.config.retries + 1)) l.lived.notes_are (law first l.lived.new l.lived.inputs) in
    (λ w. count_is ∙ t.0 w ∙ more, λ e. t.1 (sym count_is ∙ e ∙ sym more))
