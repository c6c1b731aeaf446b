-- So many turns are enough; and where turns settle, they do so once.
use Rattle.std.proofs.Common.{◌≡◌, ◌≤◌, ◌<◌, ◌∙◌, ℕ, zero, suc, refl, sym, ap, subst, arith}
use Rattle.std.specs.Prelude.{Bool, true, false, if◌then◌else◌}
use Rattle.node_model.specs.Turns.{Turn, turns, settle, Settled, SettlesTo, Rests, Goes_on}

-- each turn that does something lowers what is left to do
abbrev pub Falls : {S : Type 0} → (S → Turn S) → (S → ℕ) → Type 0
Falls {S} turn left = (s : S) → (turn s).did ≡ true → left (turn s).after < left s

-- what each turn keeps, all of them keep
abbrev pub Keeps : {S : Type 0} → (S → Turn S) → (S → Type 0) → Type 0
Keeps {S} turn P = (s : S) → P s → P (turn s).after

-- they settle from each state
abbrev pub Settles : {S : Type 0} → (S → Turn S) → Type 0
Settles {S} turn = (s : S) → Settled turn s

-- a state is what a turn has left that did nothing
pub record IsAtRest {S : Type 0} (turn : S → Turn S) (s : S) : Type 0 where
  pub last : S
  pub nothing : (turn last).did ≡ false
  pub is : s ≡ (turn last).after

-- nothing is left to do, so the turn does nothing
stops : {S : Type 0} (turn : S → Turn S) (left : S → ℕ) → Falls turn left → (s x : S) → left s ≤ 0 → (b : Bool) → (turn s).did ≡ b
    → (if (turn s).did then x else (turn s).after) ≡ (turn s).after
stops turn left falls s x none true e =
    let fell : left (turn s).after < left s = falls s e in
    absurd (omega arith)
stops turn left falls s x none false e = rw e refl

-- both go on, or both stop
goes : {S : Type 0} (turn : S → Turn S) (s x y : S) → (b : Bool) → (turn s).did ≡ b → ((turn s).did ≡ true → x ≡ y)
    → (if (turn s).did then x else (turn s).after) ≡ (if (turn s).did then y else (turn s).after)
goes turn s x y true e same = ap (λ z. if (turn s).did then z else (turn s).after) (same e)
goes turn s x y false e same = rw e refl

-- however many turns there may be, where they are enough they come to the same
pub same : {S : Type 0} (turn : S → Turn S) (left : S → ℕ) → Falls turn left → (k m : ℕ) (s : S) → left s ≤ k → left s ≤ m → turns turn k s ≡ turns turn m s
same turn left falls zero zero s p q = refl
same turn left falls zero (suc m) s p q = sym (stops turn left falls s (turns turn m (turn s).after) p (turn s).did refl)
same turn left falls (suc k) zero s p q = stops turn left falls s (turns turn k (turn s).after) q (turn s).did refl
same turn left falls (suc k) (suc m) s p q =
    goes turn s (turns turn k (turn s).after) (turns turn m (turn s).after) (turn s).did refl
    (λ e. let fell : left (turn s).after < left s = falls s e in same turn left falls k m (turn s).after (omega (arith, p, q, fell)) (omega (arith, p, q, fell)))

-- a settling is a turn, and where that did something a settling again
pub unfolds : {S : Type 0} (turn : S → Turn S) (left : S → ℕ) → Falls turn left → (s : S) → settle turn left s ≡ (if (turn s).did then settle turn left (turn s).after else (turn s).after)
unfolding settle
unfolds turn left falls s =
    same turn left falls (left s) (suc (left s)) s (omega arith) (omega arith)
    ∙ goes turn s (turns turn (left s) (turn s).after) (settle turn left (turn s).after) (turn s).did refl
    (λ e. let fell : left (turn s).after < left s = falls s e in same turn left falls (left s) (left (turn s).after) (turn s).after (omega (arith, fell)) (omega arith))

-- a settling goes on behind a turn that did something, and ends behind one that didn't
pub goes_on : {S : Type 0} (turn : S → Turn S) (left : S → ℕ) → Falls turn left → (s : S) → (turn s).did ≡ true → settle turn left s ≡ settle turn left (turn s).after
goes_on turn left falls s e = unfolds turn left falls s ∙ ap (λ b. if b then settle turn left (turn s).after else (turn s).after) e

pub ends : {S : Type 0} (turn : S → Turn S) (left : S → ℕ) → Falls turn left → (s : S) → (turn s).did ≡ false → settle turn left s ≡ (turn s).after
ends turn left falls s e = unfolds turn left falls s ∙ ap (λ b. if b then settle turn left (turn s).after else (turn s).after) e

by_test : {S : Type 0} (turn : S → Turn S) (P : S → Type 0) (k : ℕ) (s : S) (b : Bool) → (turn s).did ≡ b → P (turn s).after → P (turns turn k (turn s).after) → P (if (turn s).did then turns turn k (turn s).after else (turn s).after)
by_test turn P k s true e p q = rw e q
by_test turn P k s false e p q = rw e p

kept_by : {S : Type 0} (turn : S → Turn S) (P : S → Type 0) → Keeps turn P → (k : ℕ) (s : S) → P s → P (turns turn k s)
kept_by turn P keeps zero s p = keeps s p
kept_by turn P keeps (suc k) s p = by_test turn P k s (turn s).did refl (keeps s p) (kept_by turn P keeps k (turn s).after (keeps s p))

pub kept : {S : Type 0} (turn : S → Turn S) (left : S → ℕ) (P : S → Type 0) → Keeps turn P → (s : S) → P s → P (settle turn left s)
unfolding settle
kept turn left P keeps s p = kept_by turn P keeps (left s) s p

-- ---- where they settle

settled_by : {S : Type 0} (turn : S → Turn S) (left : S → ℕ) → Falls turn left → (k : ℕ) (s : S) (b : Bool) → left s ≤ k → (turn s).did ≡ b → Settled turn s
settled_by turn left falls k s false p e = record { state = (turn s).after; settles = Rests s e }
settled_by turn left falls zero s true p e =
    let fell : left (turn s).after < left s = falls s e in
    absurd (omega (arith, p, fell))
settled_by turn left falls (suc k) s true p e =
    let fell : left (turn s).after < left s = falls s e in
    let on = settled_by turn left falls k (turn s).after (turn (turn s).after).did (omega (arith, p, fell)) refl in
    record { state = on.state; settles = Goes_on s on.state e on.settles }

pub settles_where : {S : Type 0} (turn : S → Turn S) (left : S → ℕ) → Falls turn left → Settles turn
settles_where turn left falls s = settled_by turn left falls (left s) s (turn s).did (omega arith) refl

after_none : {S : Type 0} {turn : S → Turn S} {s t : S} → SettlesTo turn s t → (turn s).did ≡ false → t ≡ (turn s).after
after_none (Rests s e) f = refl
after_none (Goes_on s t e more) f = absurd (cc (e, f))

after_some : {S : Type 0} {turn : S → Turn S} {s t : S} → SettlesTo turn s t → (turn s).did ≡ true → SettlesTo turn (turn s).after t
after_some (Rests s e) f = absurd (cc (e, f))
after_some (Goes_on s t e more) f = more

-- it is one state alone
pub once : {S : Type 0} {turn : S → Turn S} {u : S} {s t : S} → SettlesTo turn s t → SettlesTo turn s u → t ≡ u
once (Rests s e) other = sym (after_none other e)
once (Goes_on s t e more) other = once more (after_some other e)

pub settled_on : {S : Type 0} (turn : S → Turn S) (settles : Settles turn) (s : S) → (turn s).did ≡ true → (settles s).state ≡ (settles (turn s).after).state
settled_on turn settles s e = once (settles s).settles (Goes_on s (settles (turn s).after).state e (settles (turn s).after).settles)

pub settled_end : {S : Type 0} (turn : S → Turn S) (settles : Settles turn) (s : S) → (turn s).did ≡ false → (settles s).state ≡ (turn s).after
settled_end turn settles s e = after_none (settles s).settles e

pub rests_at : {S : Type 0} {turn : S → Turn S} {s t : S} → SettlesTo turn s t → IsAtRest turn t
rests_at (Rests s e) = record { last = s; nothing = e; is = refl }
rests_at (Goes_on s t e more) = rests_at more

pub settled_rests : {S : Type 0} (turn : S → Turn S) (settles : Settles turn) (s : S) → IsAtRest turn (settles s).state
settled_rests turn settles s = rests_at (settles s).settles

pub kept_to : {S : Type 0} {turn : S → Turn S} (P : S → Type 0) → Keeps turn P → {s t : S} → SettlesTo turn s t → P s → P t
kept_to P keeps (Rests s e) p = keeps s p
kept_to P keeps (Goes_on s t e more) p = kept_to P keeps more (keeps s p)

pub settled_kept : {S : Type 0} (turn : S → Turn S) (settles : Settles turn) (P : S → Type 0) → Keeps turn P → (s : S) → P s → P (settles s).state
settled_kept turn settles P keeps s p = kept_to P keeps (settles s).settles p

-- so many turns come there
to_by : {S : Type 0} (turn : S → Turn S) (left : S → ℕ) → Falls turn left → (k : ℕ) (s : S) (b : Bool) → left s ≤ k → (turn s).did ≡ b → SettlesTo turn s (turns turn k s)
to_by turn left falls zero s false p e = Rests s e
to_by turn left falls zero s true p e =
    let fell : left (turn s).after < left s = falls s e in
    absurd (omega (arith, p, fell))
to_by turn left falls (suc k) s false p e = subst (SettlesTo turn s) (ap (λ b. if b then turns turn k (turn s).after else (turn s).after) (sym e)) (Rests s e)
to_by turn left falls (suc k) s true p e =
    let fell : left (turn s).after < left s = falls s e in
    let on = to_by turn left falls k (turn s).after (turn (turn s).after).did (omega (arith, p, fell)) refl in
    subst (SettlesTo turn s) (ap (λ b. if b then turns turn k (turn s).after else (turn s).after) (sym e)) (Goes_on s (turns turn k (turn s).after) e on)

pub settle_to : {S : Type 0} (turn : S → Turn S) (left : S → ℕ) → Falls turn left → (s : S) → SettlesTo turn s (settle turn left s)
unfolding settle
settle_to turn left falls s = to_by turn left falls (left s) s (turn s).did (omega arith) refl
