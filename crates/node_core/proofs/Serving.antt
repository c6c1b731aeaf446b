-- Sessions that are served one after another, and those that are over.
use Rattle.std.proofs.Common.{◌≡◌, ◌<◌, ◌≤◌, ◌+◌, ◌∙◌, ℕ, zero, suc, refl, sym, ap, subst, arith, length, List, [], ◌∷◌, map}
use Rattle.std.specs.Prelude.{Bool, true, false, ◌||◌, filter, if◌then◌else◌}
use Rattle.std.proofs.lemmas.List.{length-map}
use Rattle.std.proofs.Math.Bool.{or-false}
use Rattle.node_core.specs.declared.station.Station.{Station}
use Rattle.node_model.specs.Serving.{serve, serve_each}
use Rattle.node_model.specs.Sessions.{Session, bare}
use Rattle.node_core.specs.Standing.{Holds}
use Rattle.node_model.specs.States.{State}
use Rattle.node_model.specs.Turns.{Turn, or_else}

-- some were served, and so many more from this place on come to the whole
pub record IsLeft (now : ℕ) (whole : Turn State) (nth k : ℕ) (served : Bool) (m : State) : Type 0 where
  pub after : whole.after ≡ (serve_each now nth k m).after
  pub did : whole.did ≡ (served || (serve_each now nth k m).did)

or_moves : (a b c : Bool) → (a || (b || c)) ≡ ((a || b) || c)
or_moves true b c = refl
or_moves false b c = refl

-- the session in this place is served
pub one_more : (now : ℕ) (whole : Turn State) (nth k all : ℕ) (served did : Bool) (m : State) → nth + k ≡ all → nth < all → did ≡ (serve now nth m).did → IsLeft now whole nth k served m
    → (j : ℕ) × ((nth + 1) + j ≡ all) × IsLeft now whole (nth + 1) j (served || did) (serve now nth m).after
one_more now whole nth zero all served did m e within same left = absurd (omega (arith, e, within))
one_more now whole nth (suc k) all served did m e within same left =
    let next : suc nth ≡ nth + 1 = omega arith in
    let u : Turn State = serve_each now (suc nth) k (serve now nth m).after in
    let moved : IsLeft now whole (suc nth) k (served || did) (serve now nth m).after = record {
      after = left.after;
      did = left.did ∙ (or_moves served (serve now nth m).did u.did ∙ ap (λ (b : Bool). (served || b) || u.did) (sym same));
    } in
    (k, omega (arith, e), subst (λ (j : ℕ). IsLeft now whole j k (served || did) (serve now nth m).after) next moved)

pub none_more : (now : ℕ) (whole : Turn State) (nth k all : ℕ) (served : Bool) (m : State) → nth + k ≡ all → all ≤ nth → IsLeft now whole nth k served m → (whole.after ≡ m) × (whole.did ≡ served)
none_more now whole nth zero all served m e over left = (left.after, left.did ∙ or-false served)
none_more now whole nth (suc k) all served m e over left = absurd (omega (arith, e, over))

pub same_number : (s : Station) (n : State) → Holds s n → length s.sessions.items ≡ length n.sessions
same_number s n h = ap (λ (ss : List Session). length ss) h.users.sessions ∙ length-map n.sessions bare

-- ---- sessions that are over

-- a station without sessions stands for a node without sessions
pub nobody_held : (s : Station) (n : State) → Holds s n → length s.sessions.items ≡ 0 → n.sessions ≡ []
nobody_held s n h e = by n.sessions (sym (same_number s n h) ∙ e)
  where
    by : (ss : List Session) → length ss ≡ 0 → ss ≡ []
    by [] e = refl
    by (s ∷ ss) e = absurd (omega (arith, e))

by_test : (test : Session → Bool) (s : Session) (ss : List Session) (b : Bool) → (if b then bare s ∷ map bare (filter test ss) else map bare (filter test ss)) ≡ map bare (if b then s ∷ filter test ss else filter test ss)
by_test test s ss true = refl
by_test test s ss false = refl

-- a test that sees nothing of the bridge keeps the same, whether that is kept or not
pub bare_filter : (test : Session → Bool) → ((s : Session) → test (bare s) ≡ test s) → (ss : List Session) → filter test (map bare ss) ≡ map bare (filter test ss)
bare_filter test same [] = refl
bare_filter test same (s ∷ ss) = rw (same s, bare_filter test same ss) (by_test test s ss (test s))

-- ---- the first of two that does something

pub or_first : (first next : State → Turn State) (n : State) → (first n).did ≡ true → or_else first next n ≡ first n
or_first first next n e = ap (λ (b : Bool). if b then first n else next (first n).after) e

pub or_next : (first next : State → Turn State) (n : State) → (first n).did ≡ false → or_else first next n ≡ next (first n).after
or_next first next n e = ap (λ (b : Bool). if b then first n else next (first n).after) e
