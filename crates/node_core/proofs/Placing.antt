-- Sessions by their place, as the code keeps them and as the state has them.
use Rattle.std.proofs.Common.{◌≡◌, ◌≤◌, ◌∙◌, ℕ, zero, suc, refl, sym, ap, subst, arith, length, take, List, [], ◌∷◌, map, slice_get, slice_set}
use Rattle.std.specs.Prelude.{Option, Some, None}
use Rattle.std.specs.Option.{option_map}
use Rattle.std.proofs.lemmas.Option.{slice_get-map}
use Rattle.node_core.specs.declared.station.Station.{Station}
use Rattle.node_model.specs.Sessions.{Session, bare}
use Rattle.node_core.specs.Going.{Changes, HoldsTold}
use Rattle.node_core.specs.Standing.{Holds}
use Rattle.node_model.specs.States.{State}
use Rattle.node_model.specs.Users.{at_session, change_if, session_at}
use Rattle.node_core.proofs.Holding.{with_sessions}

-- the code's session in a place is that of the state, but for its bridge
pub seen_at : (s : Station) (n : State) (nth : ℕ) → Holds s n → slice_get s.sessions.items nth ≡ option_map bare (session_at nth n)
seen_at s n nth h = ap (λ (ss : List Session). slice_get ss nth) h.users.sessions ∙ slice_get-map bare n.sessions nth

-- a step of a session that leaves its bridge as it is, and doesn't look at it
abbrev pub Passes : (Session → Session) → Type 0
Passes step = (s : Session) → step (bare s) ≡ bare (step s)

-- a value of a session that doesn't depend on its bridge
pub seen_by : {A : Type 0} (of : Option Session → A) → ((s : Session) → of (Some (bare s)) ≡ of (Some s)) → (o : Option Session) → of (option_map bare o) ≡ of o
seen_by of same None = refl
seen_by of same (Some s) = same s

pub set_map : (ss : List Session) (nth : ℕ) (x : Session) → slice_set (map bare ss) nth (bare x) ≡ map bare (slice_set ss nth x)
set_map [] nth x = refl
set_map (s ∷ ss) zero x = refl
set_map (s ∷ ss) (suc nth) x = rw (set_map ss nth x) refl

changed_by : (step : Session → Session) → Passes step → (ss : List Session) (nth : ℕ) (o : Option Session) → change_if (option_map bare o) nth step (map bare ss) ≡ map bare (change_if o nth step ss)
changed_by step passes ss nth None = refl
changed_by step passes ss nth (Some s) = ap (slice_set (map bare ss) nth) (passes s) ∙ set_map ss nth (step s)

pub changed_bare : (step : Session → Session) → Passes step → (ss : List Session) (nth : ℕ) → change_if (slice_get (map bare ss) nth) nth step (map bare ss) ≡ map bare (change_if (slice_get ss nth) nth step ss)
changed_bare step passes ss nth = ap (λ (o : Option Session). change_if o nth step (map bare ss)) (slice_get-map bare ss nth) ∙ changed_by step passes ss nth (slice_get ss nth)

-- the session in a place was changed
pub session_goes : (step : Session → Session) → Passes step → (s s2 : Station) (nth : ℕ) → s2.sessions.items ≡ change_if (slice_get s.sessions.items nth) nth step s.sessions.items
    → s2 ≡ record s { sessions = s2.sessions } → (n : State) → Holds s n → Holds s2 (at_session nth step n)
session_goes step passes s s2 nth e same n h =
    let to : s2.sessions.items ≡ map bare (change_if (slice_get n.sessions nth) nth step n.sessions) =
    e ∙ (ap (λ (ss : List Session). change_if (slice_get ss nth) nth step ss) h.users.sessions ∙ changed_bare step passes n.sessions nth) in
    with_sessions s s2 (change_if (slice_get n.sessions nth) nth step n.sessions) to same n h

-- two steps that differ in the bridge alone
same_by : (step other : Session → Session) → ((s : Session) → bare (step s) ≡ bare (other s)) → (ss : List Session) (nth : ℕ) (o : Option Session)
    → map bare (change_if o nth step ss) ≡ map bare (change_if o nth other ss)
same_by step other same ss nth None = refl
same_by step other same ss nth (Some s) = sym (set_map ss nth (step s)) ∙ (ap (slice_set (map bare ss) nth) (same s) ∙ set_map ss nth (other s))

pub logged : (step other : Session → Session) → ((s : Session) → bare (step s) ≡ bare (other s)) → (s : Station) (n : State) (nth : ℕ) → Holds s (at_session nth step n) → Holds s (at_session nth other n)
logged step other same s n nth h =
    let all = same_by step other same n.sessions nth (slice_get n.sessions nth) in
    with_sessions s s (change_if (slice_get n.sessions nth) nth other n.sessions) (h.users.sessions ∙ all) refl (at_session nth step n) h

-- a place in which a session stands for itself
set_itself : (ss : List Session) (nth : ℕ) (x : Session) → slice_get ss nth ≡ Some x → slice_set ss nth x ≡ ss
set_itself [] nth x e = refl
set_itself (s ∷ ss) zero x e = let same : s ≡ x = cc e in rw same refl
set_itself (s ∷ ss) (suc nth) x e = rw (set_itself ss nth x e) refl

changed_same : (ss : List Session) (nth : ℕ) (o : Option Session) → slice_get ss nth ≡ o → change_if o nth (λ s. s) ss ≡ ss
changed_same ss nth None e = refl
changed_same ss nth (Some s) e = set_itself ss nth s e

-- only the bridge is changed
pub noted : (step : Session → Session) → ((s : Session) → bare (step s) ≡ bare s) → (s : Station) (n : State) (nth : ℕ) → Holds s n → Holds s (at_session nth step n)
noted step same s n nth h =
    logged (λ (x : Session). x) step (λ x. sym (same x)) s n nth
    (subst (λ (ss : List Session). Holds s (record n { sessions = ss })) (sym (changed_same n.sessions nth (slice_get n.sessions nth) refl)) h)

-- the session in a place is changed, and nothing of the circuits is untold
pub session_told : (step : Session → Session) → Passes step → (s s2 : Station) (nth : ℕ) → Changes nth step s s2 → (n : State) → HoldsTold s n → HoldsTold s2 (at_session nth step n)
session_told step passes s s2 nth c n t = (session_goes step passes s s2 nth c.sessions c.same n t.0, t.1)

take_none : (k : ℕ) → (let none : List ℕ = [] in take k none ≡ none)
take_none zero = refl
take_none (suc k) = refl

pub few_taken : (xs : List ℕ) (k : ℕ) → length xs ≤ k → take k xs ≡ xs
few_taken [] k e = take_none k
few_taken (x ∷ xs) zero e = absurd (omega (arith, e))
few_taken (x ∷ xs) (suc k) e = rw (few_taken xs k (omega (arith, e))) refl
