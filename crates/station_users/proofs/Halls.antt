-- Steps of the users of a station: of one session, and one after another.
use Rattle.std.proofs.Common.{◌≡◌, ◌<◌, ◌≤◌, ◌∙◌, ℕ, zero, suc, refl, sym, ap, subst, List, [], ◌∷◌, length, arith, get_or, set}
use Rattle.std.specs.Prelude.{slice_get, Option, Some, None}
use Rattle.station_members.specs.Standing.{MembersGo}
use Rattle.station_members.specs.States.{State}
use Rattle.station_places.specs.Sides as places
use Rattle.station_places.specs.Sides.{SidesGo, SidesState}
use Rattle.station_sessions.specs.Sessions.{Session}
use Rattle.station_users.specs.declared.hall.Hall.{Hall}
use Rattle.station_users.specs.Standing.{AtGoes, HallGoes, HallStands, moment_in}
use Rattle.station_users.specs.States.{UsersState, at_found, at_given, at_members, at_nth, at_sides}
use Rattle.station_users.specs.Steps.{At}

pub place_get : {A : Type 0} (xs : List A) (nth : ℕ) (before : A) → nth < length xs → before ≡ get_or xs nth before → slice_get xs nth ≡ Some before
place_get [] nth before h here = absurd (omega (arith, h))
place_get (x ∷ xs) zero before h here = ap Some (sym here)
place_get (x ∷ xs) (suc nth) before h here = place_get xs nth before (omega (arith, h)) here

pub get_past : {A : Type 0} (xs : List A) (nth : ℕ) → length xs ≤ nth → slice_get xs nth ≡ None
get_past [] nth h = refl
get_past (x ∷ xs) zero h = absurd (omega (arith, h))
get_past (x ∷ xs) (suc nth) h = get_past xs nth (omega (arith, h))

-- the session in a place
pub nth_is : (old : Hall) (nth : ℕ) (before : Session) (u : UsersState) → nth < length old.sessions.items
    → before ≡ get_or old.sessions.items nth before → HallStands old u → slice_get u.sessions nth ≡ Some before
nth_is old nth before u h here stand = sym (ap (λ xs. slice_get xs nth) stand.sessions) ∙ place_get old.sessions.items nth before h here

pub nth_none : (old : Hall) (nth : ℕ) (u : UsersState) → length old.sessions.items ≤ nth → HallStands old u → slice_get u.sessions nth ≡ None
nth_none old nth u h stand = sym (ap (λ xs. slice_get xs nth) stand.sessions) ∙ get_past old.sessions.items nth h

-- what stays as it was where a session makes a step
pub record Keeps (old new : Hall) : Type 0 where
  pub about : new.about ≡ old.about
  pub stopping : new.is_stopping ≡ old.is_stopping
  pub started : new.started ≡ old.started

pub nth_goes : (step : At → At) (old new : Hall) (nth : ℕ) (before after : Session) → nth < length old.sessions.items
    → before ≡ get_or old.sessions.items nth before → AtGoes step old.sides before new.sides after
    → new.sessions.items ≡ set old.sessions.items nth after → Keeps old new → HallGoes (at_nth nth step) old new
nth_goes step old new nth before after h here goes sessions keeps = λ u stand.
    let one = goes u.sides stand.sides in
    subst (λ o. HallStands new (at_given o nth step u)) (sym (nth_is old nth before u h here stand)) (record {
      about = keeps.about ∙ stand.about;
      sides = one.sides;
      sessions = sessions ∙ (ap (λ xs. set xs nth after) stand.sessions ∙ ap (λ x. set u.sessions nth x) one.session);
      stopping = keeps.stopping ∙ stand.stopping;
      started = ap moment_in keeps.started ∙ stand.started;
    })

pub nth_past : (step : At → At) (old : Hall) (nth : ℕ) → length old.sessions.items ≤ nth → HallGoes (at_nth nth step) old old
nth_past step old nth h = λ u stand. subst (λ o. HallStands old (at_given o nth step u)) (sym (nth_none old nth u h stand)) stand

-- something is done at the sides alone
pub sides_go : (step : SidesState → SidesState) (old new : Hall) → SidesGo step old.sides new.sides → new.sessions.items ≡ old.sessions.items
    → Keeps old new → HallGoes (at_sides step) old new
sides_go step old new goes sessions keeps = λ u stand. record {
  about = keeps.about ∙ stand.about;
  sides = goes u.sides stand.sides;
  sessions = sessions ∙ stand.sessions;
  stopping = keeps.stopping ∙ stand.stopping;
  started = ap moment_in keeps.started ∙ stand.started;
}

-- something is done at the members alone
pub members_go : (step : State → State) (old new : Hall) → MembersGo step old.sides.members new.sides.members
    → new.sides.outs ≡ old.sides.outs → new.sessions.items ≡ old.sessions.items → Keeps old new → HallGoes (at_members step) old new
members_go step old new goes outs sessions keeps =
    sides_go (places.at_members step) old new (λ s stand. record { members = goes s.members stand.members; outs = outs ∙ stand.outs })
    sessions keeps

pub hall_then : (f g : UsersState → UsersState) (a b c : Hall) → HallGoes f a b → HallGoes g b c → HallGoes (λ u. g (f u)) a c
hall_then f g a b c first second = λ u stand. second (f u) (first u stand)

pub hall_by_look : {B : Type 0} (look : UsersState → B) (F : B → UsersState → UsersState) (r : B) (old new : Hall)
    → ((u : UsersState) → HallStands old u → r ≡ look u) → HallGoes (F r) old new → HallGoes (λ u. F (look u) u) old new
hall_by_look look F r old new says goes = λ u stand. subst (λ b. HallStands new (F b u)) (says u stand) (goes u stand)

-- the session that was looked for makes a step
pub found_goes : (find : UsersState → Option ℕ) (step : At → At) (nth : ℕ) (old new : Hall)
    → ((u : UsersState) → HallStands old u → Some nth ≡ find u) → HallGoes (at_nth nth step) old new → HallGoes (λ u. at_found (find u) step u) old new
found_goes find step nth old new says goes = hall_by_look find (λ found u. at_found found step u) (Some nth) old new says goes

-- there is none
pub not_found : (find : UsersState → Option ℕ) (step : At → At) (old : Hall)
    → ((u : UsersState) → HallStands old u → None ≡ find u) → HallGoes (λ u. at_found (find u) step u) old old
not_found find step old says = hall_by_look find (λ found u. at_found found step u) None old old says (λ u stand. stand)
