-- A session where a far side stands has its turn as the law has it.
use Rattle.std.proofs.Common.{◌≡◌, ◌∙◌, ℕ, zero, suc, refl, sym, ap, subst, List, [], ◌∷◌, set, Bool}
use Rattle.std.specs.Prelude.{slice_get, Option, Some, None}
use Rattle.radio_base.specs.declared.moment.Moment.{Moment}
use Rattle.station_places.specs.Sides.{SidesState}
use Rattle.station_sessions.specs.declared.far.Far.{Far}
use Rattle.station_sessions.specs.declared.far.Stage.{Stage}
use Rattle.station_sessions.specs.declared.far.Stage.TheVariants.{With}
use Rattle.station_sessions.specs.declared.thing.Thing.{Thing}
use Rattle.station_sessions.specs.declared.thing.Thing.TheVariants as thing
use Rattle.station_sessions.specs.Sessions.{Session, has_some}
use Rattle.station_users.specs.Laws.{IsBridged, does, turned}
use Rattle.station_users.specs.Serving.{do_next, next_at, next_by, next_of, prepared, serve_nth}
use Rattle.station_users.specs.Sights.{sight_of}
use Rattle.station_users.specs.States.{UsersState, at_given, at_nth, with_at}
use Rattle.station_users.specs.Steps.{At, session_at}
use Rattle.station_users.specs.Things.{do_thing}
use Rattle.station_users.specs.Trying.{prepare, prepare_where, what_is_tried}
use Rattle.station_users.proofs.Bridging.{Guard, is_standing, next_guard, standing}

-- ---- the session stays in its place

set_same : (xs : List Session) (nth : ℕ) (x : Session) → slice_get xs nth ≡ Some x → set xs nth x ≡ xs
set_same [] nth x here = absurd (cc here)
set_same (y ∷ ys) zero x here = let same : x ≡ y = cc here in ap (λ (z : Session). z ∷ ys) same
set_same (y ∷ ys) (suc nth) x here = ap (λ (zs : List Session). y ∷ zs) (set_same ys nth x here)

with_same : (nth : ℕ) (u : UsersState) (x : Session) → slice_get u.sessions nth ≡ Some x → with_at nth (session_at u.sides x) u ≡ u
with_same nth u x here = ap (λ (xs : List Session). record u { sessions = xs }) (set_same u.sessions nth x here)

-- ---- before its thing nothing is done, since nothing is tried

prepared_is : (now : Moment) (s : SidesState) (x : Session) (far : Far) → x.stage ≡ With far → prepare now (session_at s x) ≡ session_at s x
unfolding prepare
prepared_is now s x far stands = ap (λ (st : Stage). prepare_where (what_is_tried st) now (session_at s x)) stands

kept : (nth : ℕ) (now : Moment) (u : UsersState) (x : Session) (far : Far) → slice_get u.sessions nth ≡ Some x → x.stage ≡ With far
    → prepared nth now u ≡ u
kept nth now u x far here stands =
    ap (λ (o : Option Session). at_given o nth (prepare now) u) here
    ∙ (ap (λ (a : At). with_at nth a u) (prepared_is now u.sides x far stands) ∙ with_same nth u x here)

-- ---- its thing, which isn't that of a line

thing_at : (t : Thing) (nth : ℕ) (now : Moment) (u : UsersState) (x : Session) → slice_get u.sessions nth ≡ Some x
    → at_nth nth (do_thing t now) u ≡ with_at nth (do_thing t now (session_at u.sides x)) u
thing_at t nth now u x here = ap (λ (o : Option Session). at_given o nth (do_thing t now) u) here

next_done : (t : Option Thing) (e w f : Bool) → Guard t e w f → (nth : ℕ) (now : Moment) (u : UsersState) (x : Session)
    → slice_get u.sessions nth ≡ Some x → do_next t nth now u ≡ with_at nth (does t now (session_at u.sides x)) u
next_done None e w f g nth now u x here = sym (with_same nth u x here)
next_done (Some thing.GoOn) e w f g nth now u x here = thing_at thing.GoOn nth now u x here
next_done (Some thing.GoOnFar) e w f g nth now u x here = thing_at thing.GoOnFar nth now u x here
next_done (Some thing.GiveReply) e w f g nth now u x here = absurd g
next_done (Some thing.LetGo) e w f g nth now u x here = absurd g
next_done (Some thing.GiveText) e w f g nth now u x here = thing_at thing.GiveText nth now u x here
next_done (Some thing.DropText) e w f g nth now u x here = absurd g
next_done (Some thing.DoLine) e w f g nth now u x here = absurd g
next_done (Some thing.PassOn) e w f g nth now u x here = thing_at thing.PassOn nth now u x here
next_done (Some thing.Stop) e w f g nth now u x here = absurd g
next_done (Some thing.CloseFar) e w f g nth now u x here = thing_at thing.CloseFar nth now u x here

guarded : (s : SidesState) (x : Session) (far : Far) → IsBridged (session_at s x) far
    → Guard (next_at (session_at s x)) (sight_of (session_at s x)).user_ended (has_some x.unsent) (has_some far.unsent)
guarded s x far br =
    subst (λ (y : Session). Guard (next_at (session_at s y)) (sight_of (session_at s y)).user_ended (has_some y.unsent) (has_some far.unsent))
    (sym (is_standing x far br.stands br.here br.told)) (next_guard x far (sight_of (session_at s (standing x far))))

pub served : (nth : ℕ) (now : Moment) (u : UsersState) (x : Session) (far : Far) → slice_get u.sessions nth ≡ Some x
    → IsBridged (session_at u.sides x) far → serve_nth now nth u ≡ at_nth nth (turned now) u
unfolding serve_nth
served nth now u x far here br =
    let a = session_at u.sides x in
    let done = next_done (next_at a) (sight_of a).user_ended (has_some x.unsent) (has_some far.unsent) (guarded u.sides x far br)
    nth now u x here in
    ap (λ (v : UsersState). do_next (next_of nth v) nth now v) (kept nth now u x far here br.stands)
    ∙ (ap (λ (o : Option Session). do_next (next_by o u) nth now u) here
    ∙ (done
    ∙ (sym (ap (λ (b : At). with_at nth (does (next_at b) now b) u) (prepared_is now u.sides x far br.stands))
    ∙ sym (ap (λ (o : Option Session). at_given o nth (turned now) u) here))))
