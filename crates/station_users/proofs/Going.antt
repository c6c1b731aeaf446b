-- Steps of a session, one after another.
use Rattle.std.proofs.Common.{◌≡◌, ◌∙◌, refl, ap, subst}
use Rattle.station_places.specs.Sides.{SidesGo, SidesState, SidesStand}
use Rattle.station_places.specs.declared.sides.Sides.{Sides}
use Rattle.station_sessions.specs.Sessions.{Session}
use Rattle.station_users.specs.Standing.{AtGoes, AtStands}
use Rattle.station_users.specs.Steps.{At, at_session, at_sides, session_at}

-- a step that goes by what was seen
pub by_look : {B : Type 0} (look : At → B) (F : B → At → At) (r : B) (k0 : Sides) (x0 : Session) (k1 : Sides) (x1 : Session)
    → ((s : SidesState) → SidesStand k0 s → r ≡ look (session_at s x0)) → AtGoes (F r) k0 x0 k1 x1 → AtGoes (λ a. F (look a) a) k0 x0 k1 x1
by_look look F r k0 x0 k1 x1 says goes = λ s stand. subst (λ b. AtStands k1 x1 (F b (session_at s x0))) (says s stand) (goes s stand)

pub then : (f g : At → At) (k0 : Sides) (x0 : Session) (k1 : Sides) (x1 : Session) (k2 : Sides) (x2 : Session)
    → AtGoes f k0 x0 k1 x1 → AtGoes g k1 x1 k2 x2 → AtGoes (λ a. g (f a)) k0 x0 k2 x2
then f g k0 x0 k1 x1 k2 x2 first second = λ s stand.
    let one = first s stand in
    subst (λ x. AtStands k2 x2 (g (session_at (f (session_at s x0)).sides x))) one.session (second _ one.sides)

pub changes : (g : Session → Session) (k : Sides) (x0 x1 : Session) → x1 ≡ g x0 → AtGoes (at_session g) k x0 k x1
changes g k x0 x1 is = λ s stand. record { sides = stand; session = is }

pub acts : (f : SidesState → SidesState) (k0 k1 : Sides) (x : Session) → SidesGo f k0 k1 → AtGoes (at_sides f) k0 x k1 x
acts f k0 k1 x goes = λ s stand. record { sides = goes s stand; session = refl }

pub then_session : (f : At → At) (g : Session → Session) (k0 : Sides) (x0 : Session) (k1 : Sides) (x1 x2 : Session)
    → AtGoes f k0 x0 k1 x1 → x2 ≡ g x1 → AtGoes (λ a. at_session g (f a)) k0 x0 k1 x2
then_session f g k0 x0 k1 x1 x2 first is = λ s stand.
    let one = first s stand in
    record { sides = one.sides; session = is ∙ ap g one.session }

pub then_sides : (f : At → At) (g : SidesState → SidesState) (k0 : Sides) (x0 : Session) (k1 k2 : Sides) (x1 : Session)
    → AtGoes f k0 x0 k1 x1 → SidesGo g k1 k2 → AtGoes (λ a. at_sides g (f a)) k0 x0 k2 x1
then_sides f g k0 x0 k1 k2 x1 first goes = λ s stand.
    let one = first s stand in
    record { sides = goes _ one.sides; session = one.session }
