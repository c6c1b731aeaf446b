-- What a move of a session does to what waits, where a far side stands.
use Rattle.std.proofs.Common.{◌≡◌, ◌∙◌, ℕ, refl, sym, ap, subst, List, [], ◌∷◌, ◌++◌, take, drop, Bool, true, false, cond, append_assoc}
use Rattle.std.proofs.lemmas.List.{append-nil, take-append-drop}
use Rattle.std.specs.Prelude.{◌&&◌, ◌||◌, not, Option, Some, None}
use Rattle.radio_base.specs.declared.moment.Moment.{Moment}
use Rattle.station_places.specs.Giving as giving
use Rattle.station_places.specs.Sides.{SidesState}
use Rattle.station_places.specs.Taking as taking
use Rattle.station_sessions.specs.declared.far.Far.{Far}
use Rattle.station_sessions.specs.declared.far.Stage.{Stage}
use Rattle.station_sessions.specs.declared.far.Stage.TheVariants.{With}
use Rattle.station_sessions.specs.declared.place.Place.{Place}
use Rattle.station_sessions.specs.declared.presence.Presence.TheVariants.{Here}
use Rattle.station_sessions.specs.declared.sight.Sight.{Sight}
use Rattle.station_sessions.specs.declared.thing.Thing.{Thing}
use Rattle.station_sessions.specs.declared.thing.Thing.TheVariants as thing
use Rattle.station_sessions.specs.Noting as noting
use Rattle.station_sessions.specs.Sessions as sessions
use Rattle.station_sessions.specs.Sessions.{Session, far_of, has_some}
use Rattle.station_sessions.specs.Things.{given_where, has_text, next_thing, or_else}
use Rattle.station_users.specs.Consoles.{takes}
use Rattle.station_users.specs.Laws.{Hears, IsBridged, IsHeard, Move, Turns, Meanwhile, Types, Notes, Ends, after, after_all, all_of, came_by, came_needed, does, far_came, for_far, from_far, from_user, in_all, that_go, to_far, to_user, went_to_far, went_to_user, text_given, text_or_none, unsent_of, ReachesFar, ReachesUser}
use Rattle.station_users.specs.Serving.{next_at}
use Rattle.station_users.specs.Sights.{sight_of}
use Rattle.station_users.specs.Steps.{At, at_session, at_sides, session_at}
use Rattle.station_users.specs.Telling.{give_user, is_deaf, say}
use Rattle.station_users.specs.Texts.{begin_if, need_text, take_text}
use Rattle.station_users.specs.Things.{close_far, give_text, go_on, go_on_far, pass_on, pass_rest, say_if}
use Rattle.station_users.specs.Trying.{prepare}

-- ---- what is known of the thing that comes next

abbrev pub GiveGuard : Bool → Bool → Type 0
GiveGuard true waits = Unit {0}
GiveGuard false waits = waits ≡ false

-- by whether the user's side has ended, and something waits for it and for the far side
abbrev pub Guard : Option Thing → Bool → Bool → Bool → Type 0
Guard None ended waits far_waits = Unit {0}
Guard (Some thing.GoOn) ended waits far_waits = Unit {0}
Guard (Some thing.GoOnFar) ended waits far_waits = Unit {0}
Guard (Some thing.GiveReply) ended waits far_waits = ⊥
Guard (Some thing.LetGo) ended waits far_waits = ⊥
Guard (Some thing.GiveText) ended waits far_waits = GiveGuard ended waits
Guard (Some thing.DropText) ended waits far_waits = ⊥
Guard (Some thing.DoLine) ended waits far_waits = ⊥
Guard (Some thing.PassOn) ended waits far_waits = far_waits ≡ false
Guard (Some thing.Stop) ended waits far_waits = ⊥
Guard (Some thing.CloseFar) ended waits far_waits = Unit {0}

or_guard : (one other : Option Thing) (e w f : Bool) → Guard one e w f → Guard other e w f → Guard (or_else one other) e w f
or_guard None other e w f g h = h
or_guard (Some t) other e w f g h = g

if_guard : (b : Bool) (one other : Option Thing) (e w f : Bool) → Guard one e w f → Guard other e w f → Guard (cond b one other) e w f
if_guard true one other e w f g h = g
if_guard false one other e w f g h = h

ended_guard : (e : Bool) (one other : Option Thing) (w f : Bool) → Guard one true w f → Guard other false w f → Guard (cond e one other) e w f
ended_guard true one other w f g h = g
ended_guard false one other w f g h = h

pass_guard : (closed f room text e w : Bool) → Guard (given_where ((not closed && (not f && room)) && text) (Some thing.PassOn)) e w f
pass_guard true f room text e w = tt
pass_guard false true room text e w = tt
pass_guard false false true true e w = refl
pass_guard false false true false e w = tt
pass_guard false false false text e w = tt

give_guard : (text w room f : Bool) → Guard (given_where (text && (not w && room)) (Some thing.GiveText)) false w f
give_guard false w room f = tt
give_guard true true room f = tt
give_guard true false true f = refl
give_guard true false false f = tt

close_guard : (closed waits text e w f : Bool) → Guard (given_where (not closed && (not waits && not text)) (Some thing.CloseFar)) e w f
close_guard true waits text e w f = tt
close_guard false true text e w f = tt
close_guard false false true e w f = tt
close_guard false false false e w f = tt

-- a session where a far side stands
abbrev pub standing : Session → Far → Session
standing x far = record x { stage = With far; presence = Here; replies = [] }

pub is_standing : (x : Session) (far : Far) → x.stage ≡ With far → x.presence ≡ Here → x.replies ≡ [] → x ≡ standing x far
is_standing x far s p r =
    ap (λ st. record x { stage = st }) s
    ∙ (ap (λ pr. record x { stage = With far; presence = pr }) p
    ∙ ap (λ rs. record x { stage = With far; presence = Here; replies = rs }) r)

pub next_guard : (x : Session) (far : Far) (sight : Sight)
    → Guard (next_thing (standing x far) sight) sight.user_ended (has_some x.unsent) (has_some far.unsent)
next_guard x far sight =
    let w = has_some x.unsent in
    let f = has_some far.unsent in
    let text = has_text (standing x far) sight in
    let pass : (e : Bool) → Guard (given_where ((not far.closed && (not f && sight.far_room)) && text) (Some thing.PassOn)) e w f
    = λ e. pass_guard far.closed f sight.far_room text e w in
    ended_guard sight.user_ended _ _ w f
    (if_guard (f && sight.far_goes_on) (Some thing.GoOnFar) _ true w f tt
    (if_guard sight.far_text (Some thing.GiveText) _ true w f tt
    (or_guard _ _ true w f (pass true) (close_guard far.closed f text true w f))))
    (if_guard (w && sight.user_goes_on) (Some thing.GoOn) _ false w f tt
    (if_guard (f && sight.far_goes_on) (Some thing.GoOnFar) _ false w f tt
    (or_guard _ _ false w f (give_guard sight.far_text w sight.user_room f) (pass false))))

-- ---- what stays

pub record Same (a b : At) : Type 0 where
  pub stage : b.session.stage ≡ a.session.stage
  pub presence : b.session.presence ≡ a.session.presence
  pub replies : b.session.replies ≡ a.session.replies

pub record SameTexts (a b : At) : Type 0 where
  pub session : Same a b
  pub rest : b.session.rest ≡ a.session.rest
  pub typed : b.session.typed ≡ a.session.typed

same : (a : At) → Same a a
same a = record { stage = refl; presence = refl; replies = refl }

same_texts : (a : At) → SameTexts a a
same_texts a = record { session = same a; rest = refl; typed = refl }

still_bridged : (a b : At) (far : Far) → Same a b → IsBridged a far → IsBridged b far
still_bridged a b far s br = record { stands = s.stage ∙ br.stands; here = s.presence ∙ br.here; told = s.replies ∙ br.told }

for_far_same : (a b : At) → SameTexts a b → for_far b.session ≡ for_far a.session
for_far_same a b s =
    ap (λ st. unsent_of (far_of st) ++ (b.session.rest ++ all_of b.session.typed)) s.session.stage
    ∙ (ap (λ r. unsent_of (far_of a.session.stage) ++ (r ++ all_of b.session.typed)) s.rest
    ∙ ap (λ ty. unsent_of (far_of a.session.stage) ++ (a.session.rest ++ all_of ty)) s.typed)

same_by : (d : Bool) (a b : At) → SameTexts a b → SameTexts a (cond d a b)
same_by true a b s = same_texts a
same_by false a b s = s

say_same : (text : Option (List ℕ)) (now : Moment) (a : At) → SameTexts a (say_if text now a)
unfolding say
say_same None now a = same_texts a
say_same (Some text) now a = same_by (is_deaf a) a (give_user text now a)
    (record { session = record { stage = refl; presence = refl; replies = refl }; rest = refl; typed = refl })

-- ---- the user's next text

abbrev pub left_of : At → List ℕ
left_of a = a.session.rest ++ all_of a.session.typed

pub record Needs (now : Moment) (a : At) : Type 0 where
  pub session : Same a (need_text now a)
  pub unsent : (need_text now a).session.unsent ≡ a.session.unsent
  pub texts : left_of (need_text now a) ≡ (left_of a ++ came_needed now a)

abbrev pub holding : Session → List ℕ → List (List ℕ) → Session
holding x rest typed = record x { rest = rest; typed = typed }

pub record Begins (text : Option (List ℕ)) (now : Moment) (a : At) : Type 0 where
  pub session : Same a (begin_if text now a)
  pub unsent : (begin_if text now a).session.unsent ≡ a.session.unsent
  pub texts : left_of (begin_if text now a) ≡ text_or_none text

begins : (text : Option (List ℕ)) (now : Moment) (s : SidesState) (x : Session) → Begins text now (session_at s (holding x [] []))
begins None now s x = record { session = same _; unsent = refl; texts = refl }
begins (Some text) now s x = record { session = record { stage = refl; presence = refl; replies = refl }; unsent = refl; texts = append-nil text }

needs : (now : Moment) (s : SidesState) (x : Session) (rest : List ℕ) (typed : List (List ℕ))
    → Needs now (session_at s (holding x rest typed))
unfolding need_text take_text
needs now s x (b ∷ bs) typed = record { session = same _; unsent = refl; texts = sym (append-nil _) }
needs now s x [] (t ∷ ts) =
    record { session = record { stage = refl; presence = refl; replies = refl }; unsent = refl; texts = sym (append-nil (t ++ all_of ts)) }
needs now s x [] [] =
    let one = begins (taking.taken x.place now s) now (taking.take_from x.place now s) x in
    record {
      session = record { stage = one.session.stage; presence = one.session.presence; replies = one.session.replies };
      unsent = one.unsent;
      texts = one.texts;
    }

none_waits : (u : List ℕ) → has_some u ≡ false → u ≡ []
none_waits [] e = refl
none_waits (b ∷ bs) e = absurd (cc e)

-- ---- a turn: what goes to the far side

pub record Turned (t : Option Thing) (now : Moment) (a : At) (far : Far) : Type 0 where
  pub far_then : Far
  pub bridged : IsBridged (does t now a) far_then
  pub reaches : (went_to_far (Some far) t now a ++ for_far (does t now a).session) ≡ (for_far a.session ++ came_by t now a)

-- what goes and what doesn't is all
all_goes : (n : ℕ) (text more : List ℕ) → (take n text ++ (drop n text ++ more)) ≡ (text ++ more)
all_goes n text more = sym (append_assoc (take n text) (drop n text) more) ∙ ap (λ l. l ++ more) (take-append-drop n text)

pass_far : (now : Moment) (b : At) (x : Session) (far : Far) → b.session ≡ standing x far
    → (far_then : Far) × IsBridged (pass_rest now b) far_then
    × ((that_go far.place b.session.rest now b.sides ++ for_far (pass_rest now b).session) ≡ left_of b)
unfolding pass_rest
pass_far now b x far is =
    subst (λ y. (far_then : Far) × IsBridged (pass_rest now (session_at b.sides y)) far_then
    × ((that_go far.place y.rest now b.sides ++ for_far (pass_rest now (session_at b.sides y)).session) ≡ left_of (session_at b.sides y)))
    (sym is)
    (let n = giving.given far.place x.rest now b.sides in (
      record far { unsent = drop n x.rest },
      record { stands = refl; here = refl; told = refl },
      all_goes n x.rest (all_of x.typed),
    ))

turn_pass : (now : Moment) (s : SidesState) (x : Session) (far : Far) → has_some far.unsent ≡ false
    → Turned (Some thing.PassOn) now (session_at s (standing x far)) far
unfolding pass_on
turn_pass now s x far none =
    let a = session_at s (standing x far) in
    let needed = needs now s (standing x far) x.rest x.typed in
    let b = need_text now a in
    let is = is_standing b.session far needed.session.stage needed.session.presence needed.session.replies in
    let passed = pass_far now b b.session far is in
    record {
      far_then = passed.0;
      bridged = passed.1;
      reaches = passed.2 ∙ (needed.texts ∙ ap (λ u. (u ++ left_of a) ++ came_needed now a) (sym (none_waits far.unsent none)));
    }

turn_far : (t : Option Thing) (now : Moment) (s : SidesState) (x : Session) (far : Far) (e w : Bool)
    → Guard t e w (has_some far.unsent) → Turned t now (session_at s (standing x far)) far
unfolding go_on go_on_far close_far give_text
turn_far None now s x far e w g =
    record { far_then = far; bridged = record { stands = refl; here = refl; told = refl }; reaches = sym (append-nil _) }
turn_far (Some thing.GoOn) now s x far e w g =
    record { far_then = far; bridged = record { stands = refl; here = refl; told = refl }; reaches = sym (append-nil _) }
turn_far (Some thing.GoOnFar) now s x far e w g =
    let n = giving.given far.place far.unsent now s in
    record {
      far_then = record far { unsent = drop n far.unsent };
      bridged = record { stands = refl; here = refl; told = refl };
      reaches = all_goes n far.unsent (x.rest ++ all_of x.typed) ∙ sym (append-nil _);
    }
turn_far (Some thing.GiveReply) now s x far e w g = absurd g
turn_far (Some thing.LetGo) now s x far e w g = absurd g
turn_far (Some thing.GiveText) now s x far e w g =
    let a = session_at (taking.take_from far.place now s) (standing x far) in
    let same = say_same (taking.taken far.place now s) now a in
    record {
      far_then = far;
      bridged = still_bridged a _ far same.session (record { stands = refl; here = refl; told = refl });
      reaches = for_far_same a _ same ∙ sym (append-nil _);
    }
turn_far (Some thing.DropText) now s x far e w g = absurd g
turn_far (Some thing.DoLine) now s x far e w g = absurd g
turn_far (Some thing.PassOn) now s x far e w g = turn_pass now s x far g
turn_far (Some thing.Stop) now s x far e w g = absurd g
turn_far (Some thing.CloseFar) now s x far e w g =
    record {
      far_then = record far { closed = true };
      bridged = record { stands = refl; here = refl; told = refl };
      reaches = sym (append-nil _);
    }

-- ---- a move: what goes to the far side

pub record Moved (m : Move) (a : At) : Type 0 where
  pub far_then : Far
  pub bridged : IsBridged (after m a) far_then
  pub reaches : (to_far m a ++ for_far (after m a).session) ≡ (for_far a.session ++ from_user m a)

all_of_last : (texts : List (List ℕ)) (text : List ℕ) → all_of (texts ++ text ∷ []) ≡ (all_of texts ++ text)
all_of_last [] text = append-nil text
all_of_last (t ∷ ts) text = ap (λ l. t ++ l) (all_of_last ts text) ∙ sym (append_assoc t (all_of ts) text)

types_by : (d : Bool) (text : List ℕ) (s : SidesState) (x : Session) (far : Far)
    → (IsBridged (session_at s (cond d (sessions.type_text text (standing x far)) (standing x far))) far)
    × (for_far (cond d (sessions.type_text text (standing x far)) (standing x far)) ≡ (for_far (standing x far) ++ cond d text []))
types_by true text s x far = (
  record { stands = refl; here = refl; told = refl },
  ap (λ l. far.unsent ++ (x.rest ++ l)) (all_of_last x.typed text)
      ∙ (ap (λ l. far.unsent ++ l) (sym (append_assoc x.rest (all_of x.typed) text))
      ∙ sym (append_assoc far.unsent (x.rest ++ all_of x.typed) text)),
)
types_by false text s x far = (record { stands = refl; here = refl; told = refl }, sym (append-nil _))

moves : (m : Move) (s : SidesState) (x : Session) (far : Far) → Moved m (session_at s (standing x far))
unfolding prepare
moves (Turns now) s x far =
    let a = session_at s (standing x far) in
    let one = turn_far (next_at a) now s x far (sight_of a).user_ended (has_some x.unsent) (next_guard x far (sight_of a)) in
    record { far_then = one.far_then; bridged = one.bridged; reaches = one.reaches }
moves (Meanwhile then) s x far =
    record { far_then = far; bridged = record { stands = refl; here = refl; told = refl }; reaches = sym (append-nil _) }
moves (Types text) s x far =
    let one = types_by (takes text (standing x far)) text s x far in
    record { far_then = far; bridged = one.0; reaches = one.1 }
moves (Notes text) s x far =
    record {
      far_then = record far { waited = text || has_some far.unsent };
      bridged = record { stands = refl; here = refl; told = refl };
      reaches = sym (append-nil _);
    }
moves (Ends failed) s x far =
    record {
      far_then = record far { failed = far.failed || failed };
      bridged = record { stands = refl; here = refl; told = refl };
      reaches = sym (append-nil _);
    }

moved : (m : Move) (a : At) (far : Far) → IsBridged a far → Moved m a
moved m a far br =
    subst (λ y. Moved m (session_at a.sides y)) (sym (is_standing a.session far br.stands br.here br.told)) (moves m a.sides a.session far)

pub reaches_far : (moves : List Move) (a : At) (far : Far) → IsBridged a far → ReachesFar moves a
reaches_far [] a far br = sym (append-nil _)
reaches_far (m ∷ more) a far br =
    let one = moved m a far br in
    let rest = reaches_far more (after m a) one.far_then one.bridged in
    append_assoc (to_far m a) (in_all to_far more (after m a)) _
    ∙ (ap (λ l. to_far m a ++ l) rest
    ∙ (sym (append_assoc (to_far m a) (for_far (after m a).session) _)
    ∙ (ap (λ l. l ++ in_all from_user more (after m a)) one.reaches
    ∙ append_assoc (for_far a.session) (from_user m a) _)))

-- ---- what goes to the user

say_user : (text : Option (List ℕ)) (place : Place) (now : Moment) (a : At) → is_deaf (at_sides (taking.take_from place now) a) ≡ false
    → a.session.unsent ≡ []
    → (text_given text place now a ++ (say_if text now (at_sides (taking.take_from place now) a)).session.unsent)
    ≡ (a.session.unsent ++ text_or_none text)
unfolding say
say_user None place now a heard none = sym (append-nil _)
say_user (Some text) place now a heard none =
    let b = at_sides (taking.take_from place now) a in
    let n = giving.given a.session.place text now b.sides in
    let said : At = record { sides = giving.give a.session.place text now b.sides; session = sessions.wait_with (drop n text) a.session } in
    subst (λ d. (take n text ++ (cond d b said).session.unsent) ≡ (a.session.unsent ++ text)) (sym heard)
    (take-append-drop n text ∙ ap (λ u. u ++ text) (sym none))

pass_unsent : (now : Moment) (b : At) (x : Session) (far : Far) → b.session ≡ standing x far → (pass_rest now b).session.unsent ≡ x.unsent
unfolding pass_rest
pass_unsent now b x far is = subst (λ y. (pass_rest now (session_at b.sides y)).session.unsent ≡ x.unsent) (sym is) refl

turn_pass_unsent : (now : Moment) (s : SidesState) (x : Session) (far : Far)
    → (pass_rest now (need_text now (session_at s (standing x far)))).session.unsent ≡ x.unsent
turn_pass_unsent now s x far =
    let needed = needs now s (standing x far) x.rest x.typed in
    let b = need_text now (session_at s (standing x far)) in
    let is = is_standing b.session far needed.session.stage needed.session.presence needed.session.replies in
    pass_unsent now b b.session far is ∙ needed.unsent

turn_user : (t : Option Thing) (now : Moment) (s : SidesState) (x : Session) (far : Far) (f : Bool)
    → Guard t false (has_some x.unsent) f → is_deaf (session_at (taking.take_from far.place now s) (standing x far)) ≡ false
    → (went_to_user t now (session_at s (standing x far)) ++ (does t now (session_at s (standing x far))).session.unsent)
    ≡ (x.unsent ++ far_came t now (session_at s (standing x far)))
unfolding go_on go_on_far close_far give_text pass_on
turn_user None now s x far f g heard = sym (append-nil _)
turn_user (Some thing.GoOn) now s x far f g heard =
    take-append-drop (giving.given x.place x.unsent now s) x.unsent ∙ sym (append-nil _)
turn_user (Some thing.GoOnFar) now s x far f g heard = sym (append-nil _)
turn_user (Some thing.GiveReply) now s x far f g heard = absurd g
turn_user (Some thing.LetGo) now s x far f g heard = absurd g
turn_user (Some thing.GiveText) now s x far f g heard =
    say_user (taking.taken far.place now s) far.place now (session_at s (standing x far)) heard (none_waits x.unsent g)
turn_user (Some thing.DropText) now s x far f g heard = absurd g
turn_user (Some thing.DoLine) now s x far f g heard = absurd g
turn_user (Some thing.PassOn) now s x far f g heard = turn_pass_unsent now s x far ∙ sym (append-nil _)
turn_user (Some thing.Stop) now s x far f g heard = absurd g
turn_user (Some thing.CloseFar) now s x far f g heard = sym (append-nil _)

sight_ended : (s : SidesState) (x : Session) (far : Far) → is_deaf (session_at s (standing x far)) ≡ false
    → (sight_of (session_at s (standing x far))).user_ended ≡ false
unfolding sight_of
sight_ended s x far heard = heard

types_user : (d : Bool) (text : List ℕ) (x : Session) (far : Far)
    → (cond d (sessions.type_text text (standing x far)) (standing x far)).unsent ≡ (x.unsent ++ [])
types_user true text x far = sym (append-nil _)
types_user false text x far = sym (append-nil _)

moves_user : (m : Move) (s : SidesState) (x : Session) (far : Far) → Hears m (session_at s (standing x far))
    → (to_user m (session_at s (standing x far)) ++ (after m (session_at s (standing x far))).session.unsent)
    ≡ (x.unsent ++ from_far m (session_at s (standing x far)))
unfolding prepare
moves_user (Turns now) s x far heard =
    let a = session_at s (standing x far) in
    let w = has_some x.unsent in
    let f = has_some far.unsent in
    turn_user (next_at a) now s x far f
    (subst (λ e. Guard (next_at a) e w f) (sight_ended s x far heard.before) (next_guard x far (sight_of a))) heard.behind
moves_user (Meanwhile then) s x far heard = sym (append-nil _)
moves_user (Types text) s x far heard = types_user (takes text (standing x far)) text x far
moves_user (Notes text) s x far heard = sym (append-nil _)
moves_user (Ends failed) s x far heard = sym (append-nil _)

moved_user : (m : Move) (a : At) (far : Far) → IsBridged a far → Hears m a
    → (to_user m a ++ (after m a).session.unsent) ≡ (a.session.unsent ++ from_far m a)
moved_user m a far br =
    subst (λ y. Hears m (session_at a.sides y)
    → (to_user m (session_at a.sides y) ++ (after m (session_at a.sides y)).session.unsent) ≡ (y.unsent ++ from_far m (session_at a.sides y)))
    (sym (is_standing a.session far br.stands br.here br.told)) (moves_user m a.sides a.session far)

pub reaches_user : (moves : List Move) (a : At) (far : Far) → IsBridged a far → IsHeard moves a → ReachesUser moves a
reaches_user [] a far br heard = sym (append-nil _)
reaches_user (m ∷ more) a far br heard =
    let one = moved m a far br in
    let rest = reaches_user more (after m a) one.far_then one.bridged heard.1 in
    append_assoc (to_user m a) (in_all to_user more (after m a)) _
    ∙ (ap (λ l. to_user m a ++ l) rest
    ∙ (sym (append_assoc (to_user m a) (after m a).session.unsent _)
    ∙ (ap (λ l. l ++ in_all from_far more (after m a)) (moved_user m a far br heard.0)
    ∙ append_assoc a.session.unsent (from_far m a) _)))
