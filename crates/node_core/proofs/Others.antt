-- What holds of all sessions but the one in a place; and a circuit is that of one session, and no user's.
use Rattle.std.proofs.Common.{◌≡◌, ◌≤◌, ◌+◌, ◌∙◌, ℕ, zero, suc, refl, ap, subst, arith, List, [], ◌∷◌, ◌++◌, map, slice_get, slice_set}
use Rattle.std.specs.Prelude.{Bool, true, false, nat_eq, if◌then◌else◌, Option, Some, None}
use Rattle.std.proofs.lemmas.Bool.Decides.{nat_tests}
use Rattle.circuit_l4.specs.declared.notice.EndNotice.{EndNotice}
use Rattle.circuit_table.specs.Pumps.{Of}
use Rattle.circuit_table.specs.Sets as s
use Rattle.circuit_table.specs.Sets.{SetState, CircuitTold}
use Rattle.node_model.specs.declared.circuit.Circuit.{Circuit}
use Rattle.node_model.specs.declared.stage.Stage.{Stage}
use Rattle.node_model.specs.declared.stage.Stage.TheVariants.{AtPrompt, Trying, Failed, Connected}
use Rattle.node_model.specs.declared.user.User.{User}
use Rattle.node_model.specs.declared.user.User.TheVariants.{AtEnd}
use Rattle.node_model.specs.Serving.{is_at_end, is_circuit}
use Rattle.node_model.specs.Sessions as sessions
use Rattle.node_model.specs.Sessions.{Session, circuit_of}
use Rattle.node_model.specs.Users as users
use Rattle.node_core.proofs.Owning.{Owns, at_least, one, owned_by, staged, total}
use Rattle.node_core.proofs.Soundness.{Every, Hears, map_every, push_every}

-- ---- all but one

abbrev pub But : (Session → Type 0) → ℕ → List Session → Type 0
But P nth [] = Unit {0}
But P zero (x ∷ ss) = Every P ss
But P (suc nth) (x ∷ ss) = P x × But P nth ss

but_map : (P : Session → Type 0) (nth : ℕ) (f : Session → Session) → ((x : Session) → P x → P (f x)) → (ss : List Session) → But P nth ss → But P nth (map f ss)
but_map P nth f on [] e = tt
but_map P zero f on (x ∷ ss) e = map_every P f on ss e
but_map P (suc nth) f on (x ∷ ss) e = (on x e.0, but_map P nth f on ss e.1)

but_push : (P : Session → Type 0) (nth : ℕ) (y : Session) (ss : List Session) → P y → But P nth ss → But P nth (ss ++ y ∷ [])
but_push P zero y [] p e = tt
but_push P (suc nth) y [] p e = (p, tt)
but_push P zero y (x ∷ ss) p e = push_every P ss y e p
but_push P (suc nth) y (x ∷ ss) p e = (e.0, but_push P nth y ss p e.1)

but_greet : (P : Session → Type 0) → ((user : User) → P (sessions.new_session user)) → (prompt : Bool) (nth : ℕ) (user : User) (ss : List Session) → But P nth ss → But P nth (sessions.greet prompt user ss)
but_greet P new true nth user ss e = but_push P nth (sessions.new_session user) ss (new user) e
but_greet P new false nth user ss e = e

-- it is kept as the sessions hear
pub but_hear : (P : Session → Type 0) → Hears P → ((user : User) → P (sessions.new_session user)) → (nth : ℕ) (prompt : Bool) (t : CircuitTold) (ss : List Session) → But P nth ss
    → But P nth (sessions.hear_circuits prompt (Of t) ss)
but_hear P h new nth prompt (s.Made at pair partner None) ss e = e
but_hear P h new nth prompt (s.Made at pair partner (Some d)) ss e = but_greet P new prompt nth (AtEnd at) ss e
but_hear P h new nth prompt (s.Notice at n) ss e = but_map P nth (sessions.hear_notice at n) (h.notice at n) ss e
but_hear P h new nth prompt (s.Gone at facts) ss e = but_map P nth (sessions.hear_gone at) (h.gone at) ss e
but_hear P h new nth prompt (s.Sent at number d) ss e = e
but_hear P h new nth prompt (s.Heeded at d) ss e = e
but_hear P h new nth prompt (s.Restarted pair) ss e = e
but_hear P h new nth prompt (s.Lost at facts) ss e = e

-- a change in that place leaves the others
but_set : (P : Session → Type 0) (nth : ℕ) (y : Session) (ss : List Session) → But P nth ss → But P nth (slice_set ss nth y)
but_set P zero y [] e = tt
but_set P (suc nth) y [] e = tt
but_set P zero y (x ∷ ss) e = e
but_set P (suc nth) y (x ∷ ss) e = (e.0, but_set P nth y ss e.1)

-- with one in that place of which it holds, it holds of all
pub but_whole : (P : Session → Type 0) (nth : ℕ) (y : Session) (ss : List Session) → P y → But P nth ss → Every P (slice_set ss nth y)
but_whole P zero y [] p e = tt
but_whole P (suc nth) y [] p e = tt
but_whole P zero y (x ∷ ss) p e = (p, e)
but_whole P (suc nth) y (x ∷ ss) p e = (e.0, but_whole P nth y ss p e.1)

every_on : (N P Q : Session → Type 0) → ((x : Session) → N x → P x → Q x) → (ss : List Session) → Every N ss → Every P ss → Every Q ss
every_on N P Q on [] n e = tt
every_on N P Q on (x ∷ ss) n e = (on x n.0 e.0, every_on N P Q on ss n.1 e.1)

-- what holds of all and goes on where the others are such
pub but_on : (N P Q : Session → Type 0) → ((x : Session) → N x → P x → Q x) → (nth : ℕ) (ss : List Session) → But N nth ss → Every P ss → But Q nth ss
but_on N P Q on nth [] n e = tt
but_on N P Q on zero (x ∷ ss) n e = every_on N P Q on ss n e.1
but_on N P Q on (suc nth) (x ∷ ss) n e = (on x n.0 e.0, but_on N P Q on nth ss n.1 e.1)

-- ---- the end of a user is no session's circuit

abbrev pub NotIts : ℕ → Session → Type 0
NotIts id x = is_circuit id (circuit_of x.stage) ≡ false

abbrev users_of : ℕ → Session → ℕ
users_of id x = one (is_at_end id x.user)

abbrev circuits_of : ℕ → Session → ℕ
circuits_of id x = one (is_circuit id (circuit_of x.stage))

split : (id : ℕ) (ss : List Session) → total (owned_by id) ss ≡ total (users_of id) ss + total (circuits_of id) ss
split id [] = omega arith
split id (x ∷ ss) = omega (arith, split id ss)

none_one : (b : Bool) → one b ≡ 0 → b ≡ false
none_one true e = absurd (omega (arith, e))
none_one false e = refl

none_its : (id : ℕ) (ss : List Session) → total (circuits_of id) ss ≡ 0 → Every (NotIts id) ss
none_its id [] e = tt
none_its id (x ∷ ss) e = (none_one (is_circuit id (circuit_of x.stage)) (omega (arith, e)), none_its id ss (omega (arith, e)))

pub alone : (set : SetState) (ts : List CircuitTold) (ss : List Session) (nth id : ℕ) (x : Session) → Owns set ts ss → slice_get ss nth ≡ Some x → x.user ≡ AtEnd id → Every (NotIts id) ss
alone set ts ss nth id x o e g =
    let self : nat_eq id id ≡ true = grind (arith, nat_tests) in
    let mine : users_of id x ≡ 1 = rw (g, self) refl in
    let least = at_least (users_of id) ss nth x e in
    let few = o.few id in
    let both = split id ss in
    none_its id ss (omega (arith, mine, least, few, both))

-- ---- no other session has this circuit

abbrev pub OthersNot : ℕ → ℕ → List Session → Type 0
OthersNot id nth ss = But (NotIts id) nth ss

either_not : (id : ℕ) (x y : Session) (b : Bool) → NotIts id x → NotIts id y → NotIts id (if b then y else x)
either_not id x y true p q = q
either_not id x y false p q = p

noticed_not : (id at : ℕ) (n : EndNotice) (x : Session) (stage : Stage) → x.stage ≡ stage → NotIts id x → NotIts id (sessions.notice_at stage at n x)
noticed_not id at n x AtPrompt e w = w
noticed_not id at n x (Failed c) e w = w
noticed_not id at n x (Connected c) e w = w
noticed_not id at n x (Trying c) e w =
    either_not id x (sessions.hear_tried c n x) (nat_eq c.id at) w
    (ap (λ (o : Option Circuit). is_circuit id o) (staged c n) ∙ subst (λ (stage : Stage). is_circuit id (circuit_of stage) ≡ false) e w)

gone_not : (id at : ℕ) (x : Session) (stage : Stage) → NotIts id x → NotIts id (sessions.gone_at stage at x)
gone_not id at x AtPrompt w = w
gone_not id at x (Trying c) w = either_not id x (sessions.at_prompt x) (nat_eq c.id at) w refl
gone_not id at x (Failed c) w = either_not id x (sessions.at_prompt x) (nat_eq c.id at) w refl
gone_not id at x (Connected c) w = either_not id x (sessions.hear_end c x) (nat_eq c.id at) w refl

not_hears : (id : ℕ) → Hears (NotIts id)
not_hears id = record { notice = λ at n x w. noticed_not id at n x x.stage refl w; gone = λ at x w. gone_not id at x x.stage w }

pub others_hear : (id nth : ℕ) (prompt : Bool) (t : CircuitTold) (ss : List Session) → OthersNot id nth ss → OthersNot id nth (sessions.hear_circuits prompt (Of t) ss)
others_hear id nth prompt t ss e = but_hear (NotIts id) (not_hears id) (λ user. refl) nth prompt t ss e

pub others_changed : (id nth : ℕ) (f : Session → Session) (ss : List Session) (o : Option Session) → OthersNot id nth ss → OthersNot id nth (users.change_if o nth f ss)
others_changed id nth f ss None e = e
others_changed id nth f ss (Some x) e = but_set (NotIts id) nth (f x) ss e

-- the session that has it is the only one
only_has : (id nth : ℕ) (x : Session) (ss : List Session) → slice_get ss nth ≡ Some x → is_circuit id (circuit_of x.stage) ≡ true → total (circuits_of id) ss ≤ 1 → OthersNot id nth ss
only_has id nth x [] e g few = tt
only_has id zero x (z ∷ ss) e g few =
    let same : z ≡ x = cc e in
    let here : circuits_of id z ≡ 1 = rw (same, g) refl in
    none_its id ss (omega (arith, here, few))
only_has id (suc nth) x (z ∷ ss) e g few =
    let mine : circuits_of id x ≡ 1 = rw g refl in
    let least = at_least (circuits_of id) ss nth x e in
    (none_one (is_circuit id (circuit_of z.stage)) (omega (arith, mine, least, few)), only_has id nth x ss e g (omega (arith, few)))

pub only : (set : SetState) (ts : List CircuitTold) (ss : List Session) (nth : ℕ) (c : Circuit) (x : Session) → Owns set ts ss → slice_get ss nth ≡ Some x → circuit_of x.stage ≡ Some c → OthersNot c.id nth ss
only set ts ss nth c x o e g =
    let self : nat_eq c.id c.id ≡ true = grind (arith, nat_tests) in
    let mine : is_circuit c.id (circuit_of x.stage) ≡ true = rw (g, self) refl in
    let both = split c.id ss in
    let few = o.few c.id in
    only_has c.id nth x ss e mine (omega (arith, both, few))
