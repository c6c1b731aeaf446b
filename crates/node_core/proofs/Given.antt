-- What was given to the user of a session: all that came from its circuit, where it is still told things, as its node goes on.
use Rattle.std.proofs.Common.{◌≡◌, ◌≤◌, ◌<◌, ◌∙◌, ◌⊎◌, inl, inr, ℕ, refl, sym, ap, subst, arith, List, [], ◌∷◌, ◌++◌}
use Rattle.std.specs.Prelude.{Bool, true, false, ◌||◌, nat_eq, if◌then◌else◌, Some, None}
use Rattle.std.proofs.lemmas.Bool.Decides.{nat_tests}
use Rattle.std.proofs.lemmas.Bool.{cases_lt}
use Rattle.ax_address.specs.Callsign.{Callsign}
use Rattle.circuit_l4.specs.declared.notice.EndNotice.{EndNotice}
use Rattle.circuit_l4.specs.declared.notice.EndNotice.TheVariants as end
use Rattle.circuit_table.specs.Pumps.{Of}
use Rattle.circuit_table.specs.Sets.{SetState, CircuitTold, Made, Sent, Heeded, Notice, Gone, Restarted, Lost}
use Rattle.node_model.specs.declared.circuit.Circuit.{Circuit}
use Rattle.node_model.specs.declared.stage.Stage.{Stage}
use Rattle.node_model.specs.declared.stage.Stage.TheVariants.{AtPrompt, Trying, Failed, Connected}
use Rattle.node_model.specs.declared.user.User.{User}
use Rattle.node_model.specs.declared.user.User.TheVariants.{AtEnd, AtLink}
use Rattle.node_model.specs.Asking as asking
use Rattle.node_model.specs.Bridging as bridging
use Rattle.node_model.specs.Sessions as s
use Rattle.node_model.specs.Sessions.{Bridge, Session, circuit_of}
use Rattle.node_model.specs.States.{State}
use Rattle.node_model.specs.Users as users
use Rattle.node_model.specs.Users.{Outcome, Taken, Exhausts, Unheard, Refused}
use Rattle.node_core.proofs.Holders.{is_away, is_ended}
use Rattle.node_core.proofs.Owning.{Owns, made_by, one, staged}
use Rattle.node_core.proofs.Soundness.{Every, Hears, map_every, push_every}

-- ---- a session whose user is told nothing more

abbrev ended_at : User → Bool → SetState → Bool
ended_at (AtEnd id) left set = is_ended id set
ended_at (AtLink peer) left set = left

abbrev pub deaf : SetState → Session → Bool
deaf set x = x.bye || ended_at x.user x.left set

pub deaf_is : (x : Session) (n : State) → users.is_deaf x n ≡ deaf n.set.set x
deaf_is x n = by x.user
  where
    by : (u : User) → (x.bye || users.has_ended_at u x.left n) ≡ (x.bye || ended_at u x.left n.set.set)
    by (AtEnd id) = refl
    by (AtLink peer) = refl

-- ---- what was given

abbrev Gives : Bridge → Bool → Type 0
Gives b is_deaf = b.exhausted ≡ false → is_deaf ≡ false → b.gave ≡ b.got

abbrev pub GivesAt : Stage → Bridge → Bool → Type 0
GivesAt AtPrompt b is_deaf = Unit {0}
GivesAt (Trying c) b is_deaf = Gives b is_deaf
GivesAt (Failed c) b is_deaf = Unit {0}
GivesAt (Connected c) b is_deaf = Gives b is_deaf

-- its user is gone
abbrev pub away : User → Bool → SetState → Bool
away (AtEnd id) left set = is_away id set
away (AtLink peer) left set = left

pub gone_is : (x : Session) (n : State) → users.is_gone x n ≡ away x.user x.left n.set.set
gone_is x n = by x.user
  where
    by : (u : User) → users.is_gone_at u x.left n ≡ away u x.left n.set.set
    by (AtEnd id) = refl
    by (AtLink peer) = refl

-- nothing is left of its texts, and none will come
abbrev pub IsDone : SetState → Session → Type 0
IsDone set x = (x.rest ≡ []) × (away x.user x.left set ≡ true)

abbrev pub Unclosed : Session → Type 0
Unclosed x = (c : Circuit) → circuit_of x.stage ≡ Some c → c.closed ≡ true → ⊥

-- and the end of its user has a number that was given; and its circuit is closed last
pub record Given (set : SetState) (x : Session) : Type 0 where
  pub known : (id : ℕ) → x.user ≡ AtEnd id → id < set.number
  pub gives : GivesAt x.stage x.bridge (deaf set x)
  pub closed : (c : Circuit) → circuit_of x.stage ≡ Some c → c.closed ≡ true → IsDone set x

on_gives : (stage : Stage) (b c : Bridge) (d e : Bool) → (Gives b d → Gives c e) → GivesAt stage b d → GivesAt stage c e
on_gives AtPrompt b c d e f g = tt
on_gives (Trying k) b c d e f g = f g
on_gives (Failed k) b c d e f g = tt
on_gives (Connected k) b c d e f g = f g

-- ---- as the circuits go on

module _ (old new : SetState) (number : old.number ≤ new.number) (stays : (id : ℕ) → id < old.number → is_ended id old ≡ true → is_ended id new ≡ true)
    (leaves : (id : ℕ) → id < old.number → is_away id old ≡ true → is_away id new ≡ true) where
  earlier : (u : User) → ((id : ℕ) → u ≡ AtEnd id → id < old.number) → (bye left : Bool) → (bye || ended_at u left new) ≡ false → (bye || ended_at u left old) ≡ false
  earlier u known true left e = absurd (cc e)
  earlier (AtLink peer) known false left e = e
  earlier (AtEnd id) known false left e = by (is_ended id old) refl
    where
      by : (b : Bool) → is_ended id old ≡ b → is_ended id old ≡ false
      by true f = let after = stays id (known id refl) f in absurd (cc (e, after))
      by false f = f

  away_on : (u : User) → ((id : ℕ) → u ≡ AtEnd id → id < old.number) → (left : Bool) → away u left old ≡ true → away u left new ≡ true
  away_on (AtEnd id) known left e = leaves id (known id refl) e
  away_on (AtLink peer) known left e = e

  later : (x : Session) → Given old x → Given new x
  later x g = record {
    closed = λ c h k. let d = g.closed c h k in (d.0, away_on x.user g.known x.left d.1);
    known = λ id e. let low = g.known id e in omega (arith, low, number);
    gives = on_gives x.stage x.bridge x.bridge (deaf old x) (deaf new x) (λ f a d. f a (earlier x.user g.known x.bye x.left d)) g.gives;
  }

  pub given_later : (ss : List Session) → Every (Given old) ss → Every (Given new) ss
  given_later [] e = tt
  given_later (x ∷ ss) e = (later x e.0, given_later ss e.1)

-- ---- as a session goes on

module _ (set : SetState) where
  pub given_new : (user : User) → ((id : ℕ) → user ≡ AtEnd id → id < set.number) → Given set (s.new_session user)
  given_new user known = record { known = known; gives = tt; closed = λ c h. absurd (cc h) }

  pub given_reply : (x : Session) → Given set x → Given set (bridging.drop_reply x)
  given_reply x g = record { known = g.known; gives = g.gives; closed = g.closed }

  pub given_cut : (x : Session) → Given set x → Given set (asking.cut_line x)
  given_cut x g = record { known = g.known; gives = g.gives; closed = λ c h k. let d = g.closed c h k in (ap asking.behind_line d.0, d.1) }

  pub given_dropped : (x : Session) → Given set x → Given set (bridging.drop_rest x)
  given_dropped x g = record { known = g.known; gives = g.gives; closed = λ c h k. (refl, (g.closed c h k).1) }

  pub given_text : (text : List ℕ) (x : Session) → Unclosed x → Given set x → Given set (users.with_text text x)
  given_text text x unclosed g = record { known = g.known; closed = λ c h k. absurd (unclosed c h k); gives = on_gives x.stage x.bridge _ (deaf set x) (deaf set x) (λ f. f) g.gives }

  pub given_tries : (id : ℕ) (dest : Callsign) (x : Session) → Given set x → Given set (asking.tries id dest x)
  given_tries id dest x g = record {
    known = g.known;
    gives = λ a d. refl;
    closed = λ c h k.
        let same : asking.circuit_to id dest ≡ c = cc h in
        let fresh : false ≡ c.closed = ap (λ (d : Circuit). d.closed) same in
        absurd (cc (fresh ∙ k));
  }

  -- it has said BYE
  pub given_bye : (x : Session) → Given set x → Given set (asking.leaves x)
  given_bye x g = record { known = g.known; closed = λ c h k. (refl, (g.closed c h k).1); gives = on_gives x.stage x.bridge x.bridge (deaf set x) true (λ f a d. absurd (cc d)) g.gives }

  -- its link has ended
  left_deaf : (u : User) (bye left : Bool) → (bye || ended_at u true set) ≡ false → (bye || ended_at u left set) ≡ false
  left_deaf (AtEnd id) bye left e = e
  left_deaf (AtLink peer) true left e = absurd (cc e)
  left_deaf (AtLink peer) false left e = absurd (cc e)

  left_away : (u : User) (left : Bool) → away u left set ≡ true → away u true set ≡ true
  left_away (AtEnd id) left e = e
  left_away (AtLink peer) left e = refl

  pub given_left : (x : Session) → Given set x → Given set (s.leaves x)
  given_left x g = record { known = g.known; closed = λ c h k. let d = g.closed c h k in (d.0, left_away x.user x.left d.1); gives = on_gives x.stage x.bridge x.bridge (deaf set x) (deaf set (s.leaves x)) (λ f a d. f a (left_deaf x.user x.bye x.left d)) g.gives }

  pub given_closed : (x : Session) → IsDone set x → Given set x → Given set (bridging.note_closed x)
  given_closed x done g = record { known = g.known; gives = by x.stage g.gives; closed = λ c h k. done }
    where
      by : (stage : Stage) → GivesAt stage x.bridge (deaf set x) → GivesAt (bridging.stage_closed stage) x.bridge (deaf set x)
      by AtPrompt f = tt
      by (Trying c) f = f
      by (Failed c) f = tt
      by (Connected c) f = f

  -- a text was written to its circuit
  pub given_wrote : (outcome : Outcome) (text : List ℕ) (x : Session) → Given set x → Given set (bridging.log_wrote outcome text x)
  given_wrote outcome text x g = record { known = g.known; closed = λ c h k. (refl, (g.closed c h k).1); gives = on_gives x.stage x.bridge (bridging.after_writing outcome text x.bridge) (deaf set x) (deaf set x) (by outcome) g.gives }
    where
      by : (o : Outcome) → Gives x.bridge (deaf set x) → Gives (bridging.after_writing o text x.bridge) (deaf set x)
      by Taken f = f
      by Exhausts f = λ a. absurd (cc a)
      by Unheard f = f
      by Refused f = f

  -- nothing but want of numbers keeps a message from a user that is told things
  abbrev pub IsGood : Bool → Outcome → Type 0
  IsGood is_deaf Taken = Unit {0}
  IsGood is_deaf Exhausts = Unit {0}
  IsGood is_deaf Unheard = is_deaf ≡ true
  IsGood is_deaf Refused = ⊥

  -- a message was taken from the circuit, and went to the user or was dropped
  pub given_gave : (outcome : Outcome) (message : List ℕ) (x : Session) → IsGood (deaf set x) outcome → Given set x → Given set (bridging.log_gave outcome message (bridging.log_got message x))
  given_gave outcome message x good g =
      record { known = g.known; closed = g.closed; gives = on_gives x.stage x.bridge (bridging.log_gave outcome message (bridging.log_got message x)).bridge (deaf set x) (deaf set x) (by outcome good) g.gives }
    where
      by : (o : Outcome) → IsGood (deaf set x) o → Gives x.bridge (deaf set x) → Gives (bridging.log_gave o message (bridging.log_got message x)).bridge (deaf set x)
      by Taken good f = λ a d. ap (λ (ms : List (List ℕ)). ms ++ message ∷ []) (f a d)
      by Exhausts good f = λ a. absurd (cc a)
      by Unheard good f = λ a d. absurd (cc (good, d))
      by Refused good f = absurd good

  -- ---- as it hears

  either : (x y : Session) (b : Bool) → Given set x → Given set y → Given set (if b then y else x)
  either x y true p q = q
  either x y false p q = p

  opened : (c : Circuit) (notice : EndNotice) (rest : List ℕ) (b : Bridge) (d : Bool) → Gives b d → GivesAt (s.stage_by c notice) (s.after_opening rest b) d
  opened c (end.Opened window) rest b d f = f
  opened c end.Refused rest b d f = tt
  opened c end.Closed rest b d f = tt
  opened c end.ClosedByPartner rest b d f = tt
  opened c end.FailedRetries rest b d f = tt
  opened c end.FailedOversize rest b d f = tt
  opened c end.FailedInactive rest b d f = tt

  noticed_at : (id : ℕ) (notice : EndNotice) (x : Session) (stage : Stage) → x.stage ≡ stage → Given set x → Given set (s.notice_at stage id notice x)
  noticed_at id notice x AtPrompt e g = g
  noticed_at id notice x (Failed c) e g = g
  noticed_at id notice x (Connected c) e g = g
  noticed_at id notice x (Trying c) e g =
      either x (s.hear_tried c notice x) (nat_eq c.id id) g
      (record { known = g.known; gives = opened c notice x.rest x.bridge (deaf set x) (subst (λ (st : Stage). GivesAt st x.bridge (deaf set x)) e g.gives); closed = λ d h k. g.closed d (ap circuit_of e ∙ (sym (staged c notice) ∙ h)) k })

  gone_at : (id : ℕ) (x : Session) (stage : Stage) → Given set x → Given set (s.gone_at stage id x)
  gone_at id x AtPrompt g = g
  gone_at id x (Trying c) g = either x (s.at_prompt x) (nat_eq c.id id) g (record { known = g.known; gives = tt; closed = λ d h. absurd (cc h) })
  gone_at id x (Failed c) g = either x (s.at_prompt x) (nat_eq c.id id) g (record { known = g.known; gives = tt; closed = λ d h. absurd (cc h) })
  gone_at id x (Connected c) g = either x (s.hear_end c x) (nat_eq c.id id) g (record { known = g.known; gives = tt; closed = λ d h. absurd (cc h) })

  pub given_hears : Hears (Given set)
  given_hears = record { notice = λ id notice x g. noticed_at id notice x x.stage refl g; gone = λ id x g. gone_at id x x.stage g }

  -- an end that a request has made has a number that was given
  made_known : (ts : List CircuitTold) (ss : List Session) (id : ℕ) (t : CircuitTold) → Owns set (t ∷ ts) ss → 0 < made_by id t → id < set.number
  made_known ts ss id t o some = by (cases_lt id set.number)
    where
      by : (id < set.number) ⊎ (set.number ≤ id) → id < set.number
      by (inl low) = low
      by (inr over) = let none = o.fresh id over in absurd (omega (arith, none, some))

  greeted : (prompt : Bool) (user : User) (ss : List Session) → Given set (s.new_session user) → Every (Given set) ss → Every (Given set) (s.greet prompt user ss)
  greeted true user ss new e = push_every (Given set) ss (s.new_session user) e new
  greeted false user ss new e = e

  pub given_heard : (prompt : Bool) (t : CircuitTold) (ts : List CircuitTold) (ss : List Session) → Owns set (t ∷ ts) ss → Every (Given set) ss → Every (Given set) (s.hear_circuits prompt (Of t) ss)
  given_heard prompt (Made id pair partner None) ts ss o e = e
  given_heard prompt (Made id pair partner (Some d)) ts ss o e =
      let self : nat_eq id id ≡ true = grind (arith, nat_tests) in
      let some : 0 < one (nat_eq id id) = rw self (omega arith) in
      let low = made_known ts ss id (Made id pair partner (Some d)) o some in
      greeted prompt (AtEnd id) ss (given_new (AtEnd id) (λ k f. let same : id ≡ k = cc f in subst (λ j. j < set.number) same low)) e
  given_heard prompt (Notice id notice) ts ss o e = map_every (Given set) (s.hear_notice id notice) (given_hears.notice id notice) ss e
  given_heard prompt (Gone id facts) ts ss o e = map_every (Given set) (s.hear_gone id) (given_hears.gone id) ss e
  given_heard prompt (Sent id number d) ts ss o e = e
  given_heard prompt (Heeded id d) ts ss o e = e
  given_heard prompt (Restarted pair) ts ss o e = e
  given_heard prompt (Lost id facts) ts ss o e = e
