-- After an input a node serves no more users than it has links and ends: each is at a link or an end, or has a circuit, of its own.
use Rattle.std.proofs.Common.{◌≡◌, ◌≤◌, ◌<◌, ◌+◌, ◌∙◌, inl, inr, ℕ, refl, sym, ap, subst, arith, List, [], ◌∷◌, length, slice_get}
use Rattle.std.specs.Prelude.{Bool, true, false, not, ◌&&◌, ◌||◌, nat_eq, nat_lt, is_none, is_some, if◌then◌else◌, Option, Some, None}
use Rattle.std.proofs.lemmas.Bool.Decides.{nat_tests}
use Rattle.std.specs.List.{AllByRecursion}
use Rattle.std.proofs.lemmas.Bool.{or_right}
use Rattle.ax_address.specs.Callsign.{Callsign, same_call}
use Rattle.ax_address.proofs.SameCalls.{call_refl}
use Rattle.circuit_l4.specs.Opening.{facts_of}
use Rattle.circuit_l4.specs.declared.facts.EndFacts.{EndFacts}
use Rattle.circuit_table.specs.CircuitSets.{facts_at, held_ids}
use Rattle.circuit_table.specs.Sets as sets
use Rattle.circuit_table.specs.Sets.{Holder}
use Rattle.link_table.specs.Ending.{has_link, tells_end}
use Rattle.link_table.specs.Table.{Linked, link_with}
use Rattle.node_model.specs.declared.circuit.Circuit.{Circuit}
use Rattle.node_model.specs.declared.reply.Reply.{Reply}
use Rattle.node_model.specs.declared.stage.Stage.{Stage}
use Rattle.node_model.specs.declared.stage.Stage.TheVariants.{AtPrompt, Trying, Failed, Connected}
use Rattle.node_model.specs.declared.user.User.{User}
use Rattle.node_model.specs.declared.user.User.TheVariants.{AtEnd, AtLink}
use Rattle.node_core.specs.Laws.{NothingLeft}
use Rattle.node_model.specs.Serving as serving
use Rattle.node_model.specs.Sessions.{Session, circuit_of}
use Rattle.node_core.specs.Standing.{IsTold}
use Rattle.node_model.specs.States.{State}
use Rattle.node_model.specs.Users as users
use Rattle.node_core.specs.Waits.{WaitsForRoom, has_text, has_text_at}
use Rattle.node_core.proofs.Holders.{is_away}
use Rattle.node_core.proofs.Housing.{IsQuiet}
use Rattle.node_core.proofs.Leaving.{IsHeld, gones}
use Rattle.node_core.proofs.Lodging.{Housed, at_link}
use Rattle.node_core.proofs.Owning.{Owns, asked_by, one, owned_by, total}
use Rattle.node_core.proofs.Soundness.{Every}

-- ---- sums over all sessions

sum_both : (f g : Session → ℕ) (ss : List Session) → total (λ x. f x + g x) ss ≡ total f ss + total g ss
sum_both f g [] = refl
sum_both f g (x ∷ ss) = omega (arith, sum_both f g ss)

sum_none : (ss : List Session) → total (λ x. 0) ss ≡ 0
sum_none [] = refl
sum_none (x ∷ ss) = omega (arith, sum_none ss)

all_some : (f : Session → ℕ) (ss : List Session) → Every (λ x. 1 ≤ f x) ss → length ss ≤ total f ss
all_some f [] e = omega arith
all_some f (x ∷ ss) e = omega (arith, e.0, all_some f ss e.1)

-- what is so of a session is counted among all
abbrev IsAmong : List Session → Session → Type 0
IsAmong all x = (of : Session → ℕ) → of x ≤ total of all

among_all : (ss all : List Session) → ((of : Session → ℕ) → total of ss ≤ total of all) → Every (IsAmong all) ss
among_all [] all less = tt
among_all (x ∷ ss) all less = (λ of. omega (arith, less of), among_all ss all (λ of. omega (arith, less of)))

-- ---- the links of a session, and its ends

abbrev of_links : List Linked → Session → ℕ
of_links [] x = 0
of_links (l ∷ ls) x = at_link l.peer x + of_links ls x

abbrev of_ends : List Holder → Session → ℕ
of_ends [] x = 0
of_ends (h ∷ hs) x = (if h.gone then 0 else owned_by h.id x) + of_ends hs x

links_few : (ls : List Linked) (ss : List Session) → ((peer : Callsign) → total (at_link peer) ss ≤ 1) → total (λ x. of_links ls x) ss ≤ length ls
links_few [] ss once = let none = sum_none ss in omega (arith, none)
links_few (l ∷ ls) ss once = omega (arith, sum_both (at_link l.peer) (λ x. of_links ls x) ss, once l.peer, links_few ls ss once)

ends_few : (hs : List Holder) (ss : List Session) → ((id : ℕ) → total (owned_by id) ss ≤ 1) → total (λ x. of_ends hs x) ss ≤ length (held_ids hs)
ends_few [] ss once = let none = sum_none ss in omega (arith, none)
ends_few (h ∷ hs) ss once = by h.gone (ends_few hs ss once)
  where
    by : (b : Bool) → total (λ x. of_ends hs x) ss ≤ length (held_ids hs) → total (λ x. (if b then 0 else owned_by h.id x) + of_ends hs x) ss ≤ length (if b then held_ids hs else h.id ∷ held_ids hs)
    by true few = let none = sum_none ss in omega (arith, sum_both (λ x. 0) (λ x. of_ends hs x) ss, none, few)
    by false few = omega (arith, sum_both (owned_by h.id) (λ x. of_ends hs x) ss, once h.id, few)

-- a link that stands is counted, and an end that is held
link_counts : (ls : List Linked) (peer : Callsign) (x : Session) → x.user ≡ AtLink peer → x.left ≡ false → is_some (link_with peer ls) ≡ true → 1 ≤ of_links ls x
link_counts [] peer x e f g = absurd (cc g)
link_counts (l ∷ ls) peer x e f g = by (same_call peer l.peer) refl g (λ h. link_counts ls peer x e f h)
  where
    by : (b : Bool) → same_call peer l.peer ≡ b → is_some (if b then Some l else link_with peer ls) ≡ true → (is_some (link_with peer ls) ≡ true → 1 ≤ of_links ls x) → 1 ≤ of_links (l ∷ ls) x
    by true q h rest = let here : at_link l.peer x ≡ 1 = rw (e, f, q) refl in omega (arith, here)
    by false q h rest = let behind = rest h in omega (arith, behind)

end_counts : (hs : List Holder) (id : ℕ) (x : Session) → 1 ≤ owned_by id x → is_none (facts_at (sets.end_of id hs)) ≡ false → 1 ≤ of_ends hs x
end_counts [] id x owns e = absurd (cc e)
end_counts (h ∷ hs) id x owns e = by (nat_eq h.id id) refl e (λ f. end_counts hs id x owns f)
  where
    held : (b : Bool) → is_none (if b then None else Some (facts_of h.end)) ≡ false → 1 ≤ owned_by h.id x → 1 ≤ (if b then 0 else owned_by h.id x) + of_ends hs x
    held true f mine = absurd (cc f)
    held false f mine = omega (arith, mine)

    by : (b : Bool) → nat_eq h.id id ≡ b → is_none (facts_at (if b then Some h else sets.end_of id hs)) ≡ false → (is_none (facts_at (sets.end_of id hs)) ≡ false → 1 ≤ of_ends hs x) → 1 ≤ of_ends (h ∷ hs) x
    by true q f rest = let same : id ≡ h.id = grind (arith, nat_tests, q) in held h.gone f (subst (λ k. 1 ≤ owned_by k x) same owns)
    by false q f rest = let behind = rest f in omega (arith, behind)

-- ---- one session

at_prompt : (stage : Stage) → circuit_of stage ≡ None → stage ≡ AtPrompt
at_prompt AtPrompt e = refl
at_prompt (Trying c) e = absurd (cc e)
at_prompt (Failed c) e = absurd (cc e)
at_prompt (Connected c) e = absurd (cc e)

ended_none : (o : Option EndFacts) → is_none o ≡ true → users.ended_by o ≡ true
ended_none None e = refl
ended_none (Some f) e = absurd (cc e)

or_left : (a b : Bool) → (a || b) ≡ false → a ≡ false
or_left true b e = absurd (cc e)
or_left false b e = refl

-- a session whose user is gone, and that waits for room alone, has a circuit
module _ (n : State) (x : Session) (w : WaitsForRoom n x) (gone : users.is_gone x n ≡ true) (deaf : users.is_deaf x n ≡ true) (none : circuit_of x.stage ≡ None) where
  gives : users.can_give x n ≡ true
  gives = ap (λ b. b || users.has_room x n) deaf

  no_reply : (rs : List Reply) → x.replies ≡ rs → is_none (slice_get x.replies 0) ≡ true
  no_reply [] e = rw e refl
  no_reply (r ∷ rs) e =
      let some : 0 < length x.replies = rw e (omega arith) in
      absurd (cc (sym gives ∙ w.reply some))

  no_text : (b : Bool) → has_text x n ≡ b → nat_lt 0 (length x.rest) ≡ false
  no_text true e = absurd (cc (sym gives ∙ w.line (at_prompt x.stage none) e))
  no_text false e = or_left (nat_lt 0 (length x.rest)) (not x.left && has_text_at x.user n) e

  over : serving.is_over n x ≡ true
  over =
      let first = no_reply x.replies refl in
      let rest = no_text (has_text x n) refl in
      rw (gone, none, first, rest) refl

  pub has_circuit : ⊥
  has_circuit = absurd (cc (sym over ∙ w.goes_on))

abbrev Lives : State → Session → Type 0
Lives n x = 1 ≤ of_links n.links.links x + of_ends n.set.set.ends x

lives : (n : State) (x : Session) → WaitsForRoom n x → ((peer : Callsign) → x.user ≡ AtLink peer → x.left ≡ false → has_link peer n.links ≡ true)
    → ((c : Circuit) → circuit_of x.stage ≡ Some c → is_away c.id n.set.set ≡ false) → Lives n x
lives n x w linked held = by x.user refl
  where
    by_circuit : users.is_gone x n ≡ true → users.is_deaf x n ≡ true → (o : Option Circuit) → circuit_of x.stage ≡ o → Lives n x
    by_circuit gone deaf None e = absurd (has_circuit n x w gone deaf e)
    by_circuit gone deaf (Some c) e =
        let self : nat_eq c.id c.id ≡ true = grind (arith, nat_tests) in
        let mine : one (serving.is_at_end c.id x.user) + one (serving.is_circuit c.id (circuit_of x.stage)) ≡ one (serving.is_at_end c.id x.user) + 1 = rw (e, self) refl in
        let counted = end_counts n.set.set.ends c.id x (omega (arith, mine)) (held c e) in
        omega (arith, counted)

    left_out : (peer : Callsign) → x.user ≡ AtLink peer → (b : Bool) → x.left ≡ b → Lives n x
    left_out peer e false f = let counted = link_counts n.links.links peer x e f (linked peer e f) in omega (arith, counted)
    left_out peer e true f =
        let gone : users.is_gone x n ≡ true = rw (e, f) refl in
        let ended : users.has_ended x n ≡ true = rw (e, f) refl in
        by_circuit gone (or_right x.bye (users.has_ended x n) ended) (circuit_of x.stage) refl

    end_out : (id : ℕ) → x.user ≡ AtEnd id → (b : Bool) → is_none (users.facts id n) ≡ b → Lives n x
    end_out id e false f =
        let self : nat_eq id id ≡ true = grind (arith, nat_tests) in
        let mine : one (serving.is_at_end id x.user) + one (serving.is_circuit id (circuit_of x.stage)) ≡ 1 + one (serving.is_circuit id (circuit_of x.stage)) = rw (e, self) refl in
        let counted = end_counts n.set.set.ends id x (omega (arith, mine)) f in
        omega (arith, counted)
    end_out id e true f =
        let gone : users.is_gone x n ≡ true = rw e f in
        let ended : users.has_ended x n ≡ true = rw e (ended_none (users.facts id n) f) in
        by_circuit gone (or_right x.bye (users.has_ended x n) ended) (circuit_of x.stage) refl

    by : (u : User) → x.user ≡ u → Lives n x
    by (AtEnd id) e = end_out id e (is_none (users.facts id n)) refl
    by (AtLink peer) e = left_out peer e x.left refl

-- ---- all of them

or_first : (a b : Bool) → b ≡ false → (a || b) ≡ true → a ≡ true
or_first true b e f = refl
or_first false b e f = absurd (cc (sym e ∙ f))

-- it isn't told that a link has ended
abbrev TellsNone : State → Type 0
TellsNone n = (peer : Callsign) → tells_end peer n.links.pending.notices ≡ false

-- the ends of circuits are held
abbrev HoldsAll : State → Type 0
HoldsAll n = (id : ℕ) → 0 < total (asked_by id) n.sessions → is_away id n.set.set ≡ false

all_live : (n : State) (ss : List Session) → AllByRecursion (WaitsForRoom n) ss → Every (IsAmong n.sessions) ss → TellsNone n → Housed n → HoldsAll n → Every (Lives n) ss
all_live n [] w m none h k = tt
all_live n (x ∷ ss) w m none h k = (lives n x w.0 linked held, all_live n ss w.1 m.1 none h k)
  where
    linked : (peer : Callsign) → x.user ≡ AtLink peer → x.left ≡ false → has_link peer n.links ≡ true
    linked peer e f =
        let self = call_refl peer in
        let mine : at_link peer x ≡ 1 = rw (e, f, self) refl in
        let some : 0 < total (at_link peer) n.sessions = omega (arith, mine, m.0 (at_link peer)) in
        or_first (has_link peer n.links) (tells_end peer n.links.pending.notices) (none peer) (h.lodged peer some)

    held : (c : Circuit) → circuit_of x.stage ≡ Some c → is_away c.id n.set.set ≡ false
    held c e =
        let self : nat_eq c.id c.id ≡ true = grind (arith, nat_tests) in
        let mine : asked_by c.id x ≡ 1 = rw (e, self) refl in
        k c.id (omega (arith, mine, m.0 (asked_by c.id)))

-- how many users a node serves at most
abbrev pub UsersAreFew : State → Type 0
UsersAreFew n = length n.sessions ≤ length n.links.links + length (held_ids n.set.set.ends)

pub users_few : (now : ℕ) (n : State) → NothingLeft now n → IsTold n → Housed n → IsQuiet n → Owns n.set.set n.set.untold n.sessions → UsersAreFew n
users_few now n left told h q o = by n.settings.prompt refl
  where
    none : TellsNone n
    none peer = ap (tells_end peer) left.notices

    untold : (id : ℕ) → gones id n.set.untold ≡ 0
    untold id = ap (λ w. gones id w.untold) told

    away : (id : ℕ) → IsHeld id n.set.set n.set.untold → is_away id n.set.set ≡ false
    away id (inl e) = e
    away id (inr some) = let zeroed = untold id in absurd (omega (arith, some, zeroed))

    once : (id : ℕ) → total (owned_by id) n.sessions ≤ 1
    once id = omega (arith, o.few id)

    by : (b : Bool) → n.settings.prompt ≡ b → UsersAreFew n
    by false e = let nobody : length n.sessions ≡ 0 = ap (λ (ss : List Session). length ss) (q e) in omega (arith, nobody)
    by true e =
        let live = all_live n n.sessions (left.sessions e) (among_all n.sessions n.sessions (λ of. omega arith)) none h (λ id some. away id (o.held id some)) in
        let many = all_some (λ x. of_links n.links.links x + of_ends n.set.set.ends x) n.sessions live in
        let both = sum_both (λ x. of_links n.links.links x) (λ x. of_ends n.set.set.ends x) n.sessions in
        omega (arith, many, both, links_few n.links.links n.sessions h.once, ends_few n.set.set.ends n.sessions once)
