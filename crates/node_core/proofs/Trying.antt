-- A circuit that a session asks for, in a node that is fine.
use Rattle.std.proofs.Common.{◌≡◌, ◌≤◌, ◌<◌, ◌+◌, ◌∙◌, ◌⊎◌, inl, inr, ℕ, zero, suc, refl, sym, ap, subst, arith, List, [], ◌++◌, slice_get, length}
use Rattle.std.specs.Prelude.{Bool, true, false, ◌||◌, ◌&&◌, min, nat_eq, is_none, if◌then◌else◌, Option, Some, None, Result, Ok, Err}
use Rattle.std.proofs.lemmas.Bool.{eq-eqb}
use Rattle.std.proofs.lemmas.Bool.Decides.{nat_tests}
use Rattle.ax_address.specs.Callsign.{Callsign, same_call}
use Rattle.radio_base.specs.declared.modulus.TheConstants.{COUNT_MAX}
use Rattle.circuit_l4.specs.Opening.{requesting}
use Rattle.circuit_l4.specs.State.{Effect}
use Rattle.circuit_table.specs.Pumps.{connect_answer}
use Rattle.circuit_table.specs.Sets as sets
use Rattle.circuit_table.specs.Sets.{SetDone, SetState, set_step}
use Rattle.circuit_table.specs.declared.refusal.ConnectRefusal.{ConnectRefusal}
use Rattle.circuit_table.specs.declared.refusal.ConnectRefusal.TheVariants as connecting
use Rattle.link_table.specs.Reaching.{IsCall}
use Rattle.node_prompt.specs.Replies as texts
use Rattle.node_model.specs.declared.reply.Reply.{Reply}
use Rattle.node_model.specs.declared.stage.Stage.TheVariants.{AtPrompt}
use Rattle.node_model.specs.Asking as asking
use Rattle.node_model.specs.Bridging as bridging
use Rattle.node_model.specs.Links as circuits
use Rattle.node_core.specs.Runs.{MadeFrom}
use Rattle.node_model.specs.Sessions.{Session}
use Rattle.node_model.specs.States.{State, at_set, next_hop}
use Rattle.node_model.specs.Users as users
use Rattle.node_model.specs.Users.{at_session, change_if, session_at}
use Rattle.node_core.proofs.Fine.{Fine, goes_on, pumped, said}
use Rattle.node_core.proofs.Given.{Given, given_tries}
use Rattle.node_core.proofs.Holders.{Any, AreOpen, Keeps, connects_keeps, none_closing}
use Rattle.node_core.proofs.Wrote.{end_new, WroteAt, Written, asked_wrote, connects_wrote, written_tries}
use Rattle.node_core.proofs.Soundness.{Idle, Sound, changed_every, every_at}
use Rattle.node_core.proofs.Making.{connected_ok}
use Rattle.node_core.proofs.Owning.{Owns, mades, mades_both, none_made, one, opens_by, owned_by, placed, total, asked_by, held_on}
use Rattle.node_core.proofs.Leaving.{IsHeld, connects_leaves, gones_both, requested_held}

-- ---- the end that is made

record Accepted (dest : Callsign) (now id : ℕ) (set : SetState) : Type 0 where
  number : id ≡ set.number
  is : set_step set (sets.Connect dest now) ≡ sets.requests set dest now

accepted_by : (set : SetState) (d : SetDone) (id : ℕ) (a b c : Bool) → (if a then Err connecting.Own else (if b then Err connecting.NoRoute else (if c then Err connecting.Full else Ok set.number))) ≡ Ok id
    → (id ≡ set.number) × ((if a || c then sets.does_nothing set else d) ≡ d)
accepted_by set d id true b c e = absurd (cc e)
accepted_by set d id false true c e = absurd (cc e)
accepted_by set d id false false true e = absurd (cc e)
accepted_by set d id false false false e = (cc e, refl)

accepted : (hop : Callsign → Option Callsign) (dest : Callsign) (now id : ℕ) (set : SetState) → connect_answer hop dest set ≡ Ok id → Accepted dest now id set
accepted hop dest now id set e =
    let x = accepted_by set (sets.requests set dest now) id (same_call dest set.own) (is_none (hop dest)) (sets.is_full set) e in
    record { number = x.0; is = x.1 }

-- it has the next number, and no request has made it
record Made (set : SetState) (d : SetDone) : Type 0 where
  number : d.set.number ≡ set.number + 1
  none : (id : ℕ) → mades id d.told ≡ 0

made_one : (dest : Callsign) (now : ℕ) (set : SetState) → set_step set (sets.Connect dest now) ≡ sets.requests set dest now → Made set (set_step set (sets.Connect dest now))
made_one dest now set e =
    let d : SetDone = sets.requests set dest now in
    let made : MadeFrom set.number d.told d.set.number = subst (λ (x : SetDone). MadeFrom set.number x.told x.set.number) e (connected_ok set set.user dest now).made in
    let g : Effect = requesting (sets.new_pair set) set.user set.own set.config (min now COUNT_MAX) in
    let rest = none_made (set.number + 1) (sets.told_by set (sets.holder_of set dest None g) g) made.1 in
    let all : Made set d = record { number = refl; none = λ id. let r = rest id in omega (arith, r) } in
    subst (Made set) (sym e) all

-- ---- the session that has asked for it

asks : (id k : ℕ) (dest : Callsign) (x : Session) → x.stage ≡ AtPrompt → owned_by k (asking.tries id dest x) ≡ owned_by k x + one (nat_eq id k)
asks id k dest x e = rw e (omega arith)

asks_for : (id k : ℕ) (dest : Callsign) (x : Session) → x.stage ≡ AtPrompt → asked_by k (asking.tries id dest x) ≡ asked_by k x + one (nat_eq id k)
asks_for id k dest x e = rw e (omega arith)

and_yes : (a : Bool) → one (a && true) ≡ one a
and_yes true = refl
and_yes false = refl

asks_open : (id k : ℕ) (dest : Callsign) (x : Session) → x.stage ≡ AtPrompt → opens_by k (asking.tries id dest x) ≡ opens_by k x + one (nat_eq id k)
asks_open id k dest x e = let same = and_yes (nat_eq id k) in rw (e, same) (omega arith)

more_by : (of : Session → ℕ) (f : Session → Session) (k : ℕ) (ss : List Session) (nth : ℕ) (o : Option Session) (x : Session) → slice_get ss nth ≡ o → o ≡ Some x → of (f x) ≡ of x + k
    → total of (change_if o nth f ss) ≡ total of ss + k
more_by of f k ss nth None x e g more = absurd (cc g)
more_by of f k ss nth (Some y) x e g more =
    let same : y ≡ x = cc g in
    let here : of (f y) ≡ of y + k = rw same more in
    omega (arith, placed of ss nth y (f y) e, here)

number_test : (a b : ℕ) → (a ≡ b) ⊎ (nat_eq a b ≡ false)
number_test a b = by (nat_eq a b) refl
  where
    by : (c : Bool) → nat_eq a b ≡ c → (a ≡ b) ⊎ (nat_eq a b ≡ false)
    by true e = inl (grind (arith, nat_tests, e))
    by false e = inr e

most : (b : Bool) → one b ≤ 1
most true = omega arith
most false = omega arith

either_of : (a b : ℕ) → 0 < a + b → (0 < a) ⊎ (0 < b)
either_of zero b some = inr (omega (arith, some))
either_of (suc a) b some = inl (omega arith)

tried_owns : (dest : Callsign) (now id nth : ℕ) (n : State) (x : Session) → IsCall dest → Fine n → session_at nth n ≡ Some x → Idle x → Accepted dest now id n.set.set
    → (let d : SetDone = set_step n.set.set (sets.Connect dest now) in Owns d.set (n.set.untold ++ d.told) (at_session nth (asking.tries id dest) n).sessions)
tried_owns dest now id nth n x call f e i ok = record {
  below = keeps.below f.0.below;
  once = keeps.once f.0.below f.0.once;
  messages = keeps.messages f.0.messages;
  named = keeps.named f.0.named;
  few = λ k. by_number k (number_test id k);
  fresh = λ k high.
      let before = f.0.fresh k (omega (arith, high, made.number)) in
      let other = gone k (number_test id k) high in
      omega (arith, before, other, owned k, told k);
  unshut = λ k some. opened k (either_of (total (opens_by k) n.sessions + mades k n.set.untold) (one (nat_eq id k)) (omega (arith, some, opens k, told k)));
  held = λ k some. held_by k (either_of (total (asked_by k) n.sessions) (one (nat_eq id k)) (omega (arith, some, asked k)));
}
  where
    set : SetState
    set = n.set.set

    d : SetDone
    d = set_step set (sets.Connect dest now)

    made : Made set d
    made = made_one dest now set ok.is

    keeps : Keeps Any set d.set
    keeps = connects_keeps set set.user dest now call

    ss : List Session
    ss = (at_session nth (asking.tries id dest) n).sessions

    told : (k : ℕ) → mades k (n.set.untold ++ d.told) ≡ mades k n.set.untold
    told k = let none = made.none k in omega (arith, mades_both k n.set.untold d.told, none)

    owned : (k : ℕ) → total (owned_by k) ss ≡ total (owned_by k) n.sessions + one (nat_eq id k)
    owned k = more_by (owned_by k) (asking.tries id dest) (one (nat_eq id k)) n.sessions nth (slice_get n.sessions nth) x refl e (asks id k dest x i.stage)

    opens : (k : ℕ) → total (opens_by k) ss ≡ total (opens_by k) n.sessions + one (nat_eq id k)
    opens k = more_by (opens_by k) (asking.tries id dest) (one (nat_eq id k)) n.sessions nth (slice_get n.sessions nth) x refl e (asks_open id k dest x i.stage)

    asked : (k : ℕ) → total (asked_by k) ss ≡ total (asked_by k) n.sessions + one (nat_eq id k)
    asked k = more_by (asked_by k) (asking.tries id dest) (one (nat_eq id k)) n.sessions nth (slice_get n.sessions nth) x refl e (asks_for id k dest x i.stage)

    -- the end that was made
    its : IsHeld set.number d.set d.told
    its =
        let g : Effect = requesting (sets.new_pair set) set.user set.own set.config (min now COUNT_MAX) in
        let self : nat_eq set.number set.number ≡ true = eq-eqb set.number set.number refl in
        let is = end_new set.number (sets.holder_of set dest None g) set.ends f.0.below self in
        subst (λ (y : SetDone). IsHeld set.number y.set y.told) (sym ok.is) (requested_held set dest g is)

    held_by : (k : ℕ) → (0 < total (asked_by k) n.sessions) ⊎ (0 < one (nat_eq id k)) → IsHeld k d.set (n.set.untold ++ d.told)
    held_by k (inl before) = held_on set d n.set.untold k f.0.once (connects_leaves set set.user dest now) (f.0.held k before)
    held_by k (inr some) = here (number_test id k)
      where
        here : (id ≡ k) ⊎ (nat_eq id k ≡ false) → IsHeld k d.set (n.set.untold ++ d.told)
        here (inl same) = subst (λ j. IsHeld j d.set (n.set.untold ++ d.told)) (sym ok.number ∙ same) (behind its)
          where
            behind : IsHeld set.number d.set d.told → IsHeld set.number d.set (n.set.untold ++ d.told)
            behind (inl held) = inl held
            behind (inr gone) = inr (omega (arith, gone, gones_both set.number n.set.untold d.told))
        here (inr other) = let none = ap one other in absurd (omega (arith, some, none))

    by_number : (k : ℕ) → (id ≡ k) ⊎ (nat_eq id k ≡ false) → total (owned_by k) ss + mades k (n.set.untold ++ d.told) ≤ 1
    by_number k (inl same) = let before = f.0.fresh k (omega (arith, same, ok.number)) in omega (arith, before, owned k, told k, most (nat_eq id k))
    by_number k (inr other) = let none = ap one other in omega (arith, f.0.few k, owned k, told k, none)

    gone : (k : ℕ) → (id ≡ k) ⊎ (nat_eq id k ≡ false) → d.set.number ≤ k → one (nat_eq id k) ≡ 0
    gone k (inl same) high = absurd (omega (arith, same, high, made.number, ok.number))
    gone k (inr other) high = ap one other

    opened : (k : ℕ) → (0 < total (opens_by k) n.sessions + mades k n.set.untold) ⊎ (0 < one (nat_eq id k)) → AreOpen k d.set.ends
    opened k (inl before) = keeps.unshut k tt (f.0.unshut k before)
    opened k (inr some) = here (number_test id k)
      where
        here : (id ≡ k) ⊎ (nat_eq id k ≡ false) → AreOpen k d.set.ends
        here (inl same) = keeps.unshut k tt (none_closing set.number k set.ends f.0.below (omega (arith, same, ok.number)))
        here (inr other) = let none = ap one other in absurd (omega (arith, some, none))

tried_sound : (id : ℕ) (dest : Callsign) (x : Session) → Idle x → Sound x → Sound (asking.tries id dest x)
tried_sound id dest x i s =
    let none = ap (λ (rs : List Reply). length rs) i.replies in
    record { writes = tt; rest = s.rest; replies = omega (arith, none) }

asked_fine : (dest : Callsign) (now id nth : ℕ) (n : State) (x : Session) → IsCall dest → Fine n → session_at nth n ≡ Some x → Idle x → Accepted dest now id n.set.set
    → Fine (at_set (circuits.acts (sets.Connect dest now)) (at_session nth (asking.tries id dest) n))
unfolding circuits.acts
asked_fine dest now id nth n x call f e i ok =
    let set : SetState = (set_step n.set.set (sets.Connect dest now)).set in
    let on = goes_on Any n.set.set set n.set.untold n.sessions (connects_keeps n.set.set n.set.set.user dest now call) (connects_wrote n.set.set n.set.set.user dest now) f in
    let new : WroteAt set id [] [] = subst (λ k. WroteAt set k [] []) (sym ok.number) (subst (λ (d : SetDone). WroteAt d.set n.set.set.number [] []) (sym ok.is) (asked_wrote n.set.set dest now f.0.below)) in (
      tried_owns dest now id nth n x call f e i ok,
      (
        changed_every Sound (asking.tries id dest) n.sessions nth (slice_get n.sessions nth)
            (λ z k. let same : Some x ≡ Some z = sym e ∙ k in let is : x ≡ z = cc same in tried_sound id dest z (subst Idle is i) (every_at Sound n.sessions nth z on.0 k)) on.0,
        (
          changed_every (Given set) (asking.tries id dest) n.sessions nth (slice_get n.sessions nth) (λ z k. given_tries set id dest z (every_at (Given set) n.sessions nth z on.1.0 k)) on.1.0,
          changed_every (Written set) (asking.tries id dest) n.sessions nth (slice_get n.sessions nth) (λ z k. written_tries set id dest z new) on.1.1,
        ),
      ),
    )

pub tried : (now nth : ℕ) (dest : Callsign) (r : Result ℕ ConnectRefusal) (n : State) (x : Session) → IsCall dest → connect_answer (next_hop n) dest n.set.set ≡ r → Fine n → session_at nth n ≡ Some x → Idle x
    → Fine (asking.try_by now nth dest r n)
tried now nth dest (Ok id) n x call q f e i =
    let a : State = at_session nth (asking.tries id dest) n in
    let b : State = users.acts now (sets.Connect dest now) a in
    let fine = asked_fine dest now id nth n x call f e i (accepted (next_hop n) dest now id n.set.set q) in
    said now nth (texts.trying (bridging.prompt_of n) dest).items b (pumped now (at_set (circuits.acts (sets.Connect dest now)) a) fine)
tried now nth dest (Err why) n x call q f e i = said now nth (texts.refused (bridging.prompt_of n) dest (asking.trouble_of why)).items n f
