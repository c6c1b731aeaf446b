-- The router is asked again until something is told.
use Rattle.std.specs.Prelude.{◌≡◌, ℕ, ◌+◌, ◌<◌, Bool, true, false, if◌then◌else◌, List, [], ◌∷◌, ◌++◌, drop, length, map, Option, Some, None, is_some, Result, Ok, Err, refl}
use Rattle.std.proofs.Common.{sym, ◌∙◌, ap, subst, arith}
use Rattle.std.proofs.lemmas.List.{append-nil, append_assoc}
use Rattle.ax_address.specs.Callsign.{Callsign}
use Rattle.route_table.specs.Log.{Item}
use Rattle.route_table.specs.Held.{StandsFor}
use Rattle.route_table.specs.Table.{next_hop}
use Rattle.route_table.specs.declared.route.RouteRules.{RouteRules}
use Rattle.l3_datagram.specs.declared.carrier.Offered.{Offered}
use Rattle.l3_datagram.specs.declared.carrier.Offered.TheVariants as offered
use Rattle.l3_datagram.specs.declared.datagram.DatagramHead.{DatagramHead}
use Rattle.l3_datagram.specs.declared.datagram.DatagramRefusal.{DatagramRefusal}
use Rattle.l3_datagram.specs.declared.routed.Routed.{Routed}
use Rattle.l3_datagram.specs.declared.routed.Routed.TheVariants as routed
use Rattle.l3_datagram.specs.Datagrams.{CarrierCall, Parcel, head_at}
use Rattle.l3_datagram.specs.Routers.{Way, Ends, ToNeighbour, forwarded_by, way, SameRouter, waiting_left}
use Rattle.circuit_table.specs.declared.event.SetEvent.{SetEvent}
use Rattle.circuit_table.specs.Sets.{SetState, CircuitTold, Made, Sent, Heeded, Notice, Gone, Restarted, Lost}
use Rattle.circuit_table.specs.Pumps.{Pumped, Turn, Turned, Waiting, after_calls, asks, at_rest, ends_with, heard_as, hears, hears_by, is_drained, outcome, sent_by_head, sent_to, takes, takes_all, tells, tells_first, turn_step}
use Rattle.circuit_table.specs.Standing.{Rests}
use Rattle.circuit_table.specs.CircuitSets.{Circuits, DoesPump, SetStands, untold_by}
use Rattle.circuit_table.specs.SetTurns.{Asks, AsksOnce, IsAsked, Onward, SoFar, asks_once}

-- what comes up gives the log nothing
pub heard_items : (now : ℕ) (w : Waiting) (r : Routed) → (heard_as now w r).items ≡ []
heard_items now w (routed.Mine origin d) = refl
heard_items now w routed.Forwarded = refl
heard_items now w (routed.Lost call) = refl
heard_items now w routed.Expired = refl
heard_items now w routed.NoRoute = refl
heard_items now w routed.Returned = refl
heard_items now w routed.Dropped = refl
heard_items now w routed.Bad = refl

-- ---- a turn that tells nothing ----
module _ (nh : Callsign → Option Callsign) where
  abbrev Speaks : Turn → Offered → Type 0
  Speaks t answer = (outcome t answer).told ≡ None → ⊥

  sent_speaks : (s : SetState) (t : CircuitTold) (d : List ℕ) (rest : List CircuitTold) (o : Option Callsign) (answer : Offered) → Speaks (sent_to nh s t d rest o) answer
  sent_speaks s t d rest None answer = λ e. cc e
  sent_speaks s t d rest (Some hop) answer = λ e. cc e

  head_speaks : (s : SetState) (t : CircuitTold) (d : List ℕ) (rest : List CircuitTold) (r : Result DatagramHead DatagramRefusal) (answer : Offered) → Speaks (sent_by_head nh s t d rest r) answer
  head_speaks s t d rest (Err e) answer = sent_speaks s t d rest None answer
  head_speaks s t d rest (Ok head) answer = sent_speaks s t d rest (nh head.dest) answer

  first_speaks : (s : SetState) (t : CircuitTold) (rest : List CircuitTold) (answer : Offered) → Speaks (tells_first nh s t rest) answer
  first_speaks s (Sent id number d) rest answer = head_speaks s (Sent id number d) d rest (head_at d) answer
  first_speaks s (Made id pair partner request) rest answer = λ e. cc e
  first_speaks s (Heeded id d) rest answer = λ e. cc e
  first_speaks s (Notice id notice) rest answer = λ e. cc e
  first_speaks s (Gone id facts) rest answer = λ e. cc e
  first_speaks s (Restarted pair) rest answer = λ e. cc e
  first_speaks s (Lost id facts) rest answer = λ e. cc e

  turn_speaks : (s : SetState) (ts : List CircuitTold) (o : Option Routed) (answer : Offered) → is_drained (record { set = s; untold = ts; lost = o }) ≡ false → Speaks (tells nh (record { set = s; untold = ts; lost = o })) answer
  turn_speaks s ts (Some r) answer e = λ f. cc f
  turn_speaks s [] None answer e = absurd (cc e)
  turn_speaks s (t ∷ ts) None answer e = first_speaks s t ts answer

  -- what a turn of the router comes to where nothing is told
  pub record Silent (q : Pumped) : Type 0 where
    pub after : q.after ≡ at_rest q.after.set
    pub items : q.items ≡ []

  drained_is : (s : SetState) (ts : List CircuitTold) (o : Option Routed) → is_drained (record { set = s; untold = ts; lost = o }) ≡ true → record { set = s; untold = ts; lost = o } ≡ at_rest s
  drained_is s ts (Some r) e = absurd (cc e)
  drained_is s [] None e = refl
  drained_is s (t ∷ ts) None e = absurd (cc e)

  quiet_case : (now : ℕ) (u : Turned) (answer : Offered) (b : Bool) → is_drained u.after ≡ b → u.told ≡ None → u.items ≡ [] → (if b then ends_with [] u else turn_step now (tells nh u.after) answer).told ≡ None
      → Silent (if b then ends_with [] u else turn_step now (tells nh u.after) answer)
  quiet_case now u answer true d n i e = record { after = drained_is u.after.set u.after.untold u.after.lost d; items = i }
  quiet_case now u answer false d n i e = absurd (turn_speaks u.after.set u.after.untold u.after.lost answer d e)

  on_case : (now : ℕ) (u : Turned) (answer : Offered) (o : Option _) → u.told ≡ o → u.items ≡ []
      → (elim o as (λ x. Pumped) [ Some told ↦ ends_with [] u | None ↦ (if is_drained u.after then ends_with [] u else turn_step now (tells nh u.after) answer) ]).told ≡ None
      → Silent (elim o as (λ x. Pumped) [ Some told ↦ ends_with [] u | None ↦ (if is_drained u.after then ends_with [] u else turn_step now (tells nh u.after) answer) ])
  on_case now u answer (Some told) f i e = let z : Some told ≡ None = sym f ∙ e in absurd (cc z)
  on_case now u answer None f i e = quiet_case now u answer (is_drained u.after) refl f i e

  way_items : (now : ℕ) (w : Waiting) (x : Way) (answer : Offered) → (outcome (hears_by now w x) answer).items ≡ []
  way_items now w (Ends told) answer = heard_items now w told
  way_items now w (ToNeighbour neighbour d) answer = heard_items now w (forwarded_by answer)

  pub silent_takes : (now : ℕ) (s : SetState) (p : Parcel) (answer : Offered) → (takes nh now s p answer).told ≡ None → Silent (takes nh now s p answer)
  silent_takes now s p answer e =
      let u : Turned = outcome (hears nh now p (at_rest s)) answer in
      let q = on_case now u answer u.told refl (way_items now (at_rest s) (way s.own nh p.1) answer) e in
      record { after = q.after; items = q.items }

  -- one parcel more
  all_none : (now : ℕ) (k : Pumped) (o : Option _) → k.told ≡ o → o ≡ None → (ps : List (Parcel × Offered))
      → (elim o as (λ x. Pumped) [ Some told ↦ k | None ↦ after_calls k.calls (takes_all nh now k.after.set ps) ]) ≡ after_calls k.calls (takes_all nh now k.after.set ps)
  all_none now k (Some told) f e ps = absurd (cc e)
  all_none now k None f e ps = refl

  pub goes_past : (now : ℕ) (s : SetState) (p : Parcel) (answer : Offered) (ps : List (Parcel × Offered)) → (takes nh now s p answer).told ≡ None
      → takes_all nh now s ((p, answer) ∷ ps) ≡ after_calls (takes nh now s p answer).calls (takes_all nh now (takes nh now s p answer).after.set ps)
  goes_past now s p answer ps e = let k : Pumped = takes nh now s p answer in all_none now k k.told refl e ps

  all_some : (now : ℕ) (k : Pumped) (o : Option _) → k.told ≡ o → (is_some o ≡ true) → (ps : List (Parcel × Offered))
      → k ≡ (elim o as (λ x. Pumped) [ Some told ↦ k | None ↦ after_calls k.calls (takes_all nh now k.after.set ps) ])
  all_some now k (Some told) f e ps = refl
  all_some now k None f e ps = absurd (cc e)

  pub stops_at : (now : ℕ) (s : SetState) (p : Parcel) (answer : Offered) (ps : List (Parcel × Offered)) → is_some (takes nh now s p answer).told ≡ true
      → takes nh now s p answer ≡ takes_all nh now s ((p, answer) ∷ ps)
  stops_at now s p answer ps e = let k : Pumped = takes nh now s p answer in all_some now k k.told refl e ps

-- ---- lists of parcels ----
abbrev firsts : List (Parcel × Offered) → List Parcel
firsts ps = map (λ p. p.0) ps

abbrev pub all_taken : List Parcel → List (Parcel × Offered)
all_taken [] = []
all_taken (p ∷ ps) = (p, offered.Taken) ∷ all_taken ps

abbrev pub answered : List Parcel → Offered → List (Parcel × Offered)
answered [] answer = []
answered (p ∷ ps) answer = (p, answer) ∷ all_taken ps

pub firsts-taken : (ps : List Parcel) → firsts (all_taken ps) ≡ ps
firsts-taken [] = refl
firsts-taken (p ∷ ps) = ap (λ xs. p ∷ xs) (firsts-taken ps)

firsts-answered : (ps : List Parcel) (answer : Offered) → firsts (answered ps answer) ≡ ps
firsts-answered [] answer = refl
firsts-answered (p ∷ ps) answer = ap (λ xs. p ∷ xs) (firsts-taken ps)

firsts-append : (xs ys : List (Parcel × Offered)) → firsts (xs ++ ys) ≡ firsts xs ++ firsts ys
firsts-append [] ys = refl
firsts-append (x ∷ xs) ys = ap (λ zs. x.0 ∷ zs) (firsts-append xs ys)

after_both : (xs ys : List CarrierCall) (q : Pumped) → after_calls xs (after_calls ys q) ≡ after_calls (xs ++ ys) q
after_both xs ys q = ap (λ (cs : List CarrierCall). (let p : Pumped = record { told = q.told; after = q.after; calls = cs; items = q.items } in p)) (sym (append_assoc xs ys q.calls))

module _ {C : Type 0} (made : C → List CarrierCall → C → Type 0) (none_made : (c : C) → made c [] c)
    (more_made : (a b c : C) (calls more : List CarrierCall) → made a calls b → made b more c → made a (calls ++ more) c) (lost : C → List Callsign) (waiting : C → List Parcel) where
  abbrev So : Circuits C → Circuits C → ℕ → Type 0
  So old mid now = SoFar made lost waiting old mid now

  pub begins : (old : Circuits C) (now : ℕ) → Rests old.held.ends.entries → old.lost ≡ None → So old old now
  begins old now rests told = record {
    done = [];
    taken = refl;
    lost_stay = refl;
    onward = λ log s stands st. record { state = s; calls = []; stands = st; table = stands; called = none_made old.router.carrier; goes = λ rest. refl };
    rests = rests;
    told = told;
    router = record { own = refl; ttl = refl; node = record { own = refl; rules = refl } };
    spent = refl;
    less = omega arith;
  }

  same_router : (a b c : Circuits C) → SameRouter a.router b.router → SameRouter b.router c.router → SameRouter a.router c.router
  same_router a b c x y = record { own = y.own ∙ x.own; ttl = y.ttl ∙ x.ttl; node = record { own = y.node.own ∙ x.node.own; rules = y.node.rules ∙ x.node.rules } }

  module _ (old mid : Circuits C) (now : ℕ) (so : So old mid now) where
    -- the call goes on from here, to what it comes to from here
    ends : (new : Circuits C) (log : List Item) (s : SetState) (e : Option SetEvent) (rest : List (Parcel × Offered)) (o : Onward made old mid log now s (lost old.router.carrier) so.done)
        → DoesPump made mid new log e (asks (next_hop mid.router.table.rules log) now o.state (lost mid.router.carrier) rest)
        → DoesPump made old new log e (asks (next_hop old.router.table.rules log) now s (lost old.router.carrier) (so.done ++ rest))
    ends new log s e rest o x =
        let y : DoesPump made mid new log e (asks (next_hop old.router.table.rules log) now o.state (lost mid.router.carrier) rest) =
        subst (λ (rules : RouteRules). DoesPump made mid new log e (asks (next_hop rules log) now o.state (lost mid.router.carrier) rest)) so.router.node.rules x in
        let z : DoesPump made mid new log e (asks (next_hop old.router.table.rules log) now o.state (lost old.router.carrier) rest) =
        subst (λ (l : List Callsign). DoesPump made mid new log e (asks (next_hop old.router.table.rules log) now o.state l rest)) so.lost_stay y in
        let q : Pumped = asks (next_hop old.router.table.rules log) now o.state (lost old.router.carrier) rest in
        let all : DoesPump made old new log e (after_calls o.calls q) = record {
          told = z.told;
          calls = more_made old.router.carrier mid.router.carrier new.router.carrier o.calls q.calls o.called z.calls;
          table = z.table;
          stands = z.stands;
        } in
        subst (λ (r : Pumped). DoesPump made old new log e r) (sym (o.goes rest)) all

    -- something is told
    heard_case : (new : Circuits C) (log : List Item) (t : SetState) (nh : Callsign → Option Callsign) (e : SetEvent) (a : Offered) (ls : List Callsign) (ws : List Parcel) → 0 < length ls + length ws
        → DoesPump made mid new log (Some e) (asks_once nh now t ls ws a) → DoesPump made mid new log (Some e) (asks nh now t ls (answered ws a))
    heard_case new log t nh e a (n ∷ ls) ws some x = x
    heard_case new log t nh e a [] [] some x = absurd (omega arith)
    heard_case new log t nh e a [] (p ∷ ps) some x =
        let told : is_some (takes nh now t p a).told ≡ true = ap is_some (sym x.told) in
        subst (λ (q : Pumped). DoesPump made mid new log (Some e) q) (stops_at nh now t p a (all_taken ps) told) x

    pub tells_it : (new : Circuits C) (told : Option SetEvent) (asked : Bool) → is_some told ≡ true → AsksOnce made mid new (lost mid.router.carrier) (waiting mid.router.carrier) now told
        → IsAsked (lost mid.router.carrier) (waiting mid.router.carrier) told asked → Asks made old new (lost old.router.carrier) (waiting old.router.carrier) now told
    tells_it new None asked is x some = absurd (cc is)
    tells_it new (Some e) asked is x some =
        let rest : List (Parcel × Offered) = answered (waiting mid.router.carrier) x.0 in
        let all : firsts (so.done ++ rest) ≡ waiting old.router.carrier = firsts-append so.done rest ∙ ap (λ ps. firsts so.done ++ ps) (firsts-answered (waiting mid.router.carrier) x.0) ∙ sym so.taken in (
          so.done ++ rest,
          all,
          λ log s stands st.
              let o = so.onward log s stands st in
              ends new log s (Some e) rest o (heard_case new log o.state (next_hop mid.router.table.rules log) e x.0 (lost mid.router.carrier) (waiting mid.router.carrier) some (x.1 log o.state o.table o.stands)),
        )

    -- nothing is left
    idle_case : (new : Circuits C) (log : List Item) (t : SetState) (nh : Callsign → Option Callsign) (a : Offered) (ls : List Callsign) (ws : List Parcel) → ls ≡ [] → ws ≡ []
        → DoesPump made mid new log None (asks_once nh now t ls ws a) → DoesPump made mid new log None (asks nh now t ls [])
    idle_case new log t nh a (n ∷ ls) ws e f x = absurd (cc e)
    idle_case new log t nh a [] (p ∷ ps) e f x = absurd (cc f)
    idle_case new log t nh a [] [] e f x = x

    pub idles : (new : Circuits C) (told : Option SetEvent) → told ≡ None → AsksOnce made mid new (lost mid.router.carrier) (waiting mid.router.carrier) now told
        → IsAsked (lost mid.router.carrier) (waiting mid.router.carrier) told false → Asks made old new (lost old.router.carrier) (waiting old.router.carrier) now told
    idles new (Some e) is x none = absurd (cc is)
    idles new None is x none =
        let all : firsts (so.done ++ []) ≡ waiting old.router.carrier = firsts-append so.done [] ∙ ap (λ ps. firsts so.done ++ ps) (sym none.1) ∙ sym so.taken in (
          so.done ++ [],
          all,
          λ log s stands st.
              let o = so.onward log s stands st in
              ends new log s None [] o (idle_case new log o.state (next_hop mid.router.table.rules log) x.0 (lost mid.router.carrier) (waiting mid.router.carrier) none.0 none.1 (x.1 log o.state o.table o.stands)),
        )

    -- a parcel was taken, and nothing told
    on_parcel : (new : Circuits C) (log : List Item) (s : SetState) (p : Parcel) (a : Offered) (o : Onward made old mid log now s (lost old.router.carrier) so.done) → lost old.router.carrier ≡ []
        → DoesPump made mid new log None (takes (next_hop old.router.table.rules log) now o.state p a) → Onward made old new log now s (lost old.router.carrier) (so.done ++ (p, a) ∷ [])
    on_parcel new log s p a o none x =
        let nh = next_hop old.router.table.rules log in
        let k : Pumped = takes nh now o.state p a in
        let q = silent_takes nh now o.state p a (sym x.told) in
        record {
          state = k.after.set;
          calls = o.calls ++ k.calls;
          stands = subst (λ (w : Waiting). SetStands new w) q.after x.stands;
          table = subst (λ (l : List Item). StandsFor new.router.table l) (ap (λ is. log ++ is) q.items ∙ append-nil log) x.table;
          called = more_made old.router.carrier mid.router.carrier new.router.carrier o.calls k.calls o.called x.calls;
          goes = λ rest.
              let first : asks nh now s (lost old.router.carrier) ((so.done ++ (p, a) ∷ []) ++ rest) ≡ asks nh now s (lost old.router.carrier) (so.done ++ (p, a) ∷ rest) = ap (λ ps. asks nh now s (lost old.router.carrier) ps) (append_assoc so.done ((p, a) ∷ []) rest) in
              let on : asks nh now o.state (lost old.router.carrier) ((p, a) ∷ rest) ≡ asks nh now o.state [] ((p, a) ∷ rest) = ap (λ ls. asks nh now o.state ls ((p, a) ∷ rest)) none in
              let back : asks nh now k.after.set [] rest ≡ asks nh now k.after.set (lost old.router.carrier) rest = ap (λ ls. asks nh now k.after.set ls rest) (sym none) in
              first ∙ o.goes ((p, a) ∷ rest) ∙ ap (after_calls o.calls) (on ∙ goes_past nh now o.state p a rest (sym x.told) ∙ ap (after_calls k.calls) back) ∙ after_both o.calls k.calls (asks nh now k.after.set (lost old.router.carrier) rest);
        }

    goes_case : (new : Circuits C) (a : Offered) (ls : List Callsign) (ws : List Parcel) → lost mid.router.carrier ≡ ls → waiting mid.router.carrier ≡ ws → ls ≡ [] → 0 < length ws
        → ((log : List Item) (t : SetState) → StandsFor mid.router.table log → SetStands mid (at_rest t) → DoesPump made mid new log None (asks_once (next_hop mid.router.table.rules log) now t ls ws a))
        → lost new.router.carrier ≡ drop 1 ls → waiting new.router.carrier ≡ waiting_left ls ws → Rests new.held.ends.entries → new.lost ≡ None → SameRouter mid.router new.router → new.spent ≡ mid.spent
        → untold_by (lost new.router.carrier) (waiting new.router.carrier) new < untold_by (lost mid.router.carrier) (waiting mid.router.carrier) mid → So old new now
    goes_case new a (n ∷ ls) ws e f none some x l w rests told router spent less = absurd (cc none)
    goes_case new a [] [] e f none some x l w rests told router spent less = absurd (omega arith)
    goes_case new a [] (p ∷ ps) e f none some x l w rests told router spent less =
        let lost_none : lost old.router.carrier ≡ [] = sym so.lost_stay ∙ e in
        let before = so.less in
        record {
          done = so.done ++ (p, a) ∷ [];
          taken = so.taken ∙ ap (λ ws. firsts so.done ++ ws) f ∙ sym (append_assoc (firsts so.done) (p ∷ []) ps) ∙ ap (λ xs. xs ++ ps) (sym (firsts-append so.done ((p, a) ∷ []))) ∙ ap (λ ws. firsts (so.done ++ (p, a) ∷ []) ++ ws) (sym w);
          lost_stay = l ∙ sym lost_none;
          onward = λ log s stands st.
              let o = so.onward log s stands st in
              on_parcel new log s p a o lost_none (subst (λ (rules : RouteRules). DoesPump made mid new log None (takes (next_hop rules log) now o.state p a)) so.router.node.rules (x log o.state o.table o.stands));
          rests = rests;
          told = told;
          router = same_router old mid new so.router router;
          spent = spent ∙ so.spent;
          less = omega (arith, less, before);
        }

    pub goes_on : (new : Circuits C) (told : Option SetEvent) → told ≡ None → AsksOnce made mid new (lost mid.router.carrier) (waiting mid.router.carrier) now told → IsAsked (lost mid.router.carrier) (waiting mid.router.carrier) told true
        → lost new.router.carrier ≡ drop 1 (lost mid.router.carrier) → waiting new.router.carrier ≡ waiting_left (lost mid.router.carrier) (waiting mid.router.carrier)
        → Rests new.held.ends.entries → new.lost ≡ None → SameRouter mid.router new.router → new.spent ≡ mid.spent
        → untold_by (lost new.router.carrier) (waiting new.router.carrier) new < untold_by (lost mid.router.carrier) (waiting mid.router.carrier) mid → So old new now
    goes_on new (Some e) is x some l w rests told router spent less = absurd (cc is)
    goes_on new None is x some l w rests told router spent less = goes_case new x.0 (lost mid.router.carrier) (waiting mid.router.carrier) refl refl some.0 some.1 x.1 l w rests told router spent less
