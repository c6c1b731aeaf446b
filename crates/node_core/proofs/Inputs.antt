-- What the circuits of a node do by inputs: each of their calls is some, and none of these starts the node again.
use Rattle.std.proofs.Common.{◌≡◌, ◌∙◌, ℕ, refl, sym, ap, List, [], ◌∷◌, ◌++◌, append_assoc, append-nil}
use Rattle.std.specs.Prelude.{Bool, true, false, if◌then◌else◌, Option, Some, None}
use Rattle.std.specs.List.{AllByRecursion}
use Rattle.ax_address.specs.Callsign.{Callsign, IsCallsign}
use Rattle.circuit_table.specs.Givings.{IsUp}
use Rattle.circuit_table.specs.Pumps.{OfEach, of_circuits, runs, ticks_of, Dropped, Says, Turn, Turned, Waiting, heard_as, hears_by, tells_first, tells_of, with_done}
use Rattle.circuit_table.specs.Runs.{IsAct}
use Rattle.circuit_table.specs.Sets.{Act, Connect, ConnectFor, Comes, Calls, Discard, Restart, Ticks, Holder, SetState, CircuitTold, set_step}
use Rattle.circuit_table.proofs.ByInputs.{First, each_goes, tells_it}
use Rattle.l3_datagram.specs.Datagrams.{Parcel}
use Rattle.l3_datagram.specs.Routers.{Way, Ends, ToNeighbour, forwarded_by, way}
use Rattle.l3_datagram.specs.declared.routed.Routed.{Routed}
use Rattle.l3_datagram.specs.declared.routed.Routed.TheVariants as routed
use Rattle.node_model.specs.Links as circuits
use Rattle.node_core.specs.Runs.{write_in, writes_in}

-- ---- one input after another

pub set_of_both : (xs ys : List Act) (s : SetState) → (runs (xs ++ ys) s).set ≡ (runs ys (runs xs s).set).set
set_of_both [] ys s = refl
set_of_both (x ∷ xs) ys s = set_of_both xs ys (set_step s x).set

pub told_of_both : (xs ys : List Act) (s : SetState) → (runs (xs ++ ys) s).told ≡ (runs xs s).told ++ (runs ys (runs xs s).set).told
told_of_both [] ys s = refl
told_of_both (x ∷ xs) ys s =
    ap (λ (ts : List CircuitTold). (set_step s x).told ++ ts) (told_of_both xs ys (set_step s x).set)
    ∙ sym (append_assoc (set_step s x).told (runs xs (set_step s x).set).told (runs ys (runs xs (set_step s x).set).set).told)

-- an input of a node that runs: one that a run of sets may have, and that doesn't start the node again
abbrev pub IsInput : Act → Type 0
IsInput (Restart pair more) = ⊥
IsInput (Connect dest now) = IsCallsign dest.letters dest.ssid
IsInput (ConnectFor user dest now) = IsCallsign user.letters user.ssid × IsCallsign dest.letters dest.ssid
IsInput _ = Unit {0}

is_act : (a : Act) → IsInput a → IsAct a
is_act (Restart pair more) i = absurd i
is_act (Connect dest now) i = i
is_act (ConnectFor user dest now) i = i
is_act (Comes d now) i = tt
is_act (Calls id call now) i = tt
is_act (Discard id) i = tt

pub are_acts : (inputs : List Act) → AllByRecursion IsInput inputs → AllByRecursion IsAct inputs
are_acts [] is = tt
are_acts (a ∷ inputs) is = (is_act a is.0, are_acts inputs is.1)

is_up : (a : Act) → IsInput a → IsUp a
is_up (Restart pair more) i = absurd i
is_up (Connect dest now) i = tt
is_up (ConnectFor user dest now) i = tt
is_up (Comes d now) i = tt
is_up (Calls id call now) i = tt
is_up (Discard id) i = tt

pub are_up : (inputs : List Act) → AllByRecursion IsInput inputs → AllByRecursion IsUp inputs
are_up [] is = tt
are_up (a ∷ inputs) is = (is_up a is.0, are_up inputs is.1)

are_both : (xs ys : List Act) → AllByRecursion IsInput xs → AllByRecursion IsInput ys → AllByRecursion IsInput (xs ++ ys)
are_both [] ys p q = q
are_both (x ∷ xs) ys p q = (p.0, are_both xs ys p.1 q)

-- by some inputs the circuits went on; what was told and what is untold are what was untold and what they tell
pub record Went (written : List Act) (old new : Waiting) (told : List CircuitTold) : Type 0 where
  pub inputs : List Act
  pub are : AllByRecursion IsInput inputs
  pub writes : writes_in inputs ≡ written
  pub set : new.set ≡ (runs inputs old.set).set
  pub given : told ++ new.untold ≡ old.untold ++ (runs inputs old.set).told

pub writes_both : (xs ys : List Act) → writes_in (xs ++ ys) ≡ writes_in xs ++ writes_in ys
writes_both [] ys = refl
writes_both (x ∷ xs) ys = ap (λ (us : List Act). write_in x ++ us) (writes_both xs ys) ∙ sym (append_assoc (write_in x) (writes_in xs) (writes_in ys))

-- it is told otherwise
pub retold : (written : List Act) (w v : Waiting) (told ts : List CircuitTold) → told ≡ ts → Went written w v told → Went written w v ts
retold written w v told ts e g = record { inputs = g.inputs; are = g.are; writes = g.writes; set = g.set; given = ap (λ (us : List CircuitTold). us ++ v.untold) (sym e) ∙ g.given }

pub stays : (w : Waiting) → Went [] w w []
stays w = record { inputs = []; are = tt; writes = refl; set = refl; given = sym (append-nil w.untold) }

pub goes_on : (ws vs : List Act) (a b c : Waiting) (first next : List CircuitTold) → Went ws a b first → Went vs b c next → Went (ws ++ vs) a c (first ++ next)
goes_on ws vs a b c first next g h = record {
  inputs = g.inputs ++ h.inputs;
  are = are_both g.inputs h.inputs g.are h.are;
  writes = writes_both g.inputs h.inputs ∙ ap (λ (us : List Act). us ++ writes_in h.inputs) g.writes ∙ ap (λ (us : List Act). ws ++ us) h.writes;
  set = h.set ∙ (ap (λ (s : SetState). (runs h.inputs s).set) g.set ∙ sym (set_of_both g.inputs h.inputs a.set));
  given =
      append_assoc first next c.untold
      ∙ (ap (λ (ts : List CircuitTold). first ++ ts) h.given
      ∙ (sym (append_assoc first b.untold (runs h.inputs b.set).told)
      ∙ (ap (λ (ts : List CircuitTold). ts ++ (runs h.inputs b.set).told) g.given
      ∙ (append_assoc a.untold (runs g.inputs a.set).told (runs h.inputs b.set).told
      ∙ (ap (λ (s : SetState). a.untold ++ ((runs g.inputs a.set).told ++ (runs h.inputs s).told)) g.set
      ∙ ap (λ (ts : List CircuitTold). a.untold ++ ts) (sym (told_of_both g.inputs h.inputs a.set)))))));
}

-- ---- the calls

by_one : (a : Act) (w : Waiting) → IsInput a → Went (write_in a) w (with_done w (set_step w.set a)) []
by_one a w i = record { inputs = a ∷ []; are = (i, tt); writes = append-nil (write_in a); set = refl; given = ap (λ (ts : List CircuitTold). w.untold ++ ts) (sym (append-nil (set_step w.set a).told)) }

pub act_went : (a : Act) (w : Waiting) → IsInput a → Went (write_in a) w (circuits.acts a w) []
unfolding circuits.acts
act_went a w i = by_one a w i

ticks_by : (now : ℕ) (h : Holder) (hs : List Holder) (b : Bool) → AllByRecursion IsInput (ticks_of now hs)
    → AllByRecursion IsInput (if b then ticks_of now hs else Calls h.id Ticks now ∷ ticks_of now hs)
ticks_by now h hs true is = is
ticks_by now h hs false is = (tt, is)

ticks_are : (now : ℕ) (hs : List Holder) → AllByRecursion IsInput (ticks_of now hs)
ticks_are now [] = tt
ticks_are now (h ∷ hs) = ticks_by now h hs h.gone (ticks_are now hs)

ticks_if : (now : ℕ) (h : Holder) (hs : List Holder) (b : Bool) → writes_in (ticks_of now hs) ≡ [] → writes_in (if b then ticks_of now hs else Calls h.id Ticks now ∷ ticks_of now hs) ≡ []
ticks_if now h hs true e = e
ticks_if now h hs false e = e

ticks_write : (now : ℕ) (hs : List Holder) → writes_in (ticks_of now hs) ≡ []
ticks_write now [] = refl
ticks_write now (h ∷ hs) = ticks_if now h hs h.gone (ticks_write now hs)

pub ticks_went : (now : ℕ) (w : Waiting) → Went [] w (circuits.ticks now w) []
unfolding circuits.ticks
ticks_went now w = record { inputs = ticks_of now w.set.ends; are = ticks_are now w.set.ends; writes = ticks_write now w.set.ends; set = refl; given = refl }

-- no input: what was told was untold before
by_none : (w v : Waiting) (told : List CircuitTold) → v.set ≡ w.set → told ++ v.untold ≡ w.untold → Went [] w v told
by_none w v told s e = record { inputs = []; are = tt; writes = refl; set = s; given = e ∙ sym (append-nil w.untold) }

abbrev pub TurnWent : Waiting → Turned → Type 0
TurnWent w t = Went [] w t.after (of_circuits t.told)

pub lost_went : (neighbour : Callsign) (w : Waiting) → TurnWent w (circuits.hears_lost neighbour w)
unfolding circuits.hears_lost
lost_went neighbour w = by_none w w [] refl refl

heard_went : (now : ℕ) (w : Waiting) (r : Routed) → TurnWent w (heard_as now w r)
heard_went now w (routed.Mine origin d) = by_one (Comes d.items now) w tt
heard_went now w routed.Forwarded = by_none w w [] refl refl
heard_went now w (routed.Lost call) = by_none w w [] refl refl
heard_went now w routed.Expired = by_none w w [] refl refl
heard_went now w routed.NoRoute = by_none w w [] refl refl
heard_went now w routed.Returned = by_none w w [] refl refl
heard_went now w routed.Dropped = by_none w w [] refl refl
heard_went now w routed.Bad = by_none w w [] refl refl

by_way : (now : ℕ) (w : Waiting) (x : Way) → OfEach (TurnWent w) (hears_by now w x)
by_way now w (Ends told) = heard_went now w told
by_way now w (ToNeighbour neighbour d) = λ answer. heard_went now w (forwarded_by answer)

pub hears_went : (next_hop : Callsign → Option Callsign) (now : ℕ) (parcel : Parcel) (w : Waiting) → OfEach (TurnWent w) (circuits.hears next_hop now parcel w)
unfolding circuits.hears
hears_went next_hop now parcel w = by_way now w (way w.set.own next_hop parcel.1)

-- ---- what is untold is told

first_went : (w : Waiting) (t : CircuitTold) (rest : List CircuitTold) (u : Turned) → w.untold ≡ t ∷ rest → First w.set t rest u → TurnWent w u
first_went w t rest u e f = by_none w u.after (of_circuits u.told) f.0 (ap (λ ts. ts ++ u.after.untold) f.2 ∙ ap (λ ts. t ∷ ts) f.1 ∙ sym e)

tells_untold : (next_hop : Callsign → Option Callsign) (w : Waiting) (ts : List CircuitTold) → w.untold ≡ ts → OfEach (TurnWent w) (tells_of next_hop w.set ts)
tells_untold next_hop w [] e = by_none w _ [] refl (sym e)
tells_untold next_hop w (t ∷ rest) e = each_goes (First w.set t rest) (TurnWent w) (λ u f. first_went w t rest u e f) (tells_first next_hop w.set t rest) (tells_it next_hop w.set t rest)

tells_by : (next_hop : Callsign → Option Callsign) (w : Waiting) (o : Option Routed) → OfEach (TurnWent w) (elim o as (λ x. Turn) [
  | Some r ↦ Says (record { told = Some (Dropped r); after = record { set = w.set; untold = w.untold; lost = None }; items = [] })
  | None ↦ tells_of next_hop w.set w.untold
])
tells_by next_hop w (Some r) = by_none w _ [] refl refl
tells_by next_hop w None = tells_untold next_hop w w.untold refl

pub tells_went : (next_hop : Callsign → Option Callsign) (w : Waiting) → OfEach (TurnWent w) (circuits.tells next_hop w)
unfolding circuits.tells
tells_went next_hop w = tells_by next_hop w w.lost
