-- The router is asked once, and again until something is told.
use Rattle.std.specs.Prelude.{◌≡◌, ℕ, List, [], ◌∷◌, ◌++◌, Option, Some, None, refl}
use Rattle.std.proofs.Common.{sym, ◌∙◌, ap, subst}
use Rattle.std.proofs.lemmas.List.{append-nil}
use Rattle.ax_address.specs.Callsign.{Callsign}
use Rattle.route_table.specs.Log.{Item, Failure}
use Rattle.route_table.specs.Held.{StandsFor}
use Rattle.route_table.specs.Table.{next_hop}
use Rattle.route_table.specs.declared.route.RouteRules.{RouteRules}
use Rattle.l3_datagram.specs.declared.carrier.Offered.{Offered}
use Rattle.l3_datagram.specs.declared.carrier.Offered.TheVariants as offered
use Rattle.l3_datagram.specs.declared.routed.Routed.{Routed}
use Rattle.l3_datagram.specs.declared.routed.Routed.TheVariants as routed
use Rattle.l3_datagram.specs.Datagrams.{CarrierCall, Collect, Fail, Parcel}
use Rattle.l3_datagram.specs.Routers.{Way, Ends, ToNeighbour, forwarded_by, offers_of, pumping, routed_by, way, NoneWhereEmpty, Routing, SameRouter, waiting_left}
use Rattle.l3_datagram.specs.Routers as routers
use Rattle.circuit_table.specs.declared.event.SetEvent.{SetEvent}
use Rattle.circuit_table.specs.Sets.{SetState}
use Rattle.circuit_table.specs.Pumps.{Pumped, Turn, Turned, after_calls, at_rest, ends_with, heard_as, hears_by, hears_lost, offer_of, outcome, speaks, takes, tells_on}
use Rattle.circuit_table.specs.Pumps.{Lost}
use Rattle.circuit_table.specs.CircuitSets.{Circuits, DoesPump, SetStands}
use Rattle.circuit_table.specs.SetTurns.{asks_once}

-- the answer to what was offered: by the router, but where a datagram was for this node
abbrev pub pick : Routed → Offered → Offered → Offered
pick (routed.Mine origin d) router mine = mine
pick _ router mine = router

module _ (nh : Callsign → Option Callsign) (now : ℕ) (s : SetState) where
  -- the answer doesn't count where nothing is offered
  picked : (r : Routed) (a b : Offered) → tells_on nh now (heard_as now (at_rest s) r) b ≡ tells_on nh now (heard_as now (at_rest s) r) (pick r a b)
  picked (routed.Mine origin d) a b = refl
  picked routed.Forwarded a b = refl
  picked (routed.Lost call) a b = refl
  picked routed.Expired a b = refl
  picked routed.NoRoute a b = refl
  picked routed.Returned a b = refl
  picked routed.Dropped a b = refl
  picked routed.Bad a b = refl

  forwards : (r : Routed) (a b : Offered) → r ≡ forwarded_by a → pick r a b ≡ a
  forwards r offered.Taken b e = ap (λ x. pick x offered.Taken b) e
  forwards r offered.Dropped b e = ap (λ x. pick x offered.Dropped b) e

  way_offers : (w : Way) (r : Routed) (a b : Offered) → r ≡ routed_by w a → offer_of (hears_by now (at_rest s) w) now (pick r a b) ≡ offers_of w now a
  way_offers (Ends told) r a b e = refl
  way_offers (ToNeighbour neighbour d) r a b e = ap (λ x. routers_offer x) (forwards r a b e)
    where
      routers_offer : Offered → List CarrierCall
      routers_offer x = offers_of (ToNeighbour neighbour d) now x

  way_outcome : (w : Way) (r : Routed) (a b : Offered) → r ≡ routed_by w a → outcome (hears_by now (at_rest s) w) (pick r a b) ≡ heard_as now (at_rest s) r
  way_outcome (Ends told) r a b e = ap (λ x. heard_as now (at_rest s) x) (sym e)
  way_outcome (ToNeighbour neighbour d) r a b e = ap (λ x. heard_as now (at_rest s) (forwarded_by x)) (forwards r a b e) ∙ ap (λ x. heard_as now (at_rest s) x) (sym e)

  -- a datagram is taken, and what it brings is told
  takes_by : (p : Parcel) (r : Routed) (a b : Offered) → r ≡ routed_by (way s.own nh p.1) a
      → after_calls (Fail None ∷ Collect (Some p) ∷ offers_of (way s.own nh p.1) now a) (tells_on nh now (heard_as now (at_rest s) r) b) ≡ takes nh now s p (pick r a b)
  takes_by p r a b e =
      let w : Way = way s.own nh p.1 in
      let t : Turn = hears_by now (at_rest s) w in
      ap (λ (os : List CarrierCall). after_calls (Fail None ∷ Collect (Some p) ∷ os) (tells_on nh now (heard_as now (at_rest s) r) b)) (sym (way_offers w r a b e))
      ∙ ap (λ (q : Pumped). after_calls (Fail None ∷ Collect (Some p) ∷ offer_of t now (pick r a b)) q) (picked r a b)
      ∙ ap (λ (u : Turned). after_calls (Fail None ∷ Collect (Some p) ∷ offer_of t now (pick r a b)) (tells_on nh now u (pick r a b))) (sym (way_outcome w r a b e))

-- nothing lies at the router, which isn't asked
module _ {C : Type 0} (made : C → List CarrierCall → C → Type 0) (old : Circuits C) (log : List Item) (now : ℕ) (s : SetState) where
  pub asks_idle : (a : Offered) (lost : List Callsign) (waiting : List Parcel) → lost ≡ [] → waiting ≡ [] → made old.router.carrier [] old.router.carrier
      → StandsFor old.router.table log → SetStands old (at_rest s) → DoesPump made old old log None (asks_once (next_hop old.router.table.rules log) now s lost waiting a)
  asks_idle a lost waiting e f calls stands st =
      let nh : Callsign → Option Callsign = next_hop old.router.table.rules log in
      let done : DoesPump made old old log None (asks_once nh now s [] [] a) = record {
        told = refl;
        calls = calls;
        table = subst (λ (items : List Item). StandsFor old.router.table items) (sym (append-nil log)) stands;
        stands = st;
      } in
      subst (λ (l : List Callsign). DoesPump made old old log None (asks_once nh now s l waiting a)) (sym e)
      (subst (λ (w : List Parcel). DoesPump made old old log None (asks_once nh now s [] w a)) (sym f) done)

module _ {C : Type 0} (made : C → List CarrierCall → C → Type 0) (more_made : (a b c : C) (calls more : List CarrierCall) → made a calls b → made b more c → made a (calls ++ more) c)
    (old new : Circuits C) (r1 : Routing C) (log : List Item) (now : ℕ) (s : SetState) (st : SetStands old (at_rest s)) (same : SameRouter old.router r1) where
  abbrev nh_of : RouteRules → Callsign → Option Callsign
  nh_of rules = next_hop rules log

  abbrev nh : Callsign → Option Callsign
  nh = next_hop old.router.table.rules log

  abbrev mid : Circuits C
  mid = record old { router = r1 }

  pub mid_stands : SetStands mid (at_rest s)
  mid_stands = record { ends = st.ends; own = st.own ∙ sym same.own; ttl = st.ttl ∙ sym same.ttl; lost = st.lost; unspent = st.unspent }

  -- a neighbour was lost
  asks_lost : (n : Callsign) (r : Routed) (b : Offered) (e : Option SetEvent) → r ≡ routed.Lost n → made old.router.carrier (Fail (Some n) ∷ []) r1.carrier
      → DoesPump made mid new (log ++ Failure n ∷ []) e (tells_on (next_hop r1.table.rules (log ++ Failure n ∷ [])) now (heard_as now (at_rest s) r) b)
      → DoesPump made old new log e (ends_with (Fail (Some n) ∷ []) (hears_lost n (at_rest s)))
  asks_lost n r b e is called x =
      let nh2 : Callsign → Option Callsign = next_hop r1.table.rules (log ++ Failure n ∷ []) in
      let y : DoesPump made mid new (log ++ Failure n ∷ []) e (ends_with [] (speaks (Lost n) (at_rest s))) =
      subst (λ (q : Routed). DoesPump made mid new (log ++ Failure n ∷ []) e (tells_on nh2 now (heard_as now (at_rest s) q) b)) is x in
      record {
        told = y.told;
        calls = more_made old.router.carrier r1.carrier new.router.carrier (Fail (Some n) ∷ []) [] called y.calls;
        table = subst (λ (l : List Item). StandsFor new.router.table l) (append-nil (log ++ Failure n ∷ [])) y.table;
        stands = y.stands;
      }

  -- a datagram was taken
  asks_parcel : (p : Parcel) (r : Routed) (a b : Offered) (e : Option SetEvent) → r ≡ routed_by (way s.own nh p.1) a
      → made old.router.carrier (Fail None ∷ Collect (Some p) ∷ offers_of (way s.own nh p.1) now a) r1.carrier
      → DoesPump made mid new log e (tells_on (nh_of r1.table.rules) now (heard_as now (at_rest s) r) b)
      → DoesPump made old new log e (takes nh now s p (pick r a b))
  asks_parcel p r a b e is called x =
      let y : DoesPump made mid new log e (tells_on nh now (heard_as now (at_rest s) r) b) =
      subst (λ (rules : RouteRules). DoesPump made mid new log e (tells_on (nh_of rules) now (heard_as now (at_rest s) r) b)) same.node.rules x in
      let calls : List CarrierCall = Fail None ∷ Collect (Some p) ∷ offers_of (way s.own nh p.1) now a in
      let all : DoesPump made old new log e (after_calls calls (tells_on nh now (heard_as now (at_rest s) r) b)) = record {
        told = y.told;
        calls = more_made old.router.carrier r1.carrier new.router.carrier calls (tells_on nh now (heard_as now (at_rest s) r) b).calls called y.calls;
        table = y.table;
        stands = y.stands;
      } in
      subst (λ (q : Pumped). DoesPump made old new log e q) (takes_by nh now s p r a b is) all

  abbrev Taken : Routed → Offered → Option SetEvent → Type 0
  Taken r b e =
      (log2 : List Item) → StandsFor r1.table log2 → DoesPump made mid new log2 e (tells_on (next_hop r1.table.rules log2) now (heard_as now (at_rest s) r) b)

  pub asks_some : (lost : List Callsign) (waiting : List Parcel) (r : Routed) (a b : Offered) (e : Option SetEvent)
      → routers.DoesPump made old.router r1 log (Some r) (pumping old.router.own nh lost waiting now a) → Taken r b e
      → DoesPump made old new log e (asks_once nh now s lost waiting (pick r a b))
  asks_some (n ∷ lost) waiting r a b e does x = let is : r ≡ routed.Lost n = cc does.told in asks_lost n r b e is does.calls (x (log ++ Failure n ∷ []) does.table)
  asks_some [] [] r a b e does x = absurd (cc does.told)
  asks_some [] (p ∷ ps) r a b e does x =
      let z : Some r ≡ Some (routed_by (way old.router.own nh p.1) a) = does.told in
      let is : r ≡ routed_by (way old.router.own nh p.1) a = cc z in
      let is2 : r ≡ routed_by (way s.own nh p.1) a = is ∙ ap (λ (o : Callsign). routed_by (way o nh p.1) a) (sym st.own) in
      let called : made old.router.carrier (Fail None ∷ Collect (Some p) ∷ offers_of (way s.own nh p.1) now a) r1.carrier =
      subst (λ (o : Callsign). made old.router.carrier (Fail None ∷ Collect (Some p) ∷ offers_of (way o nh p.1) now a) r1.carrier) (sym st.own) does.calls in
      asks_parcel p r a b e is2 called (x log (subst (λ (l : List Item). StandsFor r1.table l) (append-nil log) does.table))
