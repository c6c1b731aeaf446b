-- What a node carries as its circuits are pumped.
use Rattle.std.proofs.Common.{◌≡◌, ◌∙◌, ◌≤◌, ℕ, zero, suc, refl, sym, ap, subst, List, [], ◌∷◌, ◌++◌, length, append-nil}
use Rattle.std.specs.Prelude.{Bool, true, false, if◌then◌else◌, nat_lt, nat_le, nat_eq, Option, Some, None, Result, Ok, Err}
use Rattle.std.specs.List.{AllByRecursion}
use Rattle.std.proofs.lemmas.Bool.{or_right, or_left}
use Rattle.radio_base.proofs.Each.{each_append}
use Rattle.ax_address.specs.Callsign.{Callsign, same_call}
use Rattle.circuit_table.specs.Pumps.{of_circuits, Offers, Says, Turn, Turned}
use Rattle.circuit_table.specs.Pumps as pumps
use Rattle.circuit_table.specs.Sets as sets
use Rattle.circuit_table.specs.Sets.{SetDone, CircuitTold, set_step}
use Rattle.l3_datagram.specs.Datagrams.{Datagram, Parcel, head_at}
use Rattle.l3_datagram.specs.Routers.{Way, Ends, ToNeighbour, forwarded_by, onward, way, way_of}
use Rattle.l3_datagram.specs.Onward.{GoesOneHopOn}
use Rattle.l3_datagram.specs.declared.carrier.Offered.{Offered}
use Rattle.l3_datagram.specs.declared.carrier.Offered.TheVariants as offered
use Rattle.l3_datagram.specs.declared.datagram.DatagramHead.{DatagramHead}
use Rattle.l3_datagram.specs.declared.datagram.DatagramRefusal.{DatagramRefusal}
use Rattle.l3_datagram.specs.declared.routed.Routed.{Routed}
use Rattle.l3_datagram.specs.declared.routed.Routed.TheVariants as routed
use Rattle.link_table.specs.Calls.{collect, tell_lost}
use Rattle.link_table.specs.Laws.{CarriesByWeaker, CarriesWhatWasOffered}
use Rattle.link_table.specs.Reaching.{FramesAreSpelled, IsCall}
use Rattle.route_table.specs.Log.{Item}
use Rattle.node_core.specs.Carried.{CarriesTraced, NamesCall, Place, brings_traced, is_borne, is_of_node, is_passed, is_sent, offers_traced, sends_in}
use Rattle.node_model.specs.Links as links
use Rattle.node_model.specs.Pumping as p
use Rattle.node_model.specs.States.{Settings, State, at_links, next_hop}
use Rattle.node_core.proofs.Coming.{told_entry}
use Rattle.node_core.proofs.Naming.{hop_is_call}
use Rattle.node_core.proofs.Tracing.{all_back, hop_is, passed_on, read_long, sends_append}
use Rattle.node_core.proofs.Trails.{Goes, LinksHold, OwnCarried, input, quiet, still, follows}
use Rattle.node_model.proofs.Telling.{told_kept}

-- a datagram that is handed up is the one that came
mine_by : (own : Callsign) (d : Datagram) (origin : Callsign) (e : Datagram) (head : DatagramHead) (hop : Option Callsign) (returned mine expired : Bool)
    → (if returned then Ends routed.Returned else (if mine then Ends (routed.Mine head.origin d) else (if expired then Ends routed.Expired else onward d head.ttl hop))) ≡ Ends (routed.Mine origin e) → e ≡ d
mine_by own d origin e head hop true mine expired q = absurd (cc q)
mine_by own d origin e head hop false true expired q = cc q
mine_by own d origin e head hop false false true q = absurd (cc q)
mine_by own d origin e head None false false false q = absurd (cc q)
mine_by own d origin e head (Some next) false false false q = absurd (cc q)

mine_of : (own : Callsign) (hop : Callsign → Option Callsign) (d : Datagram) (origin : Callsign) (e : Datagram) (r : Result DatagramHead DatagramRefusal)
    → way_of own hop d r ≡ Ends (routed.Mine origin e) → e ≡ d
mine_of own hop d origin e (Err why) q = absurd (cc q)
mine_of own hop d origin e (Ok head) q = mine_by own d origin e head (hop head.dest) (same_call head.origin own) (same_call head.dest own) (nat_le head.ttl 1) q

-- a datagram goes on to a next hop
hop_by : (d : Datagram) (next : Callsign) (e : Datagram) (head : DatagramHead) (hop : Callsign → Option Callsign) (o : Option Callsign) (returned mine expired : Bool) → hop head.dest ≡ o
    → (if returned then Ends routed.Returned else (if mine then Ends (routed.Mine head.origin d) else (if expired then Ends routed.Expired else onward d head.ttl o))) ≡ ToNeighbour next e → hop head.dest ≡ Some next
hop_by d next e head hop o true mine expired h q = absurd (cc q)
hop_by d next e head hop o false true expired h q = absurd (cc q)
hop_by d next e head hop o false false true h q = absurd (cc q)
hop_by d next e head hop None false false false h q = absurd (cc q)
hop_by d next e head hop (Some n) false false false h q = let same : n ≡ next = cc q in h ∙ ap Some same

hop_of : (own : Callsign) (hop : Callsign → Option Callsign) (d : Datagram) (next : Callsign) (e : Datagram) (r : Result DatagramHead DatagramRefusal)
    → ((dest : Callsign) → hop dest ≡ Some next → IsCall next) → way_of own hop d r ≡ ToNeighbour next e → IsCall next
hop_of own hop d next e (Err why) f q = absurd (cc q)
hop_of own hop d next e (Ok head) f q =
    f head.dest (hop_by d next e head hop (hop head.dest) (same_call head.origin own) (same_call head.dest own) (nat_le head.ttl 1) refl q)

-- what goes on can be read
read_of : (own : Callsign) (hop : Callsign → Option Callsign) (d : Datagram) (next : Callsign) (e : Datagram) (r : Result DatagramHead DatagramRefusal) → way_of own hop d r ≡ ToNeighbour next e
    → (head : DatagramHead) × (r ≡ Ok head)
read_of own hop d next e (Err why) q = absurd (cc q)
read_of own hop d next e (Ok head) q = (head, refl)

module _ (here : Place) (law : CarriesWhatWasOffered) (weaker : CarriesByWeaker) (spelled : FramesAreSpelled) (one_hop : GoesOneHopOn) where
  -- a datagram is the node's to put in the air, by what it carries; or it was carried to it
  abbrev Traced : State → List ℕ → Type 0
  Traced n d = (sent : List (List ℕ)) → CarriesTraced here sent n → is_of_node here sent d ≡ true

  abbrev CameUp : State → List ℕ → Type 0
  CameUp n d = (sent : List (List ℕ)) → CarriesTraced here sent n → is_borne here.borne here.own d ≡ true

  -- a turn tells what was untold first; or it takes a datagram in
  data TurnOk (n : State) (t : Turned) : Type 0 where
    Tells : AllByRecursion NamesCall t.items → t.after.set ≡ n.set.set → of_circuits t.told ++ t.after.untold ≡ n.set.untold → TurnOk n t
    Takes : (d : List ℕ) (now : ℕ) → CameUp n d → AllByRecursion NamesCall t.items → t.told ≡ None → t.after.set ≡ (set_step n.set.set (sets.Comes d now)).set
        → t.after.untold ≡ n.set.untold ++ (set_step n.set.set (sets.Comes d now)).told → TurnOk n t

  -- another state with what the first one carries, but for its links and its log
  record Beside (n m : State) : Type 0 where
    entries : m.entries ≡ n.entries
    settings : m.settings ≡ n.settings
    own : m.own ≡ n.own
    log : m.log ≡ n.log
    links : (sent : List (List ℕ)) → CarriesTraced here sent n → LinksHold here sent m.links

  own_beside : (sent : List (List ℕ)) (n m : State) → Beside n m → CarriesTraced here sent n → OwnCarried here sent m.own
  own_beside sent n m b x = subst (OwnCarried here sent) (sym b.own) x.own

  names_beside : (sent : List (List ℕ)) (n m : State) (items : List Item) → Beside n m → AllByRecursion NamesCall items → CarriesTraced here sent n → AllByRecursion NamesCall (m.log ++ items)
  names_beside sent n m items b a x = each_append NamesCall m.log items (subst (AllByRecursion NamesCall) (sym b.log) x.names) a

  turned_goes : (n m : State) (t : Turned) → Beside n m → TurnOk n t → Goes here n (p.with_turned t m)
  turned_goes n m t b (Tells i s u) =
      quiet here n (p.with_turned t m) (p.told_entries t.told) (ap (λ es. es ++ p.told_entries t.told) b.entries) s (ap (λ xs. xs ++ t.after.untold) (told_entry t.told) ∙ u) b.settings
      (λ sent x. record {
        links = (b.links sent x).0;
        reaches = (b.links sent x).1;
        own = own_beside sent n m b x;
        names = names_beside sent n m t.items b i x;
        call = subst (λ (y : Settings). (y.call ≡ here.own) × IsCall here.own) (sym b.settings) x.call;
        untold = all_back (λ (d : List ℕ). 15 ≤ length d → is_sent sent d ≡ true) (sends_in (of_circuits t.told)) (sends_in t.after.untold)
            (subst (λ ds. AllByRecursion (λ (d : List ℕ). 15 ≤ length d → is_sent sent d ≡ true) ds) (sym (ap sends_in u) ∙ sends_append (of_circuits t.told) t.after.untold) x.untold);
      })
  turned_goes n m t b (Takes d now traced i none s u) = λ sent x.
      let step : SetDone = set_step n.set.set (sets.Comes d now) in
      input here weaker sent n (p.with_turned t m) (sets.Comes d now ∷ []) (tt, tt) (ap (λ o. m.entries ++ p.told_entries o) none ∙ (append-nil m.entries ∙ b.entries)) s
      (u ∙ ap (λ ts. n.set.untold ++ ts) (sym (append-nil step.told))) b.settings b.own (traced sent x, tt) (b.links sent x) (names_beside sent n m t.items b i x) x

  abbrev EachOk : State → Turn → Type 0
  EachOk n (Says t) = TurnOk n t
  EachOk n (Offers to d by) = Traced n d.items × ((sent : List (List ℕ)) → CarriesTraced here sent n → IsCall to) × ((answer : Offered) → TurnOk n (by answer))

  offered_beside : (now : ℕ) (n m : State) (to : Callsign) (d : Datagram) → Beside n m → Traced n d.items → ((sent : List (List ℕ)) → CarriesTraced here sent n → IsCall to) → Beside n (at_links (links.offer to d now) m)
  unfolding links.offer
  offered_beside now n m to d b traced call = record {
    entries = b.entries;
    settings = b.settings;
    own = b.own;
    log = b.log;
    links = λ sent x. (
      (law (offers_traced here sent) (brings_traced here) (nat_eq here.size)).offers m.links to d now (or_left (is_of_node here sent d.items) (is_borne here.borne to d.items) (traced sent x)) (b.links sent x).0,
      (spelled here.size).offers m.links to d now (call sent x) (b.links sent x).1,
    );
  }

  take_goes : (now : ℕ) (n m : State) (t : Turn) → Beside n m → EachOk n t → Goes here n (p.take_turn now t m)
  take_goes now n m (Says t) b each = turned_goes n m t b each
  take_goes now n m (Offers to d by) b each =
      turned_goes n (at_links (links.offer to d now) m) (by (links.offer_answer to d now m.links)) (offered_beside now n m to d b each.0 each.1) (each.2 (links.offer_answer to d now m.links))

  itself : (n : State) → Beside n n
  itself n = record { entries = refl; settings = refl; own = refl; log = refl; links = λ sent x. (x.links, x.reaches) }

  -- ---- what is untold is told

  -- each next hop is a call
  abbrev HopsAreCalls : State → (Callsign → Option Callsign) → Type 0
  HopsAreCalls n hop = (sent : List (List ℕ)) (dest to : Callsign) → CarriesTraced here sent n → hop dest ≡ Some to → IsCall to

  own_hops : (n : State) → HopsAreCalls n (next_hop n)
  own_hops n sent dest to x e = hop_is_call n.settings.rules n.log dest to x.names e

  module _ (hop : Callsign → Option Callsign) (n : State) (hops : HopsAreCalls n hop) where
    first_traced : (id : ℕ) (number : Option ℕ) (d : List ℕ) (rest : List CircuitTold) (head : DatagramHead) → n.set.untold ≡ sets.Sent id number d ∷ rest → head_at d ≡ Ok head → Traced n d
    first_traced id number d rest head e h sent x =
        or_left (is_sent sent d) (is_passed here.borne here.own d)
        ((subst (λ ts. AllByRecursion (λ (c : List ℕ). 15 ≤ length c → is_sent sent c ≡ true) (sends_in ts)) e x.untold).0 (read_long d head h))

    to_ok : (t : CircuitTold) (d : List ℕ) (rest : List CircuitTold) (dest : Callsign) (o : Option Callsign) → hop dest ≡ o → n.set.untold ≡ t ∷ rest → Traced n d → EachOk n (pumps.sent_to hop n.set.set t d rest o)
    to_ok t d rest dest None h e traced = Tells tt refl (sym e)
    to_ok t d rest dest (Some next) h e traced = (traced, λ sent x. hops sent dest next x h, λ answer. Tells tt refl (sym e))

    head_ok : (id : ℕ) (number : Option ℕ) (d : List ℕ) (rest : List CircuitTold) (r : Result DatagramHead DatagramRefusal) → n.set.untold ≡ sets.Sent id number d ∷ rest → head_at d ≡ r
        → EachOk n (pumps.sent_by_head hop n.set.set (sets.Sent id number d) d rest r)
    head_ok id number d rest (Err why) e h = Tells tt refl (sym e)
    head_ok id number d rest (Ok head) e h = to_ok (sets.Sent id number d) d rest head.dest (hop head.dest) refl e (first_traced id number d rest head e h)

    first_ok : (t : CircuitTold) (rest : List CircuitTold) → n.set.untold ≡ t ∷ rest → EachOk n (pumps.tells_first hop n.set.set t rest)
    first_ok (sets.Sent id number d) rest e = head_ok id number d rest (head_at d) e refl
    first_ok (sets.Made id pair partner request) rest e = Tells tt refl (sym e)
    first_ok (sets.Heeded id d) rest e = Tells tt refl (sym e)
    first_ok (sets.Notice id notice) rest e = Tells tt refl (sym e)
    first_ok (sets.Gone id facts) rest e = Tells tt refl (sym e)
    first_ok (sets.Restarted pair) rest e = Tells tt refl (sym e)
    first_ok (sets.Lost id facts) rest e = Tells tt refl (sym e)

    told_ok : (o : Option Routed) (ts : List CircuitTold) → n.set.untold ≡ ts → EachOk n (pumps.tells hop (record { set = n.set.set; untold = ts; lost = o }))
    told_ok (Some r) ts e = Tells tt refl (sym e)
    told_ok None [] e = Tells tt refl (sym e)
    told_ok None (t ∷ rest) e = first_ok t rest e

    tells_ok : EachOk n (links.tells hop n.set)
    unfolding links.tells
    tells_ok = told_ok n.set.lost n.set.untold refl

  told_by : (now : ℕ) (o n : State) (b : Bool) → Goes here o n → Goes here o (if b then p.tell_one now n else n)
  told_by now o n true g = follows here o n (p.tell_one now n) g (take_goes now n n (links.tells (next_hop n) n.set) (itself n) (tells_ok (next_hop n) n (own_hops n)))
  told_by now o n false g = g

  all_told : (now : ℕ) (n : State) → Goes here n (p.tell_all now n)
  all_told now n = told_kept now (Goes here n) (λ m g. told_by now n m (nat_lt 0 (p.pending m)) g) n (still here n)

  -- ---- the router is asked

  module _ (now : ℕ) (n : State) (parcel : Parcel) (rest : List Parcel) (e : n.links.pending.waiting ≡ parcel ∷ rest) where
    parcel_traced : CameUp n parcel.1.items
    parcel_traced sent x = (subst (λ ps. AllByRecursion (λ (q : Parcel). is_borne here.borne here.own q.1.items ≡ true) ps) e x.links.waiting).0

    -- it is passed on
    onward_traced : (hop : Callsign → Option Callsign) (next : Callsign) (d : Datagram) → way n.set.set.own hop parcel.1 ≡ ToNeighbour next d → Traced n d.items
    onward_traced hop next d is sent x =
        let read = read_of n.set.set.own hop parcel.1 next d (head_at parcel.1.items) is in
        or_right (is_sent sent d.items) (is_passed here.borne here.own d.items)
        (passed_on here.borne here.own parcel.1.items d.items (hop_is parcel.1.items d.items (one_hop n.set.set.own hop parcel.1 next d is) (read_long parcel.1.items read.0 read.1)) (parcel_traced sent x))

    heard_ok : (w : Way) (r : Routed) → ((origin : Callsign) (d : Datagram) → r ≡ routed.Mine origin d → d ≡ parcel.1) → TurnOk n (pumps.heard_as now n.set r)
    heard_ok w (routed.Mine origin d) is =
        Takes d.items now (subst (λ (c : Datagram). CameUp n c.items) (sym (is origin d refl)) parcel_traced) tt refl refl refl
    heard_ok w routed.Forwarded is = Tells tt refl refl
    heard_ok w (routed.Lost call) is = Tells tt refl refl
    heard_ok w routed.Expired is = Tells tt refl refl
    heard_ok w routed.NoRoute is = Tells tt refl refl
    heard_ok w routed.Returned is = Tells tt refl refl
    heard_ok w routed.Dropped is = Tells tt refl refl
    heard_ok w routed.Bad is = Tells tt refl refl

    answered_ok : (w : Way) (answer : Offered) → TurnOk n (pumps.heard_as now n.set (forwarded_by answer))
    answered_ok w offered.Taken = Tells tt refl refl
    answered_ok w offered.Dropped = Tells tt refl refl

    way_ok : (hop : Callsign → Option Callsign) (w : Way) → HopsAreCalls n hop → way n.set.set.own hop parcel.1 ≡ w → EachOk n (pumps.hears_by now n.set w)
    way_ok hop (Ends r) hops is = heard_ok (Ends r) r (λ origin d same. mine_of n.set.set.own hop parcel.1 origin d (head_at parcel.1.items) (is ∙ ap Ends same))
    way_ok hop (ToNeighbour next d) hops is =
        (onward_traced hop next d is, λ sent x. hop_of n.set.set.own hop parcel.1 next d (head_at parcel.1.items) (λ dest e. hops sent dest next x e) is, λ answer. answered_ok (ToNeighbour next d) answer)

    hears_ok : (hop : Callsign → Option Callsign) → HopsAreCalls n hop → EachOk n (links.hears hop now parcel n.set)
    unfolding links.hears
    hears_ok hop hops = way_ok hop (way n.set.set.own hop parcel.1) hops refl

    collected : Beside n (at_links collect n)
    collected = record {
      entries = refl;
      settings = refl;
      own = refl;
      log = refl;
      links = λ sent x. ((law (offers_traced here sent) (brings_traced here) (nat_eq here.size)).collects n.links x.links, (spelled here.size).collects n.links x.reaches);
    }

    hears_goes : Goes here n (p.take_turn now (links.hears (next_hop n) now parcel n.set) (at_links collect n))
    hears_goes = take_goes now n (at_links collect n) (links.hears (next_hop n) now parcel n.set) collected (hears_ok (next_hop n) (own_hops n))

  lost_goes : (n : State) (c : Callsign) → Goes here n (p.with_turned (links.hears_lost c n.set) (at_links tell_lost n))
  unfolding links.hears_lost
  lost_goes n c =
      turned_goes n (at_links tell_lost n) (pumps.hears_lost c n.set)
      (record {
        entries = refl;
        settings = refl;
        own = refl;
        log = refl;
        links = λ sent x. ((law (offers_traced here sent) (brings_traced here) (nat_eq here.size)).tells_lost n.links x.links, (spelled here.size).tells_lost n.links x.reaches);
      })
      (Tells (tt, tt) refl refl)

  asked : (now : ℕ) (n : State) (lost : List Callsign) (waiting : List Parcel) → n.links.pending.waiting ≡ waiting → Goes here n (p.ask_for now lost waiting n)
  asked now n (c ∷ cs) waiting e = lost_goes n c
  asked now n [] (parcel ∷ rest) e = hears_goes now n parcel rest e
  asked now n [] [] e = still here n

  times_goes : (now k : ℕ) (n : State) → Goes here n (p.ask_times now k n)
  times_goes now zero n = still here n
  times_goes now (suc k) n =
      let a : State = p.ask now n in
      let b : State = p.tell_all now a in
      follows here n b (p.ask_times now k b) (follows here n a b (asked now n n.links.pending.lost n.links.pending.waiting refl) (all_told now a)) (times_goes now k b)

  pub pumped : (now : ℕ) (n : State) → Goes here n (p.pump now n)
  unfolding p.pump
  pumped now n = follows here n (p.tell_all now n) _ (all_told now n) (times_goes now (p.at_router n) (p.tell_all now n))
