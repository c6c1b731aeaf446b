-- Where no own window is above 64, fewer than 128 overtakers are fewer than each circuit allows.
use Rattle.std.specs.Prelude.{◌≡◌, ℕ, zero, suc, ◌-◌, ◌*◌, min, ◌≤◌, Bool, true, false, nat_eq, not, ◌&&◌, ◌||◌, if◌then◌else◌, List, [], ◌∷◌, ◌++◌, drop, slice_get, slice_set, Option, Some, None, Result, Ok, Err, refl}
use Rattle.std.proofs.lemmas.Bool.Decides.{nat_tests}
use Rattle.std.proofs.Common.{sym, ◌∙◌, ap, subst, inl, inr, arith}
use Rattle.radio_base.specs.declared.modulus.TheConstants.{COUNT_MAX}
use Rattle.ax_address.specs.Callsign.{Callsign, same_call}
use Rattle.l3_datagram.specs.declared.datagram.DatagramHead.{DatagramHead}
use Rattle.l3_datagram.specs.declared.datagram.DatagramRefusal.{DatagramRefusal}
use Rattle.l3_datagram.specs.Datagrams.{head_at}
use Rattle.circuit_l4.specs.declared.pair.Pair.{Pair}
use Rattle.circuit_l4.specs.declared.transport.Transport.{Transport}
use Rattle.circuit_l4.specs.declared.transport.Transport.TheVariants.{Request, Accept, Refuse, Disconnect, Disconnected, Info, InfoAck}
use Rattle.circuit_l4.specs.declared.transport.TransportRefusal.{TransportRefusal}
use Rattle.circuit_l4.specs.declared.config.EndConfig.{EndConfig}
use Rattle.circuit_l4.specs.declared.notice.EndNotice.{EndNotice}
use Rattle.circuit_l4.specs.State.{Effect, Out}
use Rattle.circuit_l4.specs.Table.{Arrive, common_window, step}
use Rattle.circuit_l4.specs.Opening.{facts_of, requesting, responding}
use Rattle.circuit_l4.specs.Transports.{transport_at}
use Rattle.circuit_table.specs.Sets.{heeds, Act, Call, Calls, Comes, Connect, ConnectFor, Discard, Restart, Holder, SetDone, SetState, CircuitTold, Made, Sent, Heeded, Notice, Gone, Restarted, Lost, accept_again, all_gone, after_call, datagram_to, after_discarding, end_of, first_open, goes_to, hands_to, after_datagram, has_ended, holder_of, input_of, is_full, is_over, losses, makes_end, named_by, new_pair, notices, opened_by, read_as, after_transport, after_new_request, requests, requests_for, responds, sendings, set_step, after_effect, told_by, does_nothing, with_end}
use Rattle.circuit_table.specs.Events.{Event, Name}
use Rattle.circuit_set.specs.NotedRuns.{NarrowIsTimely, Net, allowance_at, begins, net_step}
use Rattle.circuit_set.specs.Books.{Book, Timely, TimelyTo, TimelyTold, with_event, with_events}
use Rattle.circuit_table.specs.Runs.{AreNarrow, AreStarts, AreSteps, Step, end_in, events_at, events_of, sets_at, told_at}
use Rattle.circuit_table.proofs.Choices.{Named}
use Rattle.circuit_set.proofs.Lookups.{InEnds, in_changed, in_pushed, open_found, set_other, set_same}
use Rattle.circuit_set.proofs.Invariant.{CircuitOk, EndInv, Kept, PairInv}
use Rattle.circuit_set.proofs.Acts.{allow_is}
use Rattle.circuit_table.proofs.Names.{call_names, arrival_same}
use Rattle.circuit_set.proofs.Opens.{step_kept, timely_parts}
use Rattle.circuit_set.proofs.Safe.{start_kept}

-- ---- no event but the first is a heeded datagram ----
abbrev Unheeding : List CircuitTold → Type 0
Unheeding [] = Unit {0}
Unheeding (Heeded id d ∷ ts) = ⊥
Unheeding (t ∷ ts) = Unheeding ts

abbrev FirstAlone : List CircuitTold → Type 0
FirstAlone [] = Unit {0}
FirstAlone (t ∷ ts) = Unheeding ts

both_unheeding : (xs ys : List CircuitTold) → Unheeding xs → Unheeding ys → Unheeding (xs ++ ys)
both_unheeding [] ys a b = b
both_unheeding (Heeded id d ∷ xs) ys a b = absurd a
both_unheeding (Made id pair at request ∷ xs) ys a b = both_unheeding xs ys a b
both_unheeding (Sent id number d ∷ xs) ys a b = both_unheeding xs ys a b
both_unheeding (Notice id n ∷ xs) ys a b = both_unheeding xs ys a b
both_unheeding (Gone id facts ∷ xs) ys a b = both_unheeding xs ys a b
both_unheeding (Restarted pair ∷ xs) ys a b = both_unheeding xs ys a b
both_unheeding (Lost id facts ∷ xs) ys a b = both_unheeding xs ys a b

either_told : (P : SetDone → Type 0) (b : Bool) (c d : SetDone) → P c → P d → P (if b then c else d)
either_told P true c d x y = x
either_told P false c d x y = y

sents_unheeding : (s : SetState) (id : ℕ) (at : Callsign) (os : List Out) → Unheeding (sendings s id at os)
sents_unheeding s id at [] = tt
sents_unheeding s id at (o ∷ os) = sents_unheeding s id at os

notices_unheeding : (id : ℕ) (ns : List EndNotice) → Unheeding (notices id ns)
notices_unheeding id [] = tt
notices_unheeding id (n ∷ ns) = notices_unheeding id ns

gone_unheeding : (b : Bool) (t : CircuitTold) → Unheeding (t ∷ []) → Unheeding (if b then t ∷ [] else [])
gone_unheeding true t u = u
gone_unheeding false t u = tt

end_unheeding : (s : SetState) (h : Holder) (g : Effect) → Unheeding (told_by s h g)
end_unheeding s h g =
    both_unheeding (sendings s h.id h.at g.outs ++ notices h.id g.notes) _
    (both_unheeding (sendings s h.id h.at g.outs) (notices h.id g.notes) (sents_unheeding s h.id h.at g.outs) (notices_unheeding h.id g.notes)) (gone_unheeding (is_over g.end) (Gone h.id (facts_of g.end)) tt)

losses_unheeding : (hs : List Holder) → Unheeding (losses hs)
losses_unheeding [] = tt
losses_unheeding (h ∷ hs) = by h.gone (losses_unheeding hs)
  where
    by : (b : Bool) → Unheeding (losses hs) → Unheeding (if b then losses hs else Lost h.id (facts_of h.end) ∷ losses hs)
    by true u = u
    by false u = u

alone_of : (ts : List CircuitTold) → Unheeding ts → FirstAlone ts
alone_of [] u = tt
alone_of (Heeded id d ∷ ts) u = absurd u
alone_of (Made id pair at request ∷ ts) u = u
alone_of (Sent id number d ∷ ts) u = u
alone_of (Notice id n ∷ ts) u = u
alone_of (Gone id facts ∷ ts) u = u
alone_of (Restarted pair ∷ ts) u = u
alone_of (Lost id facts ∷ ts) u = u

abbrev First : SetDone → Type 0
First d = FirstAlone d.told

module _ (s : SetState) where
  heeds_first : (h : Holder) (d : List ℕ) (g : Effect) (b : Bool) → FirstAlone ((if b then Heeded h.id d ∷ [] else []) ++ told_by s h g)
  heeds_first h d g true = end_unheeding s h g
  heeds_first h d g false = alone_of (told_by s h g) (end_unheeding s h g)

  named_first : (d : List ℕ) (t : Transport) (now : ℕ) (o : Option Holder) → First (elim o as (λ x. SetDone) [ Some h ↦ hands_to s h d t now | None ↦ does_nothing s ])
  named_first d t now (Some h) = heeds_first h d (step h.end (Arrive t) now) (heeds h.end.phase t)
  named_first d t now None = tt

  made_first : (at : Callsign) (asked : Option Pair) (request : Option (List ℕ)) (g : Effect) → First (makes_end s at asked request g)
  made_first at asked request g = end_unheeding s (holder_of s at asked g) g

  asked_first : (origin : Callsign) (d : List ℕ) (pair : Pair) (window now : ℕ) (o : Option Holder)
      → First (elim o as (λ x. SetDone) [ Some h ↦ goes_to s h [] (accept_again h.end) | None ↦ after_new_request s origin d pair window now ])
  asked_first origin d pair window now (Some h) = alone_of (told_by s h (accept_again h.end)) (end_unheeding s h (accept_again h.end))
  asked_first origin d pair window now None =
      either_told First (is_full s) (record { set = s; told = Sent 0 None (datagram_to s origin (Refuse pair)) ∷ [] }) (responds s origin d pair window now) tt
      (made_first origin (Some pair) (Some d) (responding (new_pair s) pair window s.config (min now COUNT_MAX)))

  comes_first : (origin : Callsign) (d : List ℕ) (t : Transport) (now : ℕ) → First (after_transport s origin d t now)
  comes_first origin d (Request pair window user node) now = asked_first origin d pair window now (first_open (opened_by origin pair) s.ends)
  comes_first origin d (Accept to own window) now = named_first d (Accept to own window) now (first_open (named_by origin to) s.ends)
  comes_first origin d (Refuse to) now = named_first d (Refuse to) now (first_open (named_by origin to) s.ends)
  comes_first origin d (Disconnect to) now = named_first d (Disconnect to) now (first_open (named_by origin to) s.ends)
  comes_first origin d (Disconnected to) now = named_first d (Disconnected to) now (first_open (named_by origin to) s.ends)
  comes_first origin d (Info to tx rx flags text) now = named_first d (Info to tx rx flags text) now (first_open (named_by origin to) s.ends)
  comes_first origin d (InfoAck to rx flags) now = named_first d (InfoAck to rx flags) now (first_open (named_by origin to) s.ends)

  read_first : (origin : Callsign) (d : List ℕ) (r : Result Transport TransportRefusal) (now : ℕ) → First (read_as s origin d r now)
  read_first origin d (Err e) now = tt
  read_first origin d (Ok t) now = comes_first origin d t now

  headed_first : (d : List ℕ) (r : Result DatagramHead DatagramRefusal) (now : ℕ) → First (after_datagram s d r now)
  headed_first d (Err e) now = tt
  headed_first d (Ok head) now =
      either_told First (same_call head.origin s.own || not (same_call head.dest s.own)) (does_nothing s) (read_as s head.origin d (transport_at (drop 15 d)) now) tt (read_first head.origin d (transport_at (drop 15 d)) now)

  called_first : (o : Option Holder) (call : Call) (now : ℕ) → First (after_call s o call now)
  called_first None call now = tt
  called_first (Some h) call now =
      let g : Effect = step h.end (input_of call) now in either_told First h.gone (does_nothing s) (goes_to s h [] g) tt (alone_of (told_by s h g) (end_unheeding s h g))

  discarded_first : (o : Option Holder) → First (after_discarding s o)
  discarded_first None = tt
  discarded_first (Some h) =
      either_told First (not h.gone && has_ended h.end.phase) (record { set = record s { ends = with_end (record h { gone = true }) s.ends }; told = Gone h.id (facts_of h.end) ∷ [] }) (does_nothing s) tt tt

  step_first : (a : Act) → First (set_step s a)
  step_first (Connect dest now) = either_told First (same_call dest s.own || is_full s) (does_nothing s) (requests s dest now) tt
      (made_first dest None None (requesting (new_pair s) s.user s.own s.config (min now COUNT_MAX)))
  step_first (ConnectFor user dest now) = either_told First (same_call dest s.own || is_full s) (does_nothing s) (requests_for s user dest now) tt
      (made_first dest None None (requesting (new_pair s) user s.own s.config (min now COUNT_MAX)))
  step_first (Comes d now) = headed_first d (head_at d) now
  step_first (Calls id call now) = called_first (end_of id s.ends) call now
  step_first (Discard id) = discarded_first (end_of id s.ends)
  step_first (Restart pair more) = losses_unheeding s.ends

-- ---- no window grows ----
found_in : (id : ℕ) (h : Holder) (hs : List Holder) → end_of id hs ≡ Some h → InEnds h hs
found_in id h [] e = absurd (cc e)
found_in id h (x ∷ hs) e = by (nat_eq x.id id) e (found_in id h hs)
  where
    by : (b : Bool) → (if b then Some x else end_of id hs) ≡ Some h → (end_of id hs ≡ Some h → InEnds h hs) → InEnds h (x ∷ hs)
    by true f later = let same : h ≡ x = cc (sym f) in inl same
    by false f later = inr (later f)

within : (own w : ℕ) → common_window own w ≡ w → own ≤ 64 → w ≤ 64
within own w e l = omega arith

pub record NarrowSet (s : SetState) : Type 0 where
  pub own : s.config.window ≤ 64
  pub ends : (h : Holder) → InEnds h s.ends → h.end.config.window ≤ 64

abbrev Narrow : SetDone → Type 0
Narrow d = NarrowSet d.set

module _ (s : SetState) (n : NarrowSet s) where
  goes_narrow : (h : Holder) (first : List CircuitTold) (g : Effect) → InEnds h s.ends → g.end.config ≡ h.end.config → Narrow (goes_to s h first g)
  goes_narrow h first g i e = record {
    own = n.own;
    ends = λ x j. elim (in_changed x (after_effect h g) s.ends j) [
      | inl same ↦ (let c : x.end.config.window ≡ h.end.config.window = ap (λ (y : Holder). y.end.config.window) same ∙ ap (λ (f : EndConfig). f.window) e in let low = n.ends h i in omega (arith, c, low))
      | inr old ↦ n.ends x old.0
    ];
  }

  made_narrow : (at : Callsign) (asked : Option Pair) (request : Option (List ℕ)) (g : Effect) → g.end.config ≡ s.config → Narrow (makes_end s at asked request g)
  made_narrow at asked request g e = record {
    own = n.own;
    ends = λ x j. elim (in_pushed x (holder_of s at asked g) s.ends j) [
      | inl old ↦ n.ends x old
      | inr same ↦ (let c : x.end.config.window ≡ s.config.window = ap (λ (y : Holder). y.end.config.window) same ∙ ap (λ (f : EndConfig). f.window) e in let low = n.own in omega (arith, c, low))
    ];
  }

  named_narrow : (d : List ℕ) (to : Pair) (origin : Callsign) (t : Transport) (now : ℕ) (o : Option Holder) → first_open (named_by origin to) s.ends ≡ o
      → Narrow (elim o as (λ x. SetDone) [ Some h ↦ hands_to s h d t now | None ↦ does_nothing s ])
  named_narrow d to origin t now (Some h) e =
      goes_narrow h (if heeds h.end.phase t then Heeded h.id d ∷ [] else []) (step h.end (Arrive t) now) (open_found (named_by origin to) h s.ends e).0 (arrival_same h.end t now).config
  named_narrow d to origin t now None e = n

  asked_narrow : (origin : Callsign) (d : List ℕ) (pair : Pair) (window now : ℕ) (o : Option Holder) → first_open (opened_by origin pair) s.ends ≡ o
      → Narrow (elim o as (λ x. SetDone) [ Some h ↦ goes_to s h [] (accept_again h.end) | None ↦ after_new_request s origin d pair window now ])
  asked_narrow origin d pair window now (Some h) e = goes_narrow h [] (accept_again h.end) (open_found (opened_by origin pair) h s.ends e).0 refl
  asked_narrow origin d pair window now None e =
      either_told Narrow (is_full s) (record { set = s; told = Sent 0 None (datagram_to s origin (Refuse pair)) ∷ [] }) (responds s origin d pair window now) n
      (made_narrow origin (Some pair) (Some d) (responding (new_pair s) pair window s.config (min now COUNT_MAX)) refl)

  comes_narrow : (origin : Callsign) (d : List ℕ) (t : Transport) (now : ℕ) → Narrow (after_transport s origin d t now)
  comes_narrow origin d (Request pair window user node) now = asked_narrow origin d pair window now (first_open (opened_by origin pair) s.ends) refl
  comes_narrow origin d (Accept to own window) now = named_narrow d to origin (Accept to own window) now (first_open (named_by origin to) s.ends) refl
  comes_narrow origin d (Refuse to) now = named_narrow d to origin (Refuse to) now (first_open (named_by origin to) s.ends) refl
  comes_narrow origin d (Disconnect to) now = named_narrow d to origin (Disconnect to) now (first_open (named_by origin to) s.ends) refl
  comes_narrow origin d (Disconnected to) now = named_narrow d to origin (Disconnected to) now (first_open (named_by origin to) s.ends) refl
  comes_narrow origin d (Info to tx rx flags text) now = named_narrow d to origin (Info to tx rx flags text) now (first_open (named_by origin to) s.ends) refl
  comes_narrow origin d (InfoAck to rx flags) now = named_narrow d to origin (InfoAck to rx flags) now (first_open (named_by origin to) s.ends) refl

  read_narrow : (origin : Callsign) (d : List ℕ) (r : Result Transport TransportRefusal) (now : ℕ) → Narrow (read_as s origin d r now)
  read_narrow origin d (Err e) now = n
  read_narrow origin d (Ok t) now = comes_narrow origin d t now

  headed_narrow : (d : List ℕ) (r : Result DatagramHead DatagramRefusal) (now : ℕ) → Narrow (after_datagram s d r now)
  headed_narrow d (Err e) now = n
  headed_narrow d (Ok head) now =
      either_told Narrow (same_call head.origin s.own || not (same_call head.dest s.own)) (does_nothing s) (read_as s head.origin d (transport_at (drop 15 d)) now) n (read_narrow head.origin d (transport_at (drop 15 d)) now)

  called_narrow : (id : ℕ) (o : Option Holder) (call : Call) (now : ℕ) → end_of id s.ends ≡ o → Narrow (after_call s o call now)
  called_narrow id None call now e = n
  called_narrow id (Some h) call now e =
      let g : Effect = step h.end (input_of call) now in
      either_told Narrow h.gone (does_nothing s) (goes_to s h [] g) n (goes_narrow h [] g (found_in id h s.ends e) (ap (λ (m : Named). m.config) (call_names h.end call now)))

  discarded_narrow : (id : ℕ) (o : Option Holder) → end_of id s.ends ≡ o → Narrow (after_discarding s o)
  discarded_narrow id None e = n
  discarded_narrow id (Some h) e =
      either_told Narrow (not h.gone && has_ended h.end.phase) (record { set = record s { ends = with_end (record h { gone = true }) s.ends }; told = Gone h.id (facts_of h.end) ∷ [] }) (does_nothing s)
      (record {
        own = n.own;
        ends = λ x j. elim (in_changed x (record h { gone = true }) s.ends j) [
          | inl same ↦ (let c : x.end.config.window ≡ h.end.config.window = ap (λ (y : Holder). y.end.config.window) same in let low = n.ends h (found_in id h s.ends e) in omega (arith, c, low))
          | inr old ↦ n.ends x old.0
        ];
      }) n

  lost_narrow : (hs : List Holder) → ((h : Holder) → InEnds h hs → h.end.config.window ≤ 64) → (h : Holder) → InEnds h (all_gone hs) → h.end.config.window ≤ 64
  lost_narrow [] f h i = absurd i
  lost_narrow (x ∷ hs) f h (inl same) =
      let c : h.end.config.window ≡ x.end.config.window = ap (λ (y : Holder). y.end.config.window) same in let low = f x (inl refl) in omega (arith, c, low)
  lost_narrow (x ∷ hs) f h (inr i) = lost_narrow hs (λ y j. f y (inr j)) h i

  step_narrow : (a : Act) → Narrow (set_step s a)
  step_narrow (Connect dest now) =
      either_told Narrow (same_call dest s.own || is_full s) (does_nothing s) (requests s dest now) n (made_narrow dest None None (requesting (new_pair s) s.user s.own s.config (min now COUNT_MAX)) refl)
  step_narrow (ConnectFor user dest now) =
      either_told Narrow (same_call dest s.own || is_full s) (does_nothing s) (requests_for s user dest now) n (made_narrow dest None None (requesting (new_pair s) user s.own s.config (min now COUNT_MAX)) refl)
  step_narrow (Comes d now) = headed_narrow d (head_at d) now
  step_narrow (Calls id call now) = called_narrow id (end_of id s.ends) call now refl
  step_narrow (Discard id) = discarded_narrow id (end_of id s.ends) refl
  step_narrow (Restart pair more) = record { own = n.own; ends = lost_narrow s.ends n.ends }

-- ---- a run ----
abbrev NarrowNet : List SetState → Type 0
NarrowNet ss = (i : ℕ) (s : SetState) → slice_get ss i ≡ Some s → NarrowSet s

put_case : (ss : List SetState) (m i : ℕ) (s t u : SetState) → slice_get ss m ≡ Some s → NarrowSet t → NarrowNet ss → (b : Bool) → nat_eq i m ≡ b → slice_get (slice_set ss m t) i ≡ Some u → NarrowSet u
put_case ss m i s t u here new old true e f =
    let same : i ≡ m = grind (arith, nat_tests) in
    let is : Some t ≡ Some u = sym (set_same ss m s t here) ∙ subst (λ k. slice_get (slice_set ss m t) k ≡ Some u) same f in
    let one : t ≡ u = cc is in
    subst NarrowSet one new
put_case ss m i s t u here new old false e f =
    let other : i ≡ m → ⊥ = λ q. (let yes : nat_eq i m ≡ true = grind (arith, nat_tests) in let z : true ≡ false = sym yes ∙ e in cc z) in
    old i u (sym (set_other ss m i t other) ∙ f)

at_case : (ss : List SetState) (st : Step) (o : Option SetState) → slice_get ss st.node ≡ o → NarrowNet ss → NarrowNet (sets_at ss st.node o st.act)
at_case ss st None e n = n
at_case ss st (Some s) e n = λ i u f. put_case ss st.node i s (set_step s st.act).set u e (step_narrow s (n st.node s e) st.act) n (nat_eq i st.node) refl f

narrow_starts : (ss : List SetState) → AreStarts ss → AreNarrow ss → NarrowNet ss
narrow_starts [] a n i s e = absurd (cc e)
narrow_starts (x ∷ ss) a n zero s e =
    let same : x ≡ s = cc e in subst NarrowSet same (record { own = n.0; ends = λ h i. absurd (subst (λ hs. InEnds h hs) a.0.none i) })
narrow_starts (x ∷ ss) a n (suc i) s e = narrow_starts ss a.1 n.1 i s e

ends_narrow : (net : Net) → NarrowNet net.sets → (x : Name) (o : Option SetState) → slice_get net.sets x.node ≡ o → (h : Holder) → end_in o x.id ≡ Some h → h.end.config.window ≤ 64
ends_narrow net n x None e h f = absurd (cc f)
ends_narrow net n x (Some s) e h f = (n x.node s e).ends h (found_in x.id h s.ends f)

-- what is heeded in time by 128 is in time by the circuit's own allowance
heeds_narrow : (net : Net) (k : Kept net) → NarrowNet net.sets → (x : Name) (d : List ℕ) → TimelyTo (λ b x. 128) net.book x d → TimelyTo allowance_at net.book x d
heeds_narrow net k n x d t =
    let p : PairInv net x t.0 = k.pairs x t.0 t.2 in
    let m = k.made x p.mine in
    let h : Holder = m.0 in
    let i : EndInv net k.past x h = k.ends x h m.1 in
    let c : CircuitOk net k.past x t.0 h.end = i.paired t.0 t.2 in
    let low : h.end.config.window ≤ 64 = ends_narrow net n x (slice_get net.sets x.node) refl h m.1 in
    let fits : common_window h.end.config.window c.window ≡ c.window = c.kept.end_mine.fits in
    let is : allowance_at net.book x ≡ 256 - 2 * c.window = allow_is net k x t.0 h i t.2 c in
    let few = t.4 in
    let less : c.window ≤ 64 = within h.end.config.window c.window fits low in
    (t.0, t.1, t.2, t.3, omega (arith, is, few, less))

told_narrow : (net : Net) (k : Kept net) → NarrowNet net.sets → (i : ℕ) (t : CircuitTold) → TimelyTold (λ b x. 128) net.book i t → TimelyTold allowance_at net.book i t
told_narrow net k n i (Heeded id d) t = heeds_narrow net k n (record { node = i; id = id }) d t
told_narrow net k n i (Made id pair at request) t = tt
told_narrow net k n i (Sent id number d) t = tt
told_narrow net k n i (Notice id notice) t = tt
told_narrow net k n i (Gone id facts) t = tt
told_narrow net k n i (Restarted pair) t = tt
told_narrow net k n i (Lost id facts) t = tt

rest_timely : (allow : Book → Name → ℕ) (i : ℕ) (own : Callsign) (ts : List CircuitTold) (b : Book) → Unheeding ts → Timely allow b (events_at i own ts)
rest_timely allow i own [] b u = tt
rest_timely allow i own (Heeded id d ∷ ts) b u = absurd u
rest_timely allow i own (Made id pair at request ∷ ts) b u = (tt, rest_timely allow i own ts (with_event b (record { node = i; own = own; told = Made id pair at request })) u)
rest_timely allow i own (Sent id number d ∷ ts) b u = (tt, rest_timely allow i own ts (with_event b (record { node = i; own = own; told = Sent id number d })) u)
rest_timely allow i own (Notice id notice ∷ ts) b u = (tt, rest_timely allow i own ts (with_event b (record { node = i; own = own; told = Notice id notice })) u)
rest_timely allow i own (Gone id facts ∷ ts) b u = (tt, rest_timely allow i own ts (with_event b (record { node = i; own = own; told = Gone id facts })) u)
rest_timely allow i own (Restarted pair ∷ ts) b u = (tt, rest_timely allow i own ts (with_event b (record { node = i; own = own; told = Restarted pair })) u)
rest_timely allow i own (Lost id facts ∷ ts) b u = (tt, rest_timely allow i own ts (with_event b (record { node = i; own = own; told = Lost id facts })) u)

all_narrow : (net : Net) (k : Kept net) → NarrowNet net.sets → (i : ℕ) (own : Callsign) (ts : List CircuitTold) → FirstAlone ts → Timely (λ b x. 128) net.book (events_at i own ts) → Timely allowance_at net.book (events_at i own ts)
all_narrow net k n i own [] f t = tt
all_narrow net k n i own (x ∷ ts) f t = (told_narrow net k n i x t.0, rest_timely allowance_at i own ts (with_event net.book (record { node = i; own = own; told = x })) f)

step_timely : (net : Net) (k : Kept net) → NarrowNet net.sets → (st : Step) (o : Option SetState) → Timely (λ b x. 128) net.book (told_at net.sets st.node o st.act) → Timely allowance_at net.book (told_at net.sets st.node o st.act)
step_timely net k n st None t = tt
step_timely net k n st (Some s) t = all_narrow net k n st.node s.own (set_step s st.act).told (step_first s st.act) t

timely_join : (allow : Book → Name → ℕ) (b : Book) (xs ys : List Event) → Timely allow b xs → Timely allow (with_events b xs) ys → Timely allow b (xs ++ ys)
timely_join allow b [] ys s t = t
timely_join allow b (x ∷ xs) ys s t = (s.0, timely_join allow (with_event b x) xs ys s.1 t)

run_timely : (net : Net) (steps : List Step) → Kept net → NarrowNet net.sets → AreSteps steps → Timely (λ b x. 128) net.book (events_of net.sets steps) → Timely allowance_at net.book (events_of net.sets steps)
run_timely net [] k n are t = tt
run_timely net (st ∷ sts) k n are t =
    let told : List Event = told_at net.sets st.node (slice_get net.sets st.node) st.act in
    let rest : List Event = events_of (sets_at net.sets st.node (slice_get net.sets st.node) st.act) sts in
    let parts = timely_parts (λ b x. 128) net.book told rest t in
    let now : Timely allowance_at net.book told = step_timely net k n st (slice_get net.sets st.node) parts.0 in
    let next = step_kept net st k are.0 now in
    timely_join allowance_at net.book told rest now (run_timely (net_step net st) sts next.0 (at_case net.sets st (slice_get net.sets st.node) refl n) are.1 parts.1)

pub narrow_is_timely : NarrowIsTimely
narrow_is_timely sets starts narrow steps are t = run_timely (begins sets) steps (start_kept sets starts) (narrow_starts sets starts narrow) are t
