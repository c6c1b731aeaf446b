-- Each datagram that reached its node was sent before, and came by so many hops: step by step, and as frames are put in the air.
use Rattle.std.proofs.Common.{◌≡◌, ◌∙◌, ◌+◌, ℕ, suc, refl, sym, ap, subst, arith, List, [], ◌∷◌, ◌++◌, length, append_assoc, append-nil, Bool, true, false, inl, inr}
use Rattle.std.specs.Prelude.{◌&&◌, ◌||◌, ◌⊎◌, nat_eq, nat_le, slice_get, Contains, Option, Some, if◌then◌else◌}
use Rattle.std.specs.Cmp.Lexicographic.{pointwise}
use Rattle.std.specs.List.{AllByRecursion}
use Rattle.std.proofs.lemmas.Bool.Decides.{nat_tests}
use Rattle.ax_address.specs.Callsign.{Callsign, same_call}
use Rattle.circuit_table.specs.Events as events
use Rattle.circuit_set.specs.Returning.{told_at_node}
use Rattle.circuit_table.specs.Runs as net
use Rattle.circuit_table.specs.Runs.{Step, events_of, sets_run}
use Rattle.circuit_table.specs.Sets as sets
use Rattle.circuit_table.specs.Sets.{Act, SetState, CircuitTold}
use Rattle.network_file.specs.declared.plan.declarations.Declaration.{Declaration}
use Rattle.network_file.specs.Plan.{Plan}
use Rattle.node_core.specs.Carried.{Borne, Offered, Place, WasBorne, borne_in, is_borne, is_hop, is_of_node, is_passed, is_sent, offers_traced, sends_in}
use Rattle.node_core.specs.Runs.{steps_at}
use Rattle.net_model.specs.declared.air.Aired.{Aired}
use Rattle.net_laws.specs.Hops.{Puts, all_borne, node_at}
use Rattle.net_laws.proofs.Hopping.{Known, Within, borne_append, borne_split, frame_with, get_behind, known_more, known_within, offered_one, or_cases, same_list, within_more}
use Rattle.net_laws.proofs.Lists.{one_of}
use Rattle.net_laws.proofs.Origins.{IsNamed}
use Rattle.net_laws.proofs.Traced.{sent_at}
use Rattle.node_core.proofs.Tracing.{and_left, and_right}

-- ---- a datagram that a node has sent

record FoundSent (es : List events.Event) (place : ℕ) (call : Callsign) (d : List ℕ) : Type 0 where
  id : ℕ
  number : Option ℕ
  told : Contains es (record { node = place; own = call; told = sets.Sent id number d })
  long : nat_le 15 (length d) ≡ true

sent_later : (e : events.Event) (es : List events.Event) (place : ℕ) (call : Callsign) (d : List ℕ) → FoundSent es place call d → FoundSent (e ∷ es) place call d
sent_later e es place call d f = record { id = f.id; number = f.number; told = (suc f.told.0, (let low = f.told.1 in omega (arith, low)), f.told.2); long = f.long }

sent_here : (node place : ℕ) (own call : Callsign) (id : ℕ) (number : Option ℕ) (s d : List ℕ) (es : List events.Event) → node ≡ place → own ≡ call
    → ((pointwise nat_eq s d && nat_le 15 (length d)) ≡ true) ⊎ (is_sent (sent_at place es) d ≡ true) → (is_sent (sent_at place es) d ≡ true → FoundSent es place call d)
    → FoundSent (record { node = node; own = own; told = sets.Sent id number s } ∷ es) place call d
sent_here node place own call id number s d es same mine (inr h) rest = sent_later _ es place call d (rest h)
sent_here node place own call id number s d es same mine (inl h) rest =
    let octets = same_list s d (and_left (pointwise nat_eq s d) (nat_le 15 (length d)) h) in
    record {
      id = id;
      number = number;
      told = (
        0,
        omega arith,
        ap (λ n. record { node = n; own = own; told = sets.Sent id number s }) same
            ∙ (ap (λ c. record { node = place; own = c; told = sets.Sent id number s }) mine ∙ ap (λ x. record { node = place; own = call; told = sets.Sent id number x }) octets),
      );
      long = and_right (pointwise nat_eq s d) (nat_le 15 (length d)) h;
    }

sent_by_told : (node place : ℕ) (own call : Callsign) (t : CircuitTold) (es : List events.Event) (d : List ℕ) → node ≡ place → own ≡ call → is_sent (sends_in (t ∷ told_at_node place es)) d ≡ true
    → (is_sent (sent_at place es) d ≡ true → FoundSent es place call d) → FoundSent (record { node = node; own = own; told = t } ∷ es) place call d
sent_by_told node place own call (sets.Sent id number s) es d same mine e rest =
    sent_here node place own call id number s d es same mine (or_cases (pointwise nat_eq s d && nat_le 15 (length d)) (is_sent (sent_at place es) d) e) rest
sent_by_told node place own call (sets.Made id pair partner request) es d same mine e rest = sent_later _ es place call d (rest e)
sent_by_told node place own call (sets.Heeded id h) es d same mine e rest = sent_later _ es place call d (rest e)
sent_by_told node place own call (sets.Notice id notice) es d same mine e rest = sent_later _ es place call d (rest e)
sent_by_told node place own call (sets.Gone id facts) es d same mine e rest = sent_later _ es place call d (rest e)
sent_by_told node place own call (sets.Restarted pair) es d same mine e rest = sent_later _ es place call d (rest e)
sent_by_told node place own call (sets.Lost id facts) es d same mine e rest = sent_later _ es place call d (rest e)

found_sent : (es : List events.Event) (place : ℕ) (call : Callsign) (d : List ℕ) → AllByRecursion (λ (e : events.Event). e.node ≡ place → e.own ≡ call) es → is_sent (sent_at place es) d ≡ true
    → FoundSent es place call d
found_sent [] place call d a e = absurd (cc e)
found_sent (x ∷ es) place call d a e = by (nat_eq x.node place) refl e (found_sent es place call d a.1)
  where
    by : (b : Bool) → nat_eq x.node place ≡ b → is_sent (sends_in (if b then x.told ∷ told_at_node place es else told_at_node place es)) d ≡ true → (is_sent (sent_at place es) d ≡ true → FoundSent es place call d)
        → FoundSent (x ∷ es) place call d
    by true m f rest =
        let same : x.node ≡ place = grind (arith, nat_tests, m) in
        sent_by_told x.node place x.own call x.told es d same (a.0 same) f rest
    by false m f rest = sent_later x es place call d (rest f)

-- the node at a place has one call
pub named_alike : (ds : List Declaration) (place : ℕ) (d : Declaration) (es : List events.Event) → slice_get ds place ≡ Some d → AllByRecursion (IsNamed ds) es
    → AllByRecursion (λ (e : events.Event). e.node ≡ place → e.own ≡ d.call) es
named_alike ds place d [] at a = tt
named_alike ds place d (e ∷ es) at a = (
  λ same. (let one : a.0.0 ≡ d = (let both : Some a.0.0 ≡ Some d = sym a.0.1 ∙ (ap (slice_get ds) same ∙ at) in cc both) in a.0.2 ∙ ap (λ (x : Declaration). x.call) one),
  named_alike ds place d es at a.1,
)

-- ---- a datagram that came to a node

passed_from : (bs : List Borne) (own : Callsign) (e : List ℕ) → is_passed bs own e ≡ true → (d : List ℕ) × (is_borne bs own d ≡ true) × (is_hop d e ≡ true)
passed_from [] own e h = absurd (cc h)
passed_from (b ∷ bs) own e h = by (or_cases (same_call b.to own && is_hop b.datagram e) (is_passed bs own e) h) (passed_from bs own e)
  where
    itself : (xs : List ℕ) → pointwise nat_eq xs xs ≡ true
    itself [] = refl
    itself (x ∷ xs) = (let f : nat_eq x x ≡ true = grind (arith, nat_tests) in ap (λ c. c && pointwise nat_eq xs xs) f) ∙ itself xs

    first : (p q r : Bool) → p ≡ true → q ≡ true → ((p && q) || r) ≡ true
    first p q r f g = rw (f, g) refl

    second : (p r : Bool) → r ≡ true → (p || r) ≡ true
    second true r f = refl
    second false r f = f

    by : ((same_call b.to own && is_hop b.datagram e) ≡ true) ⊎ (is_passed bs own e ≡ true) → (is_passed bs own e ≡ true → (d : List ℕ) × (is_borne bs own d ≡ true) × (is_hop d e ≡ true))
        → (d : List ℕ) × (is_borne (b ∷ bs) own d ≡ true) × (is_hop d e ≡ true)
    by (inl f) rest = (
      b.datagram,
      first (same_call b.to own) (pointwise nat_eq b.datagram b.datagram) (is_borne bs own b.datagram) (and_left (same_call b.to own) (is_hop b.datagram e) f) (itself b.datagram),
      and_right (same_call b.to own) (is_hop b.datagram e) f,
    )
    by (inr f) rest = let r = rest f in (r.0, second (same_call b.to own && pointwise nat_eq b.datagram r.0) (is_borne bs own r.0) r.1, r.2)

module _ (plan : Plan) (size : ℕ) where
  -- ---- frames that a node puts in the air

  abbrev pub KnownAir : List events.Event → List Aired → Type 0
  KnownAir es air = (to : Callsign) (d : List ℕ) → is_borne (all_borne size air) to d ≡ true → Known plan size es air to d

  module _ (es : List events.Event) (air new : List Aired) (place : ℕ) (p : Declaration) (at : node_at plan place ≡ Some p) (named : AllByRecursion (λ (e : events.Event). e.node ≡ place → e.own ≡ p.call) es) (known : KnownAir es air) where
    abbrev here : Place
    here = record { size = size; own = p.call; borne = all_borne size air }

    more : (to : Callsign) (d : List ℕ) → Known plan size es air to d → Known plan size es (air ++ new) to d
    more to d k = known_within plan size es air (air ++ new) (within_more air new) to d k

    abbrev IsNew : Aired → Type 0
    IsNew f = (f.sender ≡ p.node) × AllByRecursion (Offered (offers_traced here (sent_at place es))) (borne_in size f.octets.items)

    put_there : (f : Aired) (k : ℕ) (to : Callsign) (d : List ℕ) → slice_get new k ≡ Some f → f.sender ≡ p.node → is_borne (borne_in size f.octets.items) to d ≡ true → Puts plan size (air ++ new) p.call to d
    put_there f k to d there sender e = record {
      at = length air + k;
      frame = f;
      there = get_behind air new k f there;
      carries = e;
      place = place;
      node = p;
      is = at;
      call = refl;
      sender = sender;
    }

    new_sent : (f : Aired) (to : Callsign) (d : List ℕ) → Puts plan size (air ++ new) p.call to d → is_sent (sent_at place es) d ≡ true → Known plan size es (air ++ new) to d
    new_sent f to d puts e =
        let s = found_sent es place p.call d named e in
        record { node = place; own = p.call; id = s.id; number = s.number; sent = d; told = s.told; long = s.long; hops = 0; came = (refl, puts) }

    new_passed : (f : Aired) (to : Callsign) (d : List ℕ) → Puts plan size (air ++ new) p.call to d → is_passed here.borne p.call d ≡ true → Known plan size es (air ++ new) to d
    new_passed f to d puts e =
        let one = passed_from here.borne p.call d e in
        let k = more p.call one.0 (known p.call one.0 one.1) in
        record {
          node = k.node;
          own = k.own;
          id = k.id;
          number = k.number;
          sent = k.sent;
          told = k.told;
          long = k.long;
          hops = suc k.hops;
          came = (p.call, one.0, k.came, one.2, puts);
        }

    new_by : (f : Aired) (to : Callsign) (d : List ℕ) → Puts plan size (air ++ new) p.call to d → (is_of_node here (sent_at place es) d || is_borne here.borne to d) ≡ true → Known plan size es (air ++ new) to d
    new_by f to d puts e = by (or_cases (is_of_node here (sent_at place es) d) (is_borne here.borne to d) e)
      where
        own : (is_sent (sent_at place es) d ≡ true) ⊎ (is_passed here.borne p.call d ≡ true) → Known plan size es (air ++ new) to d
        own (inl h) = new_sent f to d puts h
        own (inr h) = new_passed f to d puts h

        by : (is_of_node here (sent_at place es) d ≡ true) ⊎ (is_borne here.borne to d ≡ true) → Known plan size es (air ++ new) to d
        by (inl h) = own (or_cases (is_sent (sent_at place es) d) (is_passed here.borne p.call d) h)
        by (inr h) = more to d (known to d h)

    new_one : AllByRecursion IsNew new → (to : Callsign) (d : List ℕ) → is_borne (all_borne size new) to d ≡ true → Known plan size es (air ++ new) to d
    new_one a to d e =
        let r = frame_with size new to d e in
        let n : IsNew r.1 = one_of IsNew new r.0 r.1 a r.2 in
        new_by r.1 to d (put_there r.1 r.0 to d r.2 n.0 r.3)
        (offered_one (λ c x. is_of_node here (sent_at place es) x || is_borne here.borne c x) (borne_in size r.1.octets.items) to d n.1 r.3)

    pub new_known : AllByRecursion IsNew new → KnownAir es (air ++ new)
    new_known a to d e = by (borne_split (all_borne size air) (all_borne size new) to d (ap (λ bs. is_borne bs to d) (sym (borne_append size air new)) ∙ e))
      where
        by : (is_borne (all_borne size air) to d ≡ true) ⊎ (is_borne (all_borne size new) to d ≡ true) → Known plan size es (air ++ new) to d
        by (inl h) = more to d (known to d h)
        by (inr h) = new_one a to d h

  -- ---- step by step

  abbrev pub ActCame : List events.Event → List Aired → ℕ → Act → Type 0
  ActCame es air place (sets.Comes d now) = (p : Declaration) × (node_at plan place ≡ Some p) × Known plan size es air p.call d
  ActCame es air place act = Unit {0}

  abbrev pub StepsCame : List events.Event → List Aired → List SetState → List Step → Type 0
  StepsCame es air ss [] = Unit {0}
  StepsCame es air ss (st ∷ sts) =
      ActCame es air st.node st.act × StepsCame (es ++ net.told_at ss st.node (slice_get ss st.node) st.act) air (net.sets_at ss st.node (slice_get ss st.node) st.act) sts

  pub came_both : (es : List events.Event) (air : List Aired) (ss : List SetState) (xs ys : List Step) → StepsCame es air ss xs → StepsCame (es ++ events_of ss xs) air (sets_run ss xs) ys → StepsCame es air ss (xs ++ ys)
  came_both es air ss [] ys a b = subst (λ x. StepsCame x air ss ys) (append-nil es) b
  came_both es air ss (st ∷ xs) ys a b =
      let now = net.told_at ss st.node (slice_get ss st.node) st.act in
      let then_sets = net.sets_at ss st.node (slice_get ss st.node) st.act in (
        a.0,
        came_both (es ++ now) air then_sets xs ys a.1 (subst (λ x. StepsCame x air (sets_run then_sets xs) ys) (sym (append_assoc es now (events_of then_sets xs))) b),
      )

  pub came_at : (es : List events.Event) (air : List Aired) (ss : List SetState) (xs : List Step) (y : Step) (ys : List Step) → StepsCame es air ss (xs ++ y ∷ ys) → ActCame (es ++ events_of ss xs) air y.node y.act
  came_at es air ss [] y ys t = subst (λ x. ActCame x air y.node y.act) (sym (append-nil es)) t.0
  came_at es air ss (x ∷ xs) y ys t =
      let now = net.told_at ss x.node (slice_get ss x.node) x.act in
      let then_sets = net.sets_at ss x.node (slice_get ss x.node) x.act in
      subst (λ z. ActCame z air y.node y.act) (append_assoc es now (events_of then_sets xs)) (came_at (es ++ now) air then_sets xs y ys t.1)

  act_within : (es : List events.Event) (air air2 : List Aired) → Within air air2 → (place : ℕ) (a : Act) → ActCame es air place a → ActCame es air2 place a
  act_within es air air2 w place (sets.Comes d now) c = (c.0, c.1, known_within plan size es air air2 w c.0.call d c.2)
  act_within es air air2 w place (sets.Connect dest now) c = tt
  act_within es air air2 w place (sets.ConnectFor user dest now) c = tt
  act_within es air air2 w place (sets.Calls id call now) c = tt
  act_within es air air2 w place (sets.Discard id) c = tt
  act_within es air air2 w place (sets.Restart pair more) c = tt

  pub steps_within : (es : List events.Event) (air air2 : List Aired) → Within air air2 → (ss : List SetState) (sts : List Step) → StepsCame es air ss sts → StepsCame es air2 ss sts
  steps_within es air air2 w ss [] c = tt
  steps_within es air air2 w ss (st ∷ sts) c = (
    act_within es air air2 w st.node st.act c.0,
    steps_within (es ++ net.told_at ss st.node (slice_get ss st.node) st.act) air air2 w (net.sets_at ss st.node (slice_get ss st.node) st.act) sts c.1,
  )

  module _ (here : Place) (place : ℕ) (p : Declaration) (at : node_at plan place ≡ Some p) (air : List Aired) where
    act_came : (es : List events.Event) → ((d : List ℕ) → is_borne here.borne here.own d ≡ true → Known plan size es air p.call d) → (a : Act) → WasBorne here a → ActCame es air place a
    act_came es known (sets.Comes d now) b = (p, at, known d b)
    act_came es known (sets.Connect dest now) b = tt
    act_came es known (sets.ConnectFor user dest now) b = tt
    act_came es known (sets.Calls id call now) b = tt
    act_came es known (sets.Discard id) b = tt
    act_came es known (sets.Restart pair more) b = tt

    pub inputs_came : (inputs : List Act) (es : List events.Event) (ss : List SetState) → ((d : List ℕ) → is_borne here.borne here.own d ≡ true → Known plan size es air p.call d) → AllByRecursion (WasBorne here) inputs
        → StepsCame es air ss (steps_at place inputs)
    inputs_came [] es ss known a = tt
    inputs_came (x ∷ inputs) es ss known a =
        let now = net.told_at ss place (slice_get ss place) x in (
          act_came es known x a.0,
          inputs_came inputs (es ++ now) (net.sets_at ss place (slice_get ss place) x) (λ d b. known_more plan size es now air p.call d (known d b)) a.1,
        )
