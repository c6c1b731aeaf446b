-- Each move of a world goes on with the run of its circuits.
use Rattle.std.proofs.Common.{◌≡◌, ◌∙◌, ◌+◌, ◌-◌, ◌<◌, ◌≤◌, ℕ, zero, suc, refl, sym, ap, subst, arith, List, [], ◌∷◌, ◌++◌, length, map, filter, Bool, true, false, cond}
use Rattle.std.specs.Prelude.{◌≢◌, ◌==◌, nat_eq, slice_get, Some, None, Result, Ok, Err}
use Rattle.std.specs.List.{AllByRecursion, flat_map, position_or_len, range_with_len}
use Rattle.std.proofs.lemmas.List.{length-append}
use Rattle.ax_address.specs.Callsign.{Callsign}
use Rattle.circuit_l4.specs.declared.pair.Pair.{Pair}
use Rattle.circuit_l4.specs.Opening.{facts_of}
use Rattle.circuit_table.specs.Events as set_events
use Rattle.circuit_table.specs.CircuitSets.{facts_at}
use Rattle.circuit_table.specs.Pumps as pumps
use Rattle.circuit_table.specs.Pumps.{at_rest}
use Rattle.circuit_table.specs.Runs as net
use Rattle.circuit_table.specs.Sets as sets
use Rattle.circuit_table.specs.Sets.{Holder, SetState, CircuitTold, all_gone, end_of, losses}
use Rattle.link_table.specs.Calls as links
use Rattle.link_table.specs.declared.path_refusal.PathRefusal.{PathRefusal}
use Rattle.network_file.specs.declared.plan.declarations.Declaration.{Declaration}
use Rattle.network_file.specs.declared.plan.vias.Via.{Via}
use Rattle.network_file.specs.declared.plan.keys.Key.TheVariants.{TimeToLive}
use Rattle.network_file.specs.Plan.{Plan}
use Rattle.network_file.specs.Keys.{value_of}
use Rattle.node_core.specs.Configs.{new_node}
use Rattle.node_core.specs.Runs.{MadeFrom, circuits_told}
use Rattle.node_model.specs.States as states
use Rattle.node_model.specs.States.{NodeState}
use Rattle.net_model.specs.declared.ends.EndRecord.{EndRecord}
use Rattle.net_model.specs.declared.outcome.Outcome.{Outcome}
use Rattle.net_model.specs.declared.outcome.Outcome.TheVariants as outcomes
use Rattle.net_model.specs.SoundPlans.{set_of}
use Rattle.net_model.specs.Circuits.{CircuitEvent}
use Rattle.net_model.specs.Ends.{ends_of, note_entry, note_event, note_events, note_told, with_outcome}
use Rattle.net_model.specs.Events as events
use Rattle.net_model.specs.Events.{Event, NumberedEvent}
use Rattle.net_model.specs.Lines.{loss_of, losses_of}
use Rattle.net_model.specs.Starting.{Placed, started, has_number}
use Rattle.node_settings.specs.Settings.{config_of, is_via_of, path_of, with_via, with_via_by, with_vias}
use Rattle.net_model.specs.World.{all_fetched_of, numbered}
use Rattle.net_model.proofs.Containing.{Tracks, at_name, ends_config, events_by, told_by}
use Rattle.net_model.proofs.Remembering.{Past, Rising, below_none, lift, rising_le, rising_more}

-- ---- what the entries of a node tell

same_number : (n : ℕ) → (n == n) ≡ true
same_number n = grind arith

other_number : (n m : ℕ) → n ≢ m → (m == n) ≡ false
other_number n m d = grind (arith, d)

outcome_length : (o : Outcome) (at : ℕ) (ends : List EndRecord) → length (with_outcome o at ends) ≡ length ends
outcome_length o at [] = refl
outcome_length o zero (e ∷ ends) = refl
outcome_length o (suc at) (e ∷ ends) = ap suc (outcome_length o at ends)

-- one more that is told: numbers go on where an end is made
record Next (first : ℕ) (ts : List CircuitTold) (next : ℕ) (t : CircuitTold) (ends : List EndRecord) : Type 0 where
  then : ℕ
  made : MadeFrom then ts next
  long : length (note_told t ends) + first ≡ length ends + then

next_made : (first next : ℕ) (t : CircuitTold) (ts : List CircuitTold) (ends : List EndRecord) → MadeFrom first (t ∷ ts) next → Next first ts next t ends
next_made first next (sets.Made id pair partner request) ts ends m =
    record { then = first + 1; made = m.1; long = simp length-append (omega arith) }
next_made first next (sets.Sent id number d) ts ends m = record { then = first; made = m; long = refl }
next_made first next (sets.Heeded id d) ts ends m = record { then = first; made = m; long = refl }
next_made first next (sets.Notice id n) ts ends m = record { then = first; made = m; long = refl }
next_made first next (sets.Gone id facts) ts ends m = record { then = first; made = m; long = ap (λ n. n + first) (outcome_length _ _ ends) }
next_made first next (sets.Restarted pair) ts ends m = record { then = first; made = m; long = refl }
next_made first next (sets.Lost id facts) ts ends m = record { then = first; made = m; long = refl }

abbrev pub told_entries : ℕ → ℕ → List states.Entry → List NumberedEvent
told_entries line number entries = map (numbered line) (map (events.Entry number) entries)

-- the number of ends that a node ever made grows as it tells
pub made_length : (line number : ℕ) (entries : List states.Entry) (first next : ℕ) (ends : List EndRecord) → MadeFrom first (circuits_told entries) next
    → length (note_events number (told_entries line number entries) ends) + first ≡ length ends + next
made_length line number [] first next ends m = let e : next ≡ first = m in omega (arith, e)
made_length line number (states.Of_set (pumps.Of t) ∷ es) first next ends m =
    let n : Next first (circuits_told es) next t ends = next_made first next t (circuits_told es) ends m in
    let rest = made_length line number es n.then next (note_told t ends) n.made in
    let long = n.long in
    let one : note_event number (events.Entry number (states.Of_set (pumps.Of t))) ends ≡ note_told t ends = ap (λ b. cond b (note_told t ends) ends) (same_number number) in
    ap (λ x. length (note_events number (told_entries line number es) x) + first) one ∙ omega (arith, rest, long)
made_length line number (states.Of_set (pumps.Dropped r) ∷ es) first next ends m =
    ap (λ x. length (note_events number (told_entries line number es) x) + first) (ap (λ b. cond b ends ends) (same_number number)) ∙ made_length line number es first next ends m
made_length line number (states.Of_set (pumps.Lost c) ∷ es) first next ends m =
    ap (λ x. length (note_events number (told_entries line number es) x) + first) (ap (λ b. cond b ends ends) (same_number number)) ∙ made_length line number es first next ends m
made_length line number (states.Of_link peer notice ∷ es) first next ends m =
    ap (λ x. length (note_events number (told_entries line number es) x) + first) (ap (λ b. cond b ends ends) (same_number number)) ∙ made_length line number es first next ends m
made_length line number (states.Overflow live would_be ∷ es) first next ends m =
    ap (λ x. length (note_events number (told_entries line number es) x) + first) (ap (λ b. cond b ends ends) (same_number number)) ∙ made_length line number es first next ends m

skipped : (n number : ℕ) (e : states.Entry) (ends : List EndRecord) → n ≢ number → note_event n (events.Entry number e) ends ≡ ends
skipped n number e ends d = ap (λ b. cond b (note_entry e ends) ends) (other_number n number d)

-- no other node's ends
pub entries_other : (line number n : ℕ) (entries : List states.Entry) (ends : List EndRecord) → n ≢ number → note_events n (told_entries line number entries) ends ≡ ends
entries_other line number n [] ends d = refl
entries_other line number n (e ∷ es) ends d =
    ap (note_events n (told_entries line number es)) (skipped n number e ends d) ∙ entries_other line number n es ends d

-- what is told of circuits, where the node stands at this place
abbrev pub TellsAt : List Declaration → ℕ → ℕ → Callsign → Type 0
TellsAt ds number at call = (line : ℕ) (told : CircuitTold) → told_by ds line number told ≡ record { line = line; event = record { node = at; own = call; told = told } } ∷ []

pub tells_at : (ds : List Declaration) (number at : ℕ) (d : Declaration) → position_or_len (has_number number) ds ≡ at → slice_get ds at ≡ Some d → TellsAt ds number at d.call
tells_at ds number at d p e line told =
    ap (λ k. at_name line k (slice_get ds k) told) p ∙ ap (λ o. at_name line at o told) e

abbrev pub event : CircuitEvent → set_events.Event
event e = e.event

pub entries_tell : (ds : List Declaration) (line number at : ℕ) (call : Callsign) → TellsAt ds number at call → (entries : List states.Entry)
    → map event (events_by ds (told_entries line number entries)) ≡ net.events_at at call (circuits_told entries)
entries_tell ds line number at call t [] = refl
entries_tell ds line number at call t (states.Of_set (pumps.Of told) ∷ es) =
    ap (λ xs. map event (xs ++ events_by ds (told_entries line number es))) (t line told)
    ∙ ap (λ xs. record { node = at; own = call; told = told } ∷ xs) (entries_tell ds line number at call t es)
entries_tell ds line number at call t (states.Of_set (pumps.Dropped r) ∷ es) = entries_tell ds line number at call t es
entries_tell ds line number at call t (states.Of_set (pumps.Lost c) ∷ es) = entries_tell ds line number at call t es
entries_tell ds line number at call t (states.Of_link peer notice ∷ es) = entries_tell ds line number at call t es
entries_tell ds line number at call t (states.Overflow live would_be ∷ es) = entries_tell ds line number at call t es

-- ---- what a restart tells: the ends that are held, by number

abbrev pub lost_events : ℕ → List Holder → List Event
lost_events number [] = []
lost_events number (h ∷ hs) = cond h.gone (lost_events number hs) (events.Lost number h.id (facts_of h.end) ∷ lost_events number hs)

abbrev loss : ℕ → List Holder → ℕ → List Event
loss number full id = loss_of number id (facts_at (end_of id full))

here_loss : (b : Bool) (number lo : ℕ) (h : Holder) (rest : List Event) → h.gone ≡ b → h.id ≡ lo
    → loss_of number lo (facts_at (Some h)) ++ rest ≡ cond h.gone rest (events.Lost number h.id (facts_of h.end) ∷ rest)
here_loss true number lo h rest g i =
    ap (λ b. loss_of number lo (cond b None (Some (facts_of h.end))) ++ rest) g ∙ sym (ap (λ b. cond b rest (events.Lost number h.id (facts_of h.end) ∷ rest)) g)
here_loss false number lo h rest g i =
    ap (λ b. loss_of number lo (cond b None (Some (facts_of h.end))) ++ rest) g
    ∙ (ap (λ n. events.Lost number n (facts_of h.end) ∷ rest) (sym i) ∙ sym (ap (λ b. cond b rest (events.Lost number h.id (facts_of h.end) ∷ rest)) g))

-- from `lo` on a list of ends is the rest of all
abbrev Agrees : ℕ → List Holder → List Holder → Type 0
Agrees lo full ends = (id : ℕ) → lo ≤ id → end_of id full ≡ end_of id ends

end_next : (id : ℕ) (h : Holder) (hs : List Holder) → h.id < id → end_of id (h ∷ hs) ≡ end_of id hs
end_next id h hs k = let apart : nat_eq h.id id ≡ false = grind (arith, k) in ap (λ b. cond b (Some h) (end_of id hs)) apart

end_here : (id : ℕ) (h : Holder) (hs : List Holder) → h.id ≡ id → end_of id (h ∷ hs) ≡ Some h
end_here id h hs k = let same : nat_eq h.id id ≡ true = grind (arith, k) in ap (λ b. cond b (Some h) (end_of id hs)) same

abbrev lost_from : ℕ → List Holder → ℕ → ℕ → List Event
lost_from number full lo count = flat_map (loss number full) (range_with_len lo count)

losses_case : (number count lo : ℕ) (full : List Holder) (h : Holder) (hs : List Holder) → ((lo2 : ℕ) (ends : List Holder) → Agrees lo2 full ends → Rising lo2 ends (lo2 + count) → lost_from number full lo2 count ≡ lost_events number ends)
    → Agrees lo full (h ∷ hs) → Rising lo (h ∷ hs) (lo + suc count) → (b : Bool) → nat_eq h.id lo ≡ b → loss number full lo ++ lost_from number full (lo + 1) count ≡ lost_events number (h ∷ hs)
losses_case number count lo full h hs rest a r true e =
    let same : h.id ≡ lo = grind (arith, e) in
    let rises : Rising (lo + 1) hs ((lo + 1) + count) =
    subst (λ n. Rising (lo + 1) hs n) (let n : lo + suc count ≡ (lo + 1) + count = omega arith in n) (subst (λ n. Rising n hs (lo + suc count)) (let n : suc h.id ≡ lo + 1 = omega (arith, same) in n) r.1) in
    let more = rest (lo + 1) hs (λ id k. a id (omega (arith, k)) ∙ end_next id h hs (omega (arith, k, same))) rises in
    ap (λ o. loss_of number lo (facts_at o) ++ lost_from number full (lo + 1) count) (a lo (omega arith) ∙ end_here lo h hs same)
    ∙ (ap (λ xs. loss_of number lo (facts_at (Some h)) ++ xs) more ∙ here_loss h.gone number lo h (lost_events number hs) refl same)
losses_case number count lo full h hs rest a r false e =
    let up : lo ≤ h.id = r.0 in
    let above : lo < h.id = (let apart : h.id ≢ lo = λ same. (let bad : ⊥ = grind (arith, e, same) in bad) in grind (arith, up, apart)) in
    let rises : Rising (lo + 1) (h ∷ hs) ((lo + 1) + count) =
    (omega (arith, above), subst (λ n. Rising (suc h.id) hs n) (let n : lo + suc count ≡ (lo + 1) + count = omega arith in n) r.1) in
    ap (λ o. loss_of number lo (facts_at o) ++ lost_from number full (lo + 1) count) (a lo (omega arith) ∙ below_none lo (suc lo) (lo + suc count) (h ∷ hs) (omega arith) (omega (arith, above), r.1))
    ∙ rest (lo + 1) (h ∷ hs) (λ id k. a id (omega (arith, k))) rises

losses_from : (number count lo : ℕ) (full ends : List Holder) → Agrees lo full ends → Rising lo ends (lo + count) → lost_from number full lo count ≡ lost_events number ends
losses_from number zero lo full [] a r = refl
losses_from number zero lo full (h ∷ hs) a r =
    let up : lo ≤ h.id = r.0 in
    let high : suc h.id ≤ lo + 0 = rising_le (suc h.id) (lo + 0) hs r.1 in
    absurd (omega (arith, up, high))
losses_from number (suc count) lo full [] a r =
    ap (λ o. loss_of number lo (facts_at o) ++ lost_from number full (lo + 1) count) (a lo (omega arith))
    ∙ losses_from number count (lo + 1) full [] (λ id k. a id (omega (arith, k))) (omega arith)
losses_from number (suc count) lo full (h ∷ hs) a r = losses_case number count lo full h hs (λ lo2 ends. losses_from number count lo2 full ends) a r (nat_eq h.id lo) refl

pub losses_are : (number made base : ℕ) (ends : List Holder) → 1 ≤ base → Rising base ends (made + 1) → losses_of number made ends ≡ lost_events number ends
losses_are number made base ends some r =
    losses_from number made 1 ends ends (λ id k. refl)
    (subst (λ n. Rising 1 ends n) (let n : made + 1 ≡ 1 + made = omega arith in n) (rising_more base 1 (made + 1) ends some r))

lost_case : (ds : List Declaration) (line number at : ℕ) (call : Callsign) → TellsAt ds number at call → (h : Holder) (hs : List Holder) (b : Bool)
    → map event (events_by ds (map (numbered line) (lost_events number hs))) ≡ net.events_at at call (losses hs)
    → map event (events_by ds (map (numbered line) (cond b (lost_events number hs) (events.Lost number h.id (facts_of h.end) ∷ lost_events number hs))))
    ≡ net.events_at at call (cond b (losses hs) (sets.Lost h.id (facts_of h.end) ∷ losses hs))
lost_case ds line number at call t h hs true rest = rest
lost_case ds line number at call t h hs false rest =
    ap (λ xs. map event (xs ++ events_by ds (map (numbered line) (lost_events number hs)))) (t line (sets.Lost h.id (facts_of h.end)))
    ∙ ap (λ xs. record { node = at; own = call; told = sets.Lost h.id (facts_of h.end) } ∷ xs) rest

pub lost_tell : (ds : List Declaration) (line number at : ℕ) (call : Callsign) → TellsAt ds number at call → (hs : List Holder)
    → map event (events_by ds (map (numbered line) (lost_events number hs))) ≡ net.events_at at call (losses hs)
lost_tell ds line number at call t [] = refl
lost_tell ds line number at call t (h ∷ hs) = lost_case ds line number at call t h hs h.gone (lost_tell ds line number at call t hs)

-- they make no ends, and are none of another node
lost_length_case : (line number : ℕ) (h : Holder) (hs : List Holder) (ends : List EndRecord) (b : Bool)
    → ((es : List EndRecord) → length (note_events number (map (numbered line) (lost_events number hs)) es) ≡ length es)
    → length (note_events number (map (numbered line) (cond b (lost_events number hs) (events.Lost number h.id (facts_of h.end) ∷ lost_events number hs))) ends) ≡ length ends
lost_length_case line number h hs ends true rest = rest ends
lost_length_case line number h hs ends false rest =
    rest (note_event number (events.Lost number h.id (facts_of h.end)) ends)
    ∙ (ap (λ b. length (cond b (with_outcome (outcomes.Lost (facts_of h.end)) (h.id - 1) ends) ends)) (same_number number) ∙ outcome_length _ _ ends)

pub lost_length : (line number : ℕ) (hs : List Holder) (ends : List EndRecord) → length (note_events number (map (numbered line) (lost_events number hs)) ends) ≡ length ends
lost_length line number [] ends = refl
lost_length line number (h ∷ hs) ends = lost_length_case line number h hs ends h.gone (lost_length line number hs)

lost_other_case : (line number n : ℕ) (h : Holder) (hs : List Holder) (ends : List EndRecord) (b : Bool) → n ≢ number
    → ((es : List EndRecord) → note_events n (map (numbered line) (lost_events number hs)) es ≡ es)
    → note_events n (map (numbered line) (cond b (lost_events number hs) (events.Lost number h.id (facts_of h.end) ∷ lost_events number hs))) ends ≡ ends
lost_other_case line number n h hs ends true d rest = rest ends
lost_other_case line number n h hs ends false d rest =
    rest (note_event n (events.Lost number h.id (facts_of h.end)) ends)
    ∙ ap (λ b. cond b (with_outcome (outcomes.Lost (facts_of h.end)) (h.id - 1) ends) ends) (other_number n number d)

pub lost_other : (line number n : ℕ) (hs : List Holder) (ends : List EndRecord) → n ≢ number → note_events n (map (numbered line) (lost_events number hs)) ends ≡ ends
lost_other line number n [] ends d = refl
lost_other line number n (h ∷ hs) ends d = lost_other_case line number n h hs ends h.gone d (λ es. lost_other line number n hs es d)

-- ---- a node as it starts

via_set : (r : Result (Unit {0}) PathRefusal) (via : Via) (n : NodeState) → ((with_via_by r via n).station.set ≡ n.station.set) × ((with_via_by r via n).station.entries ≡ n.station.entries)
via_set (Ok _) via n = (refl, refl)
via_set (Err why) via n = (refl, refl)

vias_set : (vias : List Via) (n : NodeState) → ((with_vias vias n).station.set ≡ n.station.set) × ((with_vias vias n).station.entries ≡ n.station.entries)
vias_set [] n = (refl, refl)
vias_set (via ∷ vias) n =
    let one = via_set (links.path_answer via.peer (path_of via) n.station.links) via n in
    let more = vias_set vias (with_via via n) in (more.0 ∙ one.0, more.1 ∙ one.1)

abbrev pub first_set : Plan → Declaration → Pair → ℕ → SetState
first_set plan d pair first = sets.new_set d.call (value_of plan.settings d.node TimeToLive) d.call (ends_config plan d) pair first

started_set : (plan : Plan) (d : Declaration) (pair : Pair) (first : ℕ) → ((started plan d pair first).station.set ≡ at_rest (first_set plan d pair first)) × ((started plan d pair first).station.entries ≡ [])
started_set plan d pair first = vias_set (filter (is_via_of d.node) plan.vias) (new_node (config_of plan.settings d pair first))

abbrev pub placed : Plan → Declaration → Pair → ℕ → Placed
placed plan d pair first = record { declared = d; state = started plan d pair first }

pub set_is : (plan : Plan) (d : Declaration) (pair : Pair) (first : ℕ) → set_of (placed plan d pair first) ≡ first_set plan d pair first
set_is plan d pair first = ap (λ w. w.set) (started_set plan d pair first).0

-- it is tracked, where the run's set has ends that are gone besides
pub new_tracks : (plan : Plan) (told : List NumberedEvent) (d : Declaration) (pair : Pair) (first base : ℕ) (past : List Holder) (s : SetState) → Past base past → 1 ≤ base → base ≤ first
    → first ≡ length (ends_of d.node told) + 1 → s ≡ lift past (first_set plan d pair first) → Tracks plan told s (placed plan d pair first)
new_tracks plan told d pair first base past s lost some low number is =
    let set : set_of (placed plan d pair first) ≡ first_set plan d pair first = set_is plan d pair first in
    record {
      past = past;
      base = base;
      some = some;
      lost = lost;
      is = is ∙ ap (lift past) (sym set);
      rises = subst (λ (x : SetState). Rising base x.ends x.number) (sym set) low;
      rest = (started_set plan d pair first).0 ∙ ap at_rest (sym set);
      heard = (started_set plan d pair first).1;
      number = ap (λ (x : SetState). x.number) set ∙ number;
      own = ap (λ (x : SetState). x.own) set;
      ttl = ap (λ (x : SetState). x.ttl) set;
      user = ap (λ (x : SetState). x.user) set;
      config = ap (λ (x : SetState). x.config) set;
    }

pub all_gone_gone : (hs : List Holder) → AllByRecursion (λ (h : Holder). h.gone ≡ true) (all_gone hs)
all_gone_gone [] = tt
all_gone_gone (h ∷ hs) = (refl, all_gone_gone hs)

pub past_below : (base high : ℕ) (past ends : List Holder) → base ≤ high → AllByRecursion (λ (h : Holder). h.id < base) past → Rising base ends high
    → AllByRecursion (λ (h : Holder). h.id < high) (all_gone (past ++ ends))
past_below base high [] [] k a r = tt
past_below base high [] (h ∷ hs) k a r = (
  let more : suc h.id ≤ high = rising_le (suc h.id) high hs r.1 in omega (arith, more),
  past_below base high [] hs k tt (rising_more (suc h.id) base high hs (let up : base ≤ h.id = r.0 in omega (arith, up)) r.1),
)
past_below base high (h ∷ past) ends k a r = (let low : h.id < base = a.0 in omega (arith, low, k), past_below base high past ends k a.1 r)

-- two sets are one where all their parts are
pub same_set : (s t : SetState) → s.own ≡ t.own → s.ttl ≡ t.ttl → s.user ≡ t.user → s.config ≡ t.config → s.next ≡ t.next → s.number ≡ t.number → s.ends ≡ t.ends → s ≡ t
same_set s t a b c d e f g =
    ap (λ x. record s { own = x }) a
    ∙ (ap (λ x. record s { own = t.own; ttl = x }) b
    ∙ (ap (λ x. record s { own = t.own; ttl = t.ttl; user = x }) c
    ∙ (ap (λ x. record s { own = t.own; ttl = t.ttl; user = t.user; config = x }) d
    ∙ (ap (λ x. record s { own = t.own; ttl = t.ttl; user = t.user; config = t.config; next = x }) e
    ∙ (ap (λ x. record s { own = t.own; ttl = t.ttl; user = t.user; config = t.config; next = t.next; number = x }) f
    ∙ ap (λ x. record s { own = t.own; ttl = t.ttl; user = t.user; config = t.config; next = t.next; number = t.number; ends = x }) g)))))

-- its frames are fetched, and no end is made
pub sent_tracks : (plan : Plan) (told told2 : List NumberedEvent) (s : SetState) (p : Placed) → length (ends_of p.declared.node told2) ≡ length (ends_of p.declared.node told) → Tracks plan told s p
    → Tracks plan told2 s (record p { state = all_fetched_of p.state })
sent_tracks plan told told2 s p e t = record {
  past = t.past;
  base = t.base;
  some = t.some;
  lost = t.lost;
  is = t.is;
  rises = t.rises;
  rest = t.rest;
  heard = t.heard;
  number = t.number ∙ ap (λ n. n + 1) (sym e);
  own = t.own;
  ttl = t.ttl;
  user = t.user;
  config = t.config;
}
