-- What is left to do, as the code sees it.
use Rattle.std.proofs.Common.{◌≡◌, ◌≤◌, ◌<◌, ◌+◌, ◌*◌, ◌⊎◌, inl, inr, ℕ, suc, refl, arith, length, List, [], ◌∷◌, map}
use Rattle.std.specs.Prelude.{false, not, ◌&&◌, ◌||◌, nat_eq, nat_lt, max, if◌then◌else◌}
use Rattle.std.proofs.lemmas.Bool.Decides.{nat_tests}
use Rattle.ax_address.specs.Callsign.{Callsign}
use Rattle.circuit_table.specs.Sets as sets
use Rattle.circuit_table.specs.Sets.{CircuitTold, has_ended}
use Rattle.circuit_table.specs.Standing.{EachStands, Here, Keeps, Past}
use Rattle.circuit_table.specs.declared.holder.Holder.{Holder}
use Rattle.link_table.specs.Kept.{CountsPayloads, kept_payloads}
use Rattle.node_core.specs.declared.station.Station.{Station}
use Rattle.node_model.specs.Links as links
use Rattle.node_model.specs.Pumping.{pending}
use Rattle.node_model.specs.Sessions.{Session, bare}
use Rattle.node_model.specs.Serving.{has_some}
use Rattle.node_core.specs.Standing.{Holds}
use Rattle.node_model.specs.States.{State}
use Rattle.node_model.proofs.Weights.{end_messages, filled, is_among, left, messages, messages_but, most_at, one_unless, sessions_work, text_cost}

-- ---- messages at the ends that are held

abbrev pub kept_messages : Holder → ℕ
kept_messages k =
    let i = k.end.incoming in
    if k.discarded || (has_ended k.end.phase && nat_eq (length i.messages) 0) then 0 else length i.messages + filled i.early

abbrev pub all_kept : List (ℕ × Holder) → ℕ
all_kept [] = 0
all_kept (e ∷ es) = kept_messages e.1 + all_kept es

same_messages : (own : Callsign) (ttl id : ℕ) (k : Holder) (h : sets.Holder) (told : List CircuitTold) → Keeps own ttl id k h told → kept_messages k ≡ end_messages h
same_messages own ttl id k h told x = rw (x.is, x.stands.is, x.stands.receiving.messages, x.stands.receiving.early) refl

-- ---- each number stands once

abbrev AllBelow : ℕ → List ℕ → Type 0
AllBelow lo [] = Unit {0}
AllBelow lo (x ∷ xs) = (x < lo) × AllBelow lo xs

below_more : (lo hi : ℕ) (xs : List ℕ) → lo ≤ hi → AllBelow lo xs → AllBelow hi xs
below_more lo hi [] le h = tt
below_more lo hi (x ∷ xs) le h = (omega (arith, h.0), below_more lo hi xs le h.1)

unseen : (id lo : ℕ) (xs : List ℕ) → lo ≤ id → AllBelow lo xs → is_among id xs ≡ false
unseen id lo [] le h = refl
unseen id lo (x ∷ xs) le h =
    let less = h.0 in
    let other : nat_eq x id ≡ false = grind (arith, nat_tests) in
    rw (other, unseen id lo xs le h.1) refl

module _ (own : Callsign) (ttl hi : ℕ) where
  abbrev Rest : ℕ → List sets.Holder → List (ℕ × Holder) → List CircuitTold → Type 0
  Rest id hs rest theirs = EachStands own ttl hi (suc id) rest hs theirs

  later_case : (id lo : ℕ) (h : sets.Holder) (es : List (ℕ × Holder)) (hs : List sets.Holder) (told : List CircuitTold) → id < lo → lo ≤ h.id → (Past (Rest h.id hs) h es told ⊎ Here own ttl (Rest h.id hs) h es told)
      → ((rest : List (ℕ × Holder)) (theirs : List CircuitTold) → id < suc h.id → Rest h.id hs rest theirs → most_at id hs ≡ 0) → most_at id (h ∷ hs) ≡ 0
  later_case id lo h es hs told l low (inl p) later =
      let other : nat_eq h.id id ≡ false = grind (arith, nat_tests) in rw (other, later es told (omega arith) p.others) refl
  later_case id lo h es hs told l low (inr p) later =
      let other : nat_eq h.id id ≡ false = grind (arith, nat_tests) in rw (other, later p.rest p.theirs (omega arith) p.others) refl

  none_later : (id lo : ℕ) (es : List (ℕ × Holder)) (hs : List sets.Holder) (told : List CircuitTold) → id < lo → EachStands own ttl hi lo es hs told → most_at id hs ≡ 0
  none_later id lo es [] told l s = refl
  none_later id lo es (h ∷ hs) told l s = later_case id lo h es hs told l s.0 s.1 (λ rest theirs after x. none_later id (suc h.id) rest hs theirs after x)

  one_more : (id n : ℕ) (seen : List ℕ) (hs : List sets.Holder) → is_among id seen ≡ false → most_at id hs ≡ 0 → (if is_among id seen then 0 else max n (most_at id hs)) ≡ n
  one_more id n seen hs e f = rw (e, f) (omega arith)

  counted_once : (lo : ℕ) (seen : List ℕ) (h : sets.Holder) (es : List (ℕ × Holder)) (hs : List sets.Holder) (told : List CircuitTold) → lo ≤ h.id → AllBelow lo seen → Rest h.id hs es told
      → (if is_among h.id seen then 0 else max (end_messages h) (most_at h.id hs)) ≡ end_messages h
  counted_once lo seen h es hs told low below s = one_more h.id (end_messages h) seen hs (unseen h.id lo seen low below) (none_later h.id (suc h.id) es hs told (omega arith) s)

  message_case : (lo : ℕ) (seen : List ℕ) (h : sets.Holder) (es : List (ℕ × Holder)) (hs : List sets.Holder) (told : List CircuitTold) → lo ≤ h.id → AllBelow lo seen
      → (Past (Rest h.id hs) h es told ⊎ Here own ttl (Rest h.id hs) h es told)
      → ((rest : List (ℕ × Holder)) (theirs : List CircuitTold) → Rest h.id hs rest theirs → all_kept rest ≡ messages_but (h.id ∷ seen) hs) → all_kept es ≡ messages_but seen (h ∷ hs)
  message_case lo seen h es hs told low below (inl p) later =
      let none : end_messages h ≡ 0 = rw p.gone refl in
      omega (arith, none, later es told p.others, counted_once lo seen h es hs told low below p.others)
  message_case lo seen h es hs told low below (inr p) later =
      let same = same_messages own ttl h.id p.k h p.mine p.keeps in
      rw p.is (omega (arith, same, later p.rest p.theirs p.others, counted_once lo seen h p.rest hs p.theirs low below p.others))

  -- by number, and end by end
  all_messages : (lo : ℕ) (seen : List ℕ) (es : List (ℕ × Holder)) (hs : List sets.Holder) (told : List CircuitTold) → AllBelow lo seen → EachStands own ttl hi lo es hs told → all_kept es ≡ messages_but seen hs
  all_messages lo seen es [] told below s = rw s.0 refl
  all_messages lo seen es (h ∷ hs) told below s =
      message_case lo seen h es hs told s.0 below s.1 (λ rest theirs x. all_messages (suc h.id) (h.id ∷ seen) rest hs theirs (omega arith, below_more lo (suc h.id) seen (omega (arith, s.0)) below) x)

pub kept_all : (s : Station) (n : State) → Holds s n → all_kept s.set.held.ends.entries ≡ messages n
kept_all s n h =
    let ends = h.parts.set.ends in
    all_messages n.set.set.own n.set.set.ttl n.set.set.number 0 [] s.set.held.ends.entries n.set.set.ends n.set.untold tt ends.ends

-- ---- sessions

pub bare_work : (ss : List Session) → sessions_work (map bare ss) ≡ sessions_work ss
bare_work [] = refl
bare_work (x ∷ ss) = rw (bare_work ss) refl

-- ---- all that is left

abbrev pub weight : Station → ℕ
weight s =
    let k = s.set.router.carrier in
    2 * (text_cost * (kept_payloads k + length k.waiting + all_kept s.set.held.ends.entries) + sessions_work s.sessions.items)
    + one_unless (not (has_some k.notices) && (not (nat_lt 0 0) && not (nat_lt 0 (length k.lost + length k.waiting))))

pub counted : CountsPayloads → (s : Station) (n : State) → Holds s n → kept_payloads s.set.router.carrier ≡ links.payloads n.links
unfolding links.payloads
counted counts s n h = counts s.set.router.carrier n.links h.parts.links

pub same_left : CountsPayloads → (s : Station) (n : State) → Holds s n → pending n ≡ 0 → weight s ≡ left n
same_left counts s n h told =
    rw (counted counts s n h, kept_all s n h, h.users.sessions, bare_work n.sessions, told, h.parts.links.notices, h.parts.links.lost, h.parts.links.waiting) refl
