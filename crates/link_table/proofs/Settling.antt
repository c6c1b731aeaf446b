-- Nothing is left in the inbox, and a new link takes.
use Rattle.std.proofs.Common.{◌≡◌, ℕ, zero, suc, ◌+◌, ◌≤◌, ◌==◌, ◌||◌, ◌&&◌, Bool, true, false, nat_le, List, [], ◌∷◌, ◌++◌, length, drop, Option, Some, None, slice_get, refl, ap, ◌∙◌, if◌then◌else◌, arith, length-append}
use Rattle.ax_link.specs.Bounds.{Bounded, stock}
use Rattle.ax_link.specs.State.{count_end}
use Rattle.radio_base.specs.declared.payload.Payload.{Payload}
use Rattle.ax_address.specs.Callsign.{Callsign, same_call}
use Rattle.ax_address.proofs.SameCalls.{call_refl}
use Rattle.ax_link.specs.Moves.{first_early, follow_by, next_early, resume, take_next}
use Rattle.ax_link.specs.State.{State, begin, busy, is_up}
use Rattle.ax_link.specs.Table.{Send, Set_up, Take, step, takes}
use Rattle.ax_segment.specs.Joining.{Nothing, join_step}
use Rattle.ax_link.specs.Opening.{opening, rules_new}
use Rattle.ax_link.proofs.PairTexts.{next_cut}
use Rattle.l3_datagram.specs.Datagrams.{Datagram}
use Rattle.l3_datagram.specs.declared.carrier.Offered.TheVariants.{Taken, Dropped}
use Rattle.link_table.specs.Calls as calls
use Rattle.link_table.specs.Frames.{netrom, segmented}
use Rattle.link_table.specs.Laws.{NewLinkTakes, SettledAll}
use Rattle.link_table.specs.Kept.{filled, link_payloads}
use Rattle.link_table.specs.Table.{Linked, Table, link_with, path_to, with_link}
use Rattle.link_table.proofs.Lifting.{untexted}
use Rattle.link_table.specs.Works.{first_to_take, unless_text, Work, hand_up, most_taken, settle, step_link, take_payload}

count_none : (e : List (Option Payload)) → filled (e ++ None ∷ []) ≡ filled e
count_none [] = refl
count_none (None ∷ e) = count_none e
count_none (Some p ∷ e) = ap suc (count_none e)

count_few : (e : List (Option Payload)) → filled e ≤ length e
count_few [] = omega arith
count_few (None ∷ e) = omega (arith, count_few e)
count_few (Some p ∷ e) = omega (arith, count_few e)

first_gone : (e : List (Option Payload)) (p : Payload) → first_early e ≡ Some p → suc (filled (drop 1 (e ++ None ∷ []))) ≡ filled e
first_gone [] p q = absurd (cc q)
first_gone (None ∷ e) p q = absurd (cc q)
first_gone (Some x ∷ e) p q = ap suc (count_none e)

next_weight : (s : State) (p : Payload) → next_early s ≡ Some p → link_payloads (take_next p s) ≡ link_payloads s
next_weight s p q =
    let c = first_gone s.early p (next_cut (busy s || nat_le count_end (length s.received)) s.early p q) in
    let n : length (s.inbox ++ p ∷ []) ≡ length s.inbox + 1 = length-append s.inbox (p ∷ []) in
    omega (arith, c, n)

move_weight : (k : ℕ) (s : State) → link_payloads (follow_by k s) ≡ link_payloads s
move_weight zero s = refl
move_weight (suc k) s = by (next_early s) refl (λ p. move_weight k (take_next p s))
  where
    by : (r : Option Payload) → next_early s ≡ r → ((p : Payload) → link_payloads (follow_by k (take_next p s)) ≡ link_payloads (take_next p s)) →
        link_payloads (elim r as (λ y. State) [ None ↦ s | Some p ↦ follow_by k (take_next p s) ]) ≡ link_payloads s
    by None q rest = refl
    by (Some p) q rest = rest p ∙ next_weight s p q

pub less : (xs : List Payload) (p : Payload) → slice_get xs 0 ≡ Some p → suc (length (drop 1 xs)) ≡ length xs
less [] p q = absurd (cc q)
less (x ∷ xs) p q = refl

pub take_weight : (now : ℕ) (s : State) (p : Payload) → slice_get s.inbox 0 ≡ Some p → suc (link_payloads (step s Take now).link) ≡ link_payloads s
take_weight now s p q = by (is_up s.phase && busy s)
  where
    rest : State
    rest = record s { inbox = drop 1 s.inbox }

    lighter : suc (link_payloads rest) ≡ link_payloads s
    lighter = let l = less s.inbox p q in omega (arith, l)

    by : (b : Bool) → suc (link_payloads (if b then resume (begin rest) else begin rest).link) ≡ link_payloads s
    by true = ap suc (move_weight (length rest.early) rest) ∙ lighter
    by false = lighter

pub handed_link : (p : Payload) (w : Work) → (hand_up p w).linked.link ≡ w.linked.link
handed_link p w = by (p.pid == netrom) (p.pid == segmented)
  where
    by : (b c : Bool) → (if b
        then record w { pending = record w.pending { waiting = w.pending.waiting ++ (w.linked.peer, p.info) ∷ [] } }
        else if c
        then record w { linked = record w.linked { joiner = (join_step w.linked.joiner p.info.items).0 } }
        else w).linked.link ≡ w.linked.link
    by true c = refl
    by false true = refl
    by false false = refl

no_weight : (xs : List Payload) (n : ℕ) → length xs + n ≤ 0 → xs ≡ []
no_weight [] n l = refl
no_weight (x ∷ xs) n l = absurd (omega (arith, l))

none_taken : (w : Work) → w.linked.link.inbox ≡ [] → first_to_take w ≡ None
none_taken w e = ap (λ xs. unless_text w.linked.joiner (slice_get xs 0)) e

settles : (n : ℕ) (own : Callsign) (now : ℕ) (w : Work) → link_payloads w.linked.link ≤ n → first_to_take (settle n own now w) ≡ None
settles zero own now w l = none_taken w (no_weight w.linked.link.inbox (filled w.linked.link.early) l)
settles (suc n) own now w l = by (first_to_take w) refl (λ p m. settles n own now (take_payload own now p w) m)
  where
    by : (r : Option Payload) → first_to_take w ≡ r →
        ((p : Payload) → link_payloads (take_payload own now p w).linked.link ≤ n → first_to_take (settle n own now (take_payload own now p w)) ≡ None) →
        first_to_take (elim r as (λ y. Work) [ None ↦ w | Some p ↦ settle n own now (take_payload own now p w) ]) ≡ None
    by None q rest = q
    by (Some p) q rest =
        let same : link_payloads (take_payload own now p w).linked.link ≡ link_payloads (step w.linked.link Take now).link = ap link_payloads (handed_link p (step_link own Take now w)) in
        rest p (omega (arith, l, same, take_weight now w.linked.link p (untexted w.linked.joiner (slice_get w.linked.link.inbox 0) p q)))

places_few : (b : Bool) (s : State) → Bounded (stock s) → s.rules.size ≤ 128 → (if b then s.rules.window else 0) ≤ 127
places_few true s b m = omega (arith, b.window, m)
places_few false s b m = omega arith

few : (s : State) → Bounded (stock s) → s.rules.size ≤ 128 → length s.inbox + length s.early ≤ most_taken
few s b m = omega (arith, b.inbox, b.places, places_few s.rules.srej s b m)

pub settled_all : SettledAll
settled_all own now w b m =
    let l = few w.linked.link b m in settles most_taken own now w (omega (arith, l, count_few w.linked.link.early))

-- ---- a new link

pub found_last : (peer : Callsign) (ls : List Linked) (l : Linked) → same_call peer l.peer ≡ true → link_with peer ls ≡ None → link_with peer (ls ++ l ∷ []) ≡ Some l
found_last peer [] l s q = ap (λ b. if b then Some l else None) s
found_last peer (m ∷ ls) l s q = by (same_call peer m.peer) q (λ r. found_last peer ls l s r)
  where
    by : (b : Bool) → (if b then Some m else link_with peer ls) ≡ None → (link_with peer ls ≡ None → link_with peer (ls ++ l ∷ []) ≡ Some l) →
        (if b then Some m else link_with peer (ls ++ l ∷ [])) ≡ Some l
    by true r rest = absurd (cc r)
    by false r rest = rest r

found_with : (peer : Callsign) (ls : List Linked) (l l2 : Linked) → same_call peer l2.peer ≡ true → link_with peer ls ≡ Some l → link_with peer (with_link peer l2 ls) ≡ Some l2
found_with peer [] l l2 s q = absurd (cc q)
found_with peer (m ∷ ls) l l2 s q = by (same_call peer m.peer) refl (λ r. found_with peer ls l l2 s r) q
  where
    by : (b : Bool) → same_call peer m.peer ≡ b → (link_with peer ls ≡ Some l → link_with peer (with_link peer l2 ls) ≡ Some l2) → (if b then Some m else link_with peer ls) ≡ Some l →
        link_with peer (if b then l2 ∷ ls else m ∷ with_link peer l2 ls) ≡ Some l2
    by true e rest r = ap (λ b. if b then Some l2 else link_with peer ls) s
    by false e rest r = ap (λ b. if b then Some m else link_with peer (with_link peer l2 ls)) e ∙ rest r

new_takes : (to : Callsign) (d : Datagram) (now : ℕ) (t : Table) → link_with to t.links ≡ None → (calls.offer_standing to d now (calls.set_up_link to now t)).answer ≡ Taken
new_takes to d now t q =
    let made : Table = calls.made to t.size (path_to to t.paths) t in
    let l : Linked = record { peer = to; link = opening (rules_new t.size t.config); path = path_to to t.paths; joiner = Nothing; called = false } in
    let w : Work = step_link t.own Set_up now (record { linked = l; pending = t.pending }) in
    let there : link_with to made.links ≡ Some l = found_last to t.links l (call_refl to) q in
    let opened : calls.set_up_link to now t ≡ record made { links = with_link to w.linked made.links; pending = w.pending } =
    ap (λ x. elim x as (λ y. Table) [ None ↦ made | Some m ↦ calls.keep to (step_link t.own Set_up now (record { linked = m; pending = t.pending })) made ]) there in
    let found : link_with to (calls.set_up_link to now t).links ≡ Some w.linked =
    ap (λ (x : Table). link_with to x.links) opened ∙ found_with to made.links l w.linked (call_refl to) there in
    ap (λ x. (elim x as (λ y. calls.Offering) [
      | None ↦ record { answer = Dropped; table = calls.set_up_link to now t }
      | Some m ↦ if takes m.link then record { answer = Taken; table = calls.at_link to (step_link (calls.set_up_link to now t).own (Send (calls.pack d)) now) (calls.set_up_link to now t) } else record { answer = Dropped; table = calls.set_up_link to now t }
    ]).answer) found

pub new_link_takes : NewLinkTakes
new_link_takes to d now t q room = by t.by_links
  where
    by : (b : Bool) → (if b then calls.offer_link to d now t else record { answer = Taken; table = calls.offer_ui to d t }).answer ≡ Taken
    by false = refl
    by true =
        let no : Bool → calls.Offering = λ b. if b then record { answer = Dropped; table = t } else calls.offer_standing to d now (calls.set_up_link to now t) in
        ap (λ x. (elim x as (λ y. calls.Offering) [ None ↦ no (nat_le calls.most_links (length t.links)) | Some l ↦ calls.offer_standing to d now t ]).answer) q
        ∙ ap (λ b. (no b).answer) room ∙ new_takes to d now t q
