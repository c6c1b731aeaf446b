-- Texts: one that is taken from a link, and what the table knows of those that wait.
use Rattle.std.proofs.Common.{◌≡◌, zero, suc, ◌≤◌, ◌<◌, drop, append_assoc, ℕ, ◌+◌, ◌-◌, ◌==◌, ◌&&◌, not, min, Bool, true, false, nat_le, List, [], ◌∷◌, ◌++◌, length, length-append, Option, Some, None, slice_get, is_some, refl, ap, sym, ◌∙◌, subst, if◌then◌else◌, arith}
use Rattle.std.specs.Option.{option_to_list}
use Rattle.std.specs.Map.{lookup}
use Rattle.std.proofs.lemmas.Bool.{eqb-true}
use Rattle.radio_base.specs.declared.payload.Payload.{Payload}
use Rattle.ax_address.specs.Callsign.{Callsign, same_call}
use Rattle.ax_link.specs.Standing.{LinkView, StandsFor}
use Rattle.ax_link.specs.State.{State, count_end}
use Rattle.ax_link.specs.Table.{Take, may_close}
use Rattle.ax_segment.specs.Joining.{HeldMessage as Joined, join_step, whole_of, IsWithin}
use Rattle.link_table.specs.declared.entry.LinkEntry.{LinkEntry}
use Rattle.link_table.specs.declared.held_links.HeldLinks.{HeldLinks}
use Rattle.link_table.specs.declared.link_of.LinkOf.{LinkOf}
use Rattle.link_table.specs.declared.route.LinkRoute.{LinkRoute}
use Rattle.link_table.specs.declared.pending.Pending.{Pending}
use Rattle.link_table.specs.Frames.{netrom, plain_text, segmented}
use Rattle.link_table.specs.Standing.{CoreGoes, CoreStands, EntryGoes, EntryStands, HandsUp, Lifted, LinkGoes, LinkStands, LinksStand, held_of, joined_with, room_at, room_in, room_of_entry, size_of, text_at, text_in, text_keys, text_of_entry}
use Rattle.link_table.specs.Calls.{at_link}
use Rattle.link_table.specs.Table.{Linked, Table}
use Rattle.link_table.specs.Texts as texts
use Rattle.link_table.specs.Works.{Work, hand_up, is_text, joiner_after, most_taken, settle, step_link, take_payload, text_by}
use Rattle.link_table.proofs.Lifting.{follows, hands, lifts}
use Rattle.link_table.proofs.Links.{Found, found, none_found}

not_netrom : (j : Joined) (p : Payload) → (p.pid == netrom) ≡ true → is_text j p ≡ false
not_netrom j p q =
    let pid : p.pid ≡ netrom = eqb-true p.pid netrom q in
    ap (λ n. if n == plain_text then nat_le 1 (length p.info.items) else if n == segmented then text_by (whole_of (join_step j p.info.items).1) else false) pid

-- a text isn't handed up
text_handed : (peer : Callsign) (p : Payload) (j : Joined) (k : Pending) → is_text j p ≡ true → (IsWithin j → IsWithin (joined_with p j)) → HandsUp p peer j (joined_with p j) k k
text_handed peer p j k t within = record { joiner = refl; within = within; waiting = by (p.pid == netrom) refl; lost = refl; notices = refl; frames = refl }
  where
    by : (b : Bool) → (p.pid == netrom) ≡ b → k.waiting.items ≡ (if b then k.waiting.items ++ (peer, p.info) ∷ [] else k.waiting.items)
    by false q = refl
    by true q = absurd (cc (sym (not_netrom j p q) ∙ t))

was_text : (j : Joined) (p : Payload) → is_some (texts.first_text j (Some p)) ≡ true → is_text j p ≡ true
was_text j p = by (is_text j p)
  where
    by : (b : Bool) → is_some (if b then Some (texts.text_of j p) else None) ≡ true → b ≡ true
    by true q = refl
    by false q = absurd (cc q)

-- the oldest payload is taken and handed out, and then what waited behind it is taken
pub text_goes : (now : ℕ) (p : Payload) (old : LinkEntry) (mid : LinkOf) (lifted handed new : LinkEntry) (k k2 k3 : Pending) →
    slice_get (held_of old.link).inbox 0 ≡ Some p → is_some (text_in old) ≡ true → LinkGoes Take now old.link mid → (held_of mid).notice ≡ None →
    Lifted (record old { link = mid }) lifted k k2 → handed ≡ record lifted { joiner = joined_with p lifted.joiner } → (IsWithin lifted.joiner → IsWithin handed.joiner) →
    EntryGoes (settle most_taken handed.route.own now) handed new k2 k3 → EntryGoes (texts.take_text_of old.route.own now) old new k k3
text_goes now p old mid lifted handed new k k2 k3 first waits done quiet l e within more =
    record { route = more.route ∙ one.route; size = more.size ∙ one.size; goes = goes }
  where
    same : lifted.joiner ≡ old.joiner
    same = l.joiner ∙ ap (λ n. joiner_after (option_to_list n) old.joiner) quiet

    is : is_text lifted.joiner p ≡ true
    is = ap (λ x. is_text x p) same ∙ was_text old.joiner p (ap (λ x. is_some (texts.first_text old.joiner x)) (sym first) ∙ waits)

    hand : HandsUp p lifted.route.peer lifted.joiner (joined_with p lifted.joiner) k2 k2
    hand = text_handed lifted.route.peer p lifted.joiner k2 is (λ x. subst IsWithin (ap (λ (y : LinkEntry). y.joiner) e) (within x))

    one : EntryGoes (take_payload old.route.own now p) old handed k k2
    one = subst (λ (y : LinkEntry). EntryGoes (take_payload old.route.own now p) old y k k2) (sym e)
        (follows (step_link old.route.own Take now) (hand_up p) old lifted (record lifted { joiner = joined_with p lifted.joiner }) k k2 k2 (lifts Take now old mid lifted k k2 done l)
        (hands p lifted (joined_with p lifted.joiner) k2 k2 hand))

    goes : (w : Work) → EntryStands old k w → EntryStands new k3 (texts.take_text_of old.route.own now w)
    goes w s =
        let there : slice_get w.linked.link.inbox 0 ≡ Some p = ap (λ (x : State). slice_get x.inbox 0) s.link.keeps.is ∙ first in
        subst (EntryStands new k3)
        (sym (ap (λ x. elim x as (λ y. Work) [ None ↦ w | Some q ↦ settle most_taken old.route.own now (take_payload old.route.own now q w) ]) there))
        (subst (λ (x : LinkRoute). EntryStands new k3 (settle most_taken x.own now (take_payload old.route.own now p w))) one.route
        (more.goes (take_payload old.route.own now p w) (one.goes w s)))

-- ---- what waits at a link, as the map and as the table have it

abbrev with_text : Option Linked → Option (List ℕ)
with_text x = elim x as (λ y. Option (List ℕ)) [ None ↦ None | Some l ↦ texts.text_at l ]

pub text_same : (own peer : Callsign) (es : List (Callsign × LinkEntry)) (t : Table) → LinksStand own es t.links → texts.text_with peer t ≡ text_at peer es
text_same own peer es t s = by (lookup (same_call peer) es) refl
  where
    by : (x : Option LinkEntry) → lookup (same_call peer) es ≡ x → texts.text_with peer t ≡ text_at peer es
    by None e = ap with_text (none_found own peer es t.links s e) ∙ sym (ap text_of_entry e)
    by (Some y) e =
        let f : Found own peer y t.links = found own peer es t.links y s e in
        ap with_text f.with ∙ ap (λ j. texts.first_text j (slice_get f.link.link.inbox 0)) f.stands.joiner
        ∙ ap (λ (x : State). texts.first_text y.joiner (slice_get x.inbox 0)) f.stands.link.keeps.is ∙ sym (ap text_of_entry e)

pub room_stands : (size : ℕ) (h : LinkView) (s : State) → StandsFor size h s → texts.room_of s ≡ room_in h
room_stands size h s st = ap texts.room_of st.keeps.is ∙ by (may_close h.phase && not h.closing)
  where
    n : ℕ
    n = length (st.keeps.before ++ h.queue)

    is : n ≡ h.acked + length h.queue
    is = length-append st.keeps.before h.queue ∙ ap (λ m. m + length h.queue) st.keeps.acked

    held : h.acked + 128 - n ≡ 128 - length h.queue
    held = omega (arith, is)

    numbers : count_end - n ≡ count_end - h.acked - length h.queue
    numbers = omega (arith, is)

    by : (b : Bool) → (if b then min (h.acked + 128 - n) (count_end - n) else 0) ≡ (if b then min (128 - length h.queue) (count_end - h.acked - length h.queue) else 0)
    by true = ap (λ m. min m (count_end - n)) held ∙ ap (min (128 - length h.queue)) numbers
    by false = refl

abbrev with_room : Option Linked → ℕ
with_room x = elim x as (λ y. ℕ) [ None ↦ 0 | Some l ↦ texts.room_of l.link ]

pub room_same : (own peer : Callsign) (es : List (Callsign × LinkEntry)) (t : Table) → LinksStand own es t.links → texts.room peer t ≡ room_at peer es
room_same own peer es t s = by (lookup (same_call peer) es) refl
  where
    by : (x : Option LinkEntry) → lookup (same_call peer) es ≡ x → texts.room peer t ≡ room_at peer es
    by None e = ap with_room (none_found own peer es t.links s e) ∙ sym (ap room_of_entry e)
    by (Some y) e =
        let f : Found own peer y t.links = found own peer es t.links y s e in
        ap with_room f.with ∙ room_stands (size_of y.link) (held_of y.link) f.link.link f.stands.link ∙ sym (ap room_of_entry e)

-- ---- the text that waits is taken, where one does

pub took : (c c2 : HeldLinks) (peer : Callsign) (now : ℕ) (b : Bool) → b ≡ is_some (text_at peer c.links.entries) → b ≡ true →
    CoreGoes (λ t. at_link peer (texts.take_text_of t.own now) t) c c2 → CoreGoes (texts.take_text peer now) c c2
took c c2 peer now b e q goes t s =
    subst (CoreStands c2) (sym (ap (λ d. if d then at_link peer (texts.take_text_of t.own now) t else t) (ap is_some (text_same c.own peer c.links.entries t s.links) ∙ sym e ∙ q))) (goes t s)

pub took_none : (c : HeldLinks) (peer : Callsign) (now : ℕ) (b : Bool) (t : Table) → LinksStand c.own c.links.entries t.links → b ≡ is_some (text_at peer c.links.entries) → b ≡ false →
    texts.take_text peer now t ≡ t
took_none c peer now b t s e q =
    ap (λ d. if d then at_link peer (texts.take_text_of t.own now) t else t) (ap is_some (text_same c.own peer c.links.entries t s) ∙ sym e ∙ q)

pub no_text : (x : Option (List ℕ)) (b : Bool) → b ≡ is_some x → b ≡ false → None ≡ x
no_text None b e q = refl
no_text (Some y) b e q = absurd (cc (sym q ∙ e))

-- ---- where texts wait

entry_text : (own key : Callsign) (e : LinkEntry) (l : Linked) → LinkStands own key e l → texts.text_at l ≡ text_in e
entry_text own key e l s =
    ap (λ j. texts.first_text j (slice_get l.link.inbox 0)) s.joiner ∙ ap (λ (x : State). texts.first_text e.joiner (slice_get x.inbox 0)) s.link.keeps.is

pub peers_same : (own : Callsign) (es : List (Callsign × LinkEntry)) (ls : List Linked) → LinksStand own es ls → text_keys es ≡ texts.text_peers ls
peers_same own [] [] s = refl
peers_same own [] (l ∷ ls) s = absurd s
peers_same own (e ∷ es) [] s = absurd s
peers_same own (e ∷ es) (l ∷ ls) s =
    ap (λ x. if is_some x then e.0 ∷ text_keys es else text_keys es) (sym (entry_text own e.0 e.1 l s.0))
    ∙ ap (λ (k : Callsign). if is_some (texts.text_at l) then k ∷ text_keys es else text_keys es) (sym s.0.is)
    ∙ ap (λ ks. if is_some (texts.text_at l) then l.peer ∷ ks else ks) (peers_same own es ls s.1)

-- the peers so far, and those among the entries to come
pub entry_first : (es : List (Callsign × LinkEntry)) (i : ℕ) (x : Callsign × LinkEntry) → slice_get es i ≡ Some x → drop i es ≡ x ∷ drop (suc i) es
entry_first [] i x e = absurd (cc e)
entry_first (y ∷ es) zero x e = let same : y ≡ x = cc e in ap (λ z. z ∷ es) same
entry_first (y ∷ es) (suc i) x e = entry_first es i x e

pub one_more : (es : List (Callsign × LinkEntry)) (i m : ℕ) (k : Callsign) (e : LinkEntry) (ps ps2 all : List Callsign) → m ≡ suc i → slice_get es i ≡ Some (k, e) →
    ps2 ≡ (if is_some (text_in e) then ps ++ k ∷ [] else ps) → ps ++ text_keys (drop i es) ≡ all → ps2 ++ text_keys (drop m es) ≡ all
one_more es i m k e ps ps2 all next q added so_far =
    ap (λ n. ps2 ++ text_keys (drop n es)) next ∙ ap (λ xs. xs ++ text_keys (drop (suc i) es)) added ∙ by (is_some (text_in e))
    ∙ ap (λ xs. ps ++ text_keys xs) (sym (entry_first es i (k, e) q)) ∙ so_far
  where
    by : (b : Bool) → (if b then ps ++ k ∷ [] else ps) ++ text_keys (drop (suc i) es) ≡ ps ++ (if b then k ∷ text_keys (drop (suc i) es) else text_keys (drop (suc i) es))
    by true = append_assoc ps (k ∷ []) (text_keys (drop (suc i) es))
    by false = refl

pub one_length : (b : Bool) (k : Callsign) (ps : List Callsign) (n : ℕ) → length ps ≤ n → length (if b then ps ++ k ∷ [] else ps) ≤ n + 1
one_length true k ps n l = let a : length (ps ++ k ∷ []) ≡ length ps + 1 = length-append ps (k ∷ []) in omega (arith, l, a)
one_length false k ps n l = omega (arith, l)

pub entry_at : (es : List (Callsign × LinkEntry)) (i : ℕ) → i < length es → (x : Callsign × LinkEntry) × (slice_get es i ≡ Some x)
entry_at [] i l = absurd (omega (arith, l))
entry_at (y ∷ es) zero l = (y, refl)
entry_at (y ∷ es) (suc i) l = entry_at es i (omega (arith, l))
