-- Who has set a link up is changed by frames alone.
use Rattle.std.proofs.Common.{◌≡◌, ℕ, zero, suc, ◌==◌, Bool, true, false, nat_le, nat_lt, List, [], ◌∷◌, ◌++◌, length, map, Option, Some, None, refl, ap, sym, ◌∙◌, if◌then◌else◌, is_some, slice_get}
use Rattle.std.specs.Prelude.{is_ok}
use Rattle.radio_base.specs.declared.payload.Payload.{Payload}
use Rattle.arrayvec.specs.ArrayVec.{ArrayVec}
use Rattle.ax_address.specs.Callsign.{Callsign, same_call}
use Rattle.ax_address.specs.declared.address.Address.{Address}
use Rattle.ax_address.proofs.SameCalls.{same_call-true}
use Rattle.ax_link.specs.declared.notice.LinkNotice.{LinkNotice}
use Rattle.ax_link.specs.declared.notice.LinkNotice.TheVariants.{Failed}
use Rattle.ax_link.specs.Opening.{opening, rules_new}
use Rattle.ax_link.specs.Table.{Close, Send, Set_up, Take, Tick, takes}
use Rattle.ax_segment.specs.Joining.{Nothing, join_step}
use Rattle.l3_datagram.specs.Datagrams.{Datagram}
use Rattle.l3_datagram.specs.declared.carrier.Offered.TheVariants.{Dropped, Taken}
use Rattle.link_table.specs.Called.{KeepsCallers, OnlyFramesCall}
use Rattle.link_table.specs.Calls as calls
use Rattle.link_table.specs.Ending.{OneEach}
use Rattle.link_table.specs.Frames.{netrom, segmented}
use Rattle.link_table.specs.Table.{Linked, Table, link_with, path_to, with_link, without}
use Rattle.link_table.specs.Texts as texts
use Rattle.link_table.specs.Works.{Work, first_to_take, hand_up, is_down, most_taken, settle, step_link, take_payload, tell}
use Rattle.link_table.proofs.Endings.{none_opened, none_there}
use Rattle.link_table.proofs.Finding.{found_peer, once_behind, once_with, once_without, with_found, without_found, without_here}

-- ---- work at one link

record Same (w v : Work) : Type 0 where
  peer : v.linked.peer ≡ w.linked.peer
  called : v.linked.called ≡ w.linked.called

still : (w : Work) → Same w w
still w = record { peer = refl; called = refl }

next : (u v w : Work) → Same u v → Same v w → Same u w
next u v w r s = record { peer = s.peer ∙ r.peer; called = s.called ∙ r.called }

handed : (p : Payload) (w : Work) → Same w (hand_up p w)
handed p w = by (p.pid == netrom) (p.pid == segmented)
  where
    by : (b c : Bool) → Same w (if b
        then record w { pending = record w.pending { waiting = w.pending.waiting ++ (w.linked.peer, p.info) ∷ [] } }
        else if c
        then record w { linked = record w.linked { joiner = (join_step w.linked.joiner p.info.items).0 } }
        else w)
    by true c = record { peer = refl; called = refl }
    by false true = record { peer = refl; called = refl }
    by false false = still w

taken : (own : Callsign) (now : ℕ) (p : Payload) (w : Work) → Same w (take_payload own now p w)
taken own now p w = let s : Work = step_link own Take now w in next w s (hand_up p s) (record { peer = refl; called = refl }) (handed p s)

settled : (n : ℕ) (own : Callsign) (now : ℕ) (w : Work) → Same w (settle n own now w)
settled zero own now w = still w
settled (suc n) own now w = by (first_to_take w) (λ p. settled n own now (take_payload own now p w))
  where
    by : (r : Option Payload) → ((p : Payload) → Same (take_payload own now p w) (settle n own now (take_payload own now p w)))
        → Same w (elim r as (λ y. Work) [ None ↦ w | Some p ↦ settle n own now (take_payload own now p w) ])
    by None rest = still w
    by (Some p) rest = next w (take_payload own now p w) _ (taken own now p w) (rest p)

text_taken : (own : Callsign) (now : ℕ) (w : Work) → Same w (texts.take_text_of own now w)
text_taken own now w = by (slice_get w.linked.link.inbox 0)
  where
    by : (r : Option Payload) → Same w (elim r as (λ y. Work) [ None ↦ w | Some p ↦ settle most_taken own now (take_payload own now p w) ])
    by None = still w
    by (Some p) = next w (take_payload own now p w) _ (taken own now p w) (settled most_taken own now (take_payload own now p w))

sent_each : (own : Callsign) (ps : List Payload) (now : ℕ) (w : Work) → Same w (texts.send_each own ps now w)
sent_each own [] now w = still w
sent_each own (p ∷ ps) now w = next w (step_link own (Send p) now w) _ (record { peer = refl; called = refl }) (sent_each own ps now (step_link own (Send p) now w))

-- ---- the links

abbrev called_of : Option Linked → Bool
called_of o = elim o as (λ x. Bool) [ None ↦ false | Some l ↦ l.called ]

-- a link with this peer that stands afterwards stood, and its caller is the same
record Stays (q : Callsign) (old new : List Linked) : Type 0 where
  on : is_some (link_with q new) ≡ true → is_some (link_with q old) ≡ true
  same : is_some (link_with q new) ≡ true → called_of (link_with q new) ≡ called_of (link_with q old)

abbrev Keeps : Table → Table → Type 0
Keeps old new = OneEach old.links → OneEach new.links × ((q : Callsign) → Stays q old.links new.links)

with_called : (q peer : Callsign) (ls : List Linked) (l w : Linked) → link_with peer ls ≡ Some l → w.peer ≡ l.peer → w.called ≡ l.called
    → called_of (link_with q (with_link peer w ls)) ≡ called_of (link_with q ls)
with_called q peer [] l w e s c = refl
with_called q peer (m ∷ ls) l w e s c = by (same_call peer m.peer) e (λ r. with_called q peer ls l w r s c)
  where
    either : (b : Bool) → w.called ≡ m.called → called_of (if b then Some w else link_with q ls) ≡ called_of (if b then Some m else link_with q ls)
    either true f = f
    either false f = refl

    behind : (b : Bool) (x y : Option Linked) → called_of x ≡ called_of y → called_of (if b then Some m else x) ≡ called_of (if b then Some m else y)
    behind true x y f = refl
    behind false x y f = f

    by : (b : Bool) → (if b then Some m else link_with peer ls) ≡ Some l → (link_with peer ls ≡ Some l → called_of (link_with q (with_link peer w ls)) ≡ called_of (link_with q ls))
        → called_of (link_with q (if b then w ∷ ls else m ∷ with_link peer w ls)) ≡ called_of (link_with q (m ∷ ls))
    by true r rest =
        let same : m ≡ l = cc r in
        let peers : w.peer ≡ m.peer = s ∙ ap (λ (x : Linked). x.peer) (sym same) in
        ap (λ (k : Callsign). called_of (if same_call q k then Some w else link_with q ls)) peers ∙ either (same_call q m.peer) (c ∙ ap (λ (x : Linked). x.called) (sym same))
    by false r rest = behind (same_call q m.peer) (link_with q (with_link peer w ls)) (link_with q ls) (rest r)

-- one that is new and that the peer hasn't set up
new_called : (q : Callsign) (ls : List Linked) (x : Linked) → x.called ≡ false → called_of (link_with q (ls ++ x ∷ [])) ≡ called_of (link_with q ls)
new_called q [] x c = by (same_call q x.peer)
  where
    by : (b : Bool) → called_of (if b then Some x else None) ≡ false
    by true = c
    by false = refl
new_called q (m ∷ ls) x c = by (same_call q m.peer) (new_called q ls x c)
  where
    by : (b : Bool) → called_of (link_with q (ls ++ x ∷ [])) ≡ called_of (link_with q ls)
        → called_of (if b then Some m else link_with q (ls ++ x ∷ [])) ≡ called_of (if b then Some m else link_with q ls)
    by true rest = refl
    by false rest = rest

gone : (q peer : Callsign) (ls : List Linked) (l : Linked) → link_with peer ls ≡ Some l → OneEach ls → Stays q ls (without peer ls)
gone q peer ls l e o = by (same_call q l.peer) refl
  where
    by : (b : Bool) → same_call q l.peer ≡ b → Stays q ls (without peer ls)
    by true s =
        let is : peer ≡ q = found_peer peer ls l e ∙ sym (same_call-true q l.peer s) in
        let none : is_some (link_with q (without peer ls)) ≡ false =
        ap (λ (k : Callsign). is_some (link_with k (without peer ls))) (sym is) ∙ ap (λ (x : Option Linked). is_some x) (without_here peer ls o) in
        record { on = λ h. absurd (cc (sym none ∙ h)); same = λ h. absurd (cc (sym none ∙ h)) }
    by false s =
        let found = without_found q peer ls l e s in
        record { on = λ h. ap (λ (x : Option Linked). is_some x) (sym found) ∙ h; same = λ h. ap called_of found }

-- ---- calls

unchanged : (t : Table) → Keeps t t
unchanged t o = (o, λ q. record { on = λ h. h; same = λ h. refl })

follows : (a b c : Table) → Keeps a b → Keeps b c → Keeps a c
follows a b c f g o =
    let x = f o in
    let y = g x.0 in
    (y.0, λ q. record { on = λ h. (x.1 q).on ((y.1 q).on h); same = λ h. (y.1 q).same h ∙ (x.1 q).same ((y.1 q).on h) })

at_link : (peer : Callsign) (part : Work → Work) (t : Table) → ((w : Work) → Same w (part w)) → Keeps t (calls.at_link peer part t)
at_link peer part t k o = by (link_with peer t.links) refl
  where
    kept : (l : Linked) (v : Work) → link_with peer t.links ≡ Some l → v.linked.peer ≡ l.peer → v.linked.called ≡ l.called → (b : Bool)
        → OneEach (if b then without peer t.links else with_link peer v.linked t.links) × ((q : Callsign) → Stays q t.links (if b then without peer t.links else with_link peer v.linked t.links))
    kept l v e p c true = (once_without peer t.links o, λ q. gone q peer t.links l e o)
    kept l v e p c false = (
      once_with peer t.links l v.linked e p o,
      λ q. record { on = λ h. sym (with_found q peer t.links l v.linked e p) ∙ h; same = λ h. with_called q peer t.links l v.linked e p c },
    )

    by : (x : Option Linked) → link_with peer t.links ≡ x
        → let n : Table = elim x as (λ y. Table) [ None ↦ t | Some l ↦ calls.keep peer (part (record { linked = l; pending = t.pending })) t ] in
        OneEach n.links × ((q : Callsign) → Stays q t.links n.links)
    by None e = unchanged t o
    by (Some l) e =
        let w : Work = record { linked = l; pending = t.pending } in
        kept l (part w) e (k w).peer (k w).called (is_down (part w).linked.link.phase)

ended : (peer : Callsign) (notes : List LinkNotice) (t : Table) → Keeps t (calls.end peer notes t)
ended peer notes t o = by (link_with peer t.links) refl
  where
    by : (x : Option Linked) → link_with peer t.links ≡ x
        → let n : Table = elim x as (λ y. Table) [ None ↦ t | Some l ↦ record t { links = without peer t.links; pending = tell peer notes t.pending } ] in
        OneEach n.links × ((q : Callsign) → Stays q t.links n.links)
    by None e = unchanged t o
    by (Some l) e = (once_without peer t.links o, λ q. gone q peer t.links l e o)

-- each peer has one link then, and whoever called did so before
abbrev Called : Table → Table → Type 0
Called old new = OneEach new.links × ((q : Callsign) → is_some (link_with q new.links) ≡ true → called_of (link_with q new.links) ≡ called_of (link_with q old.links))

keeps_called : (old new : Table) → Keeps old new → OneEach old.links → Called old new
keeps_called old new k o = let x = k o in (x.0, λ q h. (x.1 q).same h)

then_keeps : (a b c : Table) → Called a b → Keeps b c → Called a c
then_keeps a b c x k = let y = k x.0 in (y.0, λ q h. (y.1 q).same h ∙ x.1 q ((y.1 q).on h))

opened : (to : Callsign) (path : ArrayVec Address) (now : ℕ) (t : Table) → link_with to t.links ≡ None → OneEach t.links → Called t (calls.set_up_over to path now t)
opened to path now t none o =
    let new : Linked = record { peer = to; link = opening (rules_new t.size t.config); path = path; joiner = Nothing; called = false } in
    let x = at_link to (step_link t.own Set_up now) (calls.made to t.size path t) (λ w. record { peer = refl; called = refl }) (once_behind t.links new none o) in
    (x.0, λ q h. (x.1 q).same h ∙ new_called q t.links new refl)

opens : (peer : Callsign) (path : ArrayVec Address) (now : ℕ) (t : Table) → OneEach t.links → Called t (calls.open_link peer path now t)
opens peer path now t o = by (is_ok (calls.open_answer peer path t)) refl
  where
    by : (b : Bool) → is_ok (calls.open_answer peer path t) ≡ b → Called t (if b then calls.set_up_over peer (calls.open_path peer path t.paths) now t else t)
    by true e =
        let free = none_opened (is_some (link_with peer t.links)) (nat_lt calls.most_repeaters (length path.items)) (nat_le calls.most_links (length t.links)) e in
        opened peer (calls.open_path peer path t.paths) now t (none_there (link_with peer t.links) free.0) o
    by false e = keeps_called t t (unchanged t) o

ticked : (peers : List Callsign) (now : ℕ) (t : Table) → Keeps t (calls.tick_each peers now t)
ticked [] now t = unchanged t
ticked (p ∷ ps) now t =
    let m : Table = calls.at_link p (step_link t.own Tick now) t in
    follows t m (calls.tick_each ps now m) (at_link p (step_link t.own Tick now) t (λ w. record { peer = refl; called = refl })) (ticked ps now m)

take : (peer : Callsign) (now : ℕ) (t : Table) → Keeps t (texts.take_text peer now t)
take peer now t = by (is_some (texts.text_with peer t))
  where
    by : (b : Bool) → Keeps t (if b then calls.at_link peer (texts.take_text_of t.own now) t else t)
    by true = at_link peer (texts.take_text_of t.own now) t (λ w. text_taken t.own now w)
    by false = unchanged t

standing : (to : Callsign) (d : Datagram) (now : ℕ) (t : Table) → Keeps t (calls.offer_standing to d now t).table
standing to d now t = by (link_with to t.links)
  where
    yes : calls.Offering
    yes = record { answer = Taken; table = calls.at_link to (step_link t.own (Send (calls.pack d)) now) t }

    no : calls.Offering
    no = record { answer = Dropped; table = t }

    takes_by : (b : Bool) → Keeps t (if b then yes else no).table
    takes_by true = at_link to (step_link t.own (Send (calls.pack d)) now) t (λ w. record { peer = refl; called = refl })
    takes_by false = unchanged t

    by : (r : Option Linked) → Keeps t (elim r as (λ y. calls.Offering) [ None ↦ no | Some l ↦ if takes l.link then yes else no ]).table
    by None = unchanged t
    by (Some l) = takes_by (takes l.link)

over_link : (to : Callsign) (d : Datagram) (now : ℕ) (t : Table) → OneEach t.links → Called t (calls.offer_link to d now t).table
over_link to d now t o = by (link_with to t.links) refl
  where
    full : link_with to t.links ≡ None → (b : Bool)
        → Called t (if b then record { answer = Dropped; table = t } else calls.offer_standing to d now (calls.set_up_link to now t)).table
    full none true = keeps_called t t (unchanged t) o
    full none false =
        then_keeps t (calls.set_up_link to now t) (calls.offer_standing to d now (calls.set_up_link to now t)).table (opened to (path_to to t.paths) now t none o)
        (standing to d now (calls.set_up_link to now t))

    by : (r : Option Linked) → link_with to t.links ≡ r → Called t (elim r as (λ y. calls.Offering) [
      | None ↦ if nat_le calls.most_links (length t.links) then record { answer = Dropped; table = t } else calls.offer_standing to d now (calls.set_up_link to now t)
      | Some l ↦ calls.offer_standing to d now t
    ]).table
    by None q = full q (nat_le calls.most_links (length t.links))
    by (Some l) q = keeps_called t (calls.offer_standing to d now t).table (standing to d now t) o

offered : (to : Callsign) (d : Datagram) (now : ℕ) (t : Table) → OneEach t.links → Called t (calls.offer to d now t).table
offered to d now t o = by t.by_links
  where
    by : (b : Bool) → Called t (if b then calls.offer_link to d now t else record { answer = Taken; table = calls.offer_ui to d t }).table
    by true = over_link to d now t o
    by false = (o, λ q h. refl)

told : (old new : Table) → Keeps old new → KeepsCallers old new
told old new k o = (keeps_called old new k o.once).1

pub only_frames_call : OnlyFramesCall
only_frames_call = record {
  ticks = λ t now. told t (calls.tick now t) (ticked (map (λ l. l.peer) t.links) now t);
  opens = λ t peer path now o. (opens peer path now t o.once).1;
  closes = λ t peer now. told t (calls.close peer now t) (at_link peer (step_link t.own Close now) t (λ w. record { peer = refl; called = refl }));
  breaks = λ t peer. told t (calls.break_link peer t) (ended peer (Failed ∷ []) t);
  takes = λ t peer now. told t (texts.take_text peer now t) (take peer now t);
  sends = λ t peer text now.
      told t (texts.send_text peer text now t) (at_link peer (texts.send_text_of t.own text now) t (λ w. sent_each t.own (texts.payloads_of w.linked.link.rules.size text) now w));
  offers = λ t to d now o. (offered to d now t o.once).1;
}
