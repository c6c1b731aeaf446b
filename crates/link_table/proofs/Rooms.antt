-- Room at a link: what an offer leaves of it, and which texts it takes.
use Rattle.std.proofs.Common.{◌≡◌, ◌≤◌, ◌+◌, ◌∙◌, ℕ, refl, sym, ap, subst, arith, length, length-append, List, [], ◌∷◌, ◌++◌}
use Rattle.std.specs.Prelude.{Bool, true, false, if◌then◌else◌, ◌&&◌, not, nat_le, nat_lt, Option, Some, None, Result, Ok, Err}
use Rattle.std.proofs.lemmas.Bool.Decides.{nat_tests}
use Rattle.radio_base.specs.declared.payload.Payload.{Payload}
use Rattle.ax_address.specs.Callsign.{Callsign, same_call}
use Rattle.ax_address.proofs.SameCalls.{same_call-true}
use Rattle.ax_link.specs.State.{State}
use Rattle.ax_link.specs.Table.{Send, Set_up, may_close, step, takes}
use Rattle.ax_link.specs.declared.phase.LinkPhase.{LinkPhase}
use Rattle.ax_link.specs.declared.phase.LinkPhase.TheVariants.{Down, SettingUp, Up, Releasing}
use Rattle.ax_segment.specs.Segments.{segments_of}
use Rattle.l3_datagram.specs.Datagrams.{Datagram}
use Rattle.l3_datagram.specs.declared.carrier.Offered.TheVariants.{Taken, Dropped}
use Rattle.link_table.specs.declared.text_refusal.TextRefusal.{TextRefusal}
use Rattle.link_table.specs.declared.text_refusal.TextRefusal.TheVariants.{NoLink, TooLong, Full}
use Rattle.link_table.specs.Calls as calls
use Rattle.link_table.specs.Frames.{plain_text, segmented}
use Rattle.link_table.specs.Rooms.{OffersTakeOne, RoomTakesTexts, TextsAreFew}
use Rattle.link_table.specs.Texts as sending
use Rattle.link_table.specs.Texts.{takes_texts, room, room_of}
use Rattle.link_table.specs.Table.{Linked, Table, link_with, path_to, with_link, without}
use Rattle.link_table.specs.Works.{Work, is_down, step_link}
use Rattle.link_table.proofs.Sending.{Accepted, accepted, length_cut, length_payloads, length_segments, room_is}

-- ---- the links with others

with_other : (peer to : Callsign) (ls : List Linked) (l new : Linked) → same_call peer to ≡ false → link_with to ls ≡ Some l → new.peer ≡ l.peer
    → link_with peer (with_link to new ls) ≡ link_with peer ls
with_other peer to [] l new apart e p = absurd (cc e)
with_other peer to (k ∷ ls) l new apart e p = by (same_call to k.peer) refl e (λ f. with_other peer to ls l new apart f p)
  where
    by : (b : Bool) → same_call to k.peer ≡ b → (if b then Some k else link_with to ls) ≡ Some l → (link_with to ls ≡ Some l → link_with peer (with_link to new ls) ≡ link_with peer ls)
        → link_with peer (if b then new ∷ ls else k ∷ with_link to new ls) ≡ (if same_call peer k.peer then Some k else link_with peer ls)
    by true g f rest =
        let same : k ≡ l = cc f in
        let old : same_call peer k.peer ≡ false = subst (λ (c : Callsign). same_call peer c ≡ false) (same_call-true to k.peer g) apart in
        let later : same_call peer new.peer ≡ false = rw (p, ← same) old in
        rw (old, later) refl
    by false g f rest = ap (λ (o : Option Linked). if same_call peer k.peer then Some k else o) (rest f)

without_other : (peer to : Callsign) (ls : List Linked) → same_call peer to ≡ false → link_with peer (without to ls) ≡ link_with peer ls
without_other peer to [] apart = refl
without_other peer to (k ∷ ls) apart = by (same_call to k.peer) refl (without_other peer to ls apart)
  where
    by : (b : Bool) → same_call to k.peer ≡ b → link_with peer (without to ls) ≡ link_with peer ls
        → link_with peer (if b then ls else k ∷ without to ls) ≡ (if same_call peer k.peer then Some k else link_with peer ls)
    by true g rest =
        let old : same_call peer k.peer ≡ false = subst (λ (c : Callsign). same_call peer c ≡ false) (same_call-true to k.peer g) apart in
        rw old refl
    by false g rest = ap (λ (o : Option Linked). if same_call peer k.peer then Some k else o) rest

kept_other : (peer to : Callsign) (w : Work) (t : Table) (l : Linked) → same_call peer to ≡ false → link_with to t.links ≡ Some l → w.linked.peer ≡ l.peer
    → link_with peer (calls.keep to w t).links ≡ link_with peer t.links
kept_other peer to w t l apart e p = by (is_down w.linked.link.phase)
  where
    by : (b : Bool) → link_with peer (if b then without to t.links else with_link to w.linked t.links) ≡ link_with peer t.links
    by true = without_other peer to t.links apart
    by false = with_other peer to t.links l w.linked apart e p

at_other : (peer to : Callsign) (part : Work → Work) (t : Table) → ((w : Work) → (part w).linked.peer ≡ w.linked.peer) → same_call peer to ≡ false → (o : Option Linked) → link_with to t.links ≡ o
    → link_with peer (elim o as (λ x. Table) [ None ↦ t | Some l ↦ calls.keep to (part (record { linked = l; pending = t.pending })) t ]).links ≡ link_with peer t.links
at_other peer to part t peers apart None e = refl
at_other peer to part t peers apart (Some l) e = let w : Work = record { linked = l; pending = t.pending } in kept_other peer to (part w) t l apart e (peers w)

standing_other : (peer to : Callsign) (d : Datagram) (now : ℕ) (t : Table) → same_call peer to ≡ false → link_with peer (calls.offer_standing to d now t).table.links ≡ link_with peer t.links
standing_other peer to d now t apart = by (link_with to t.links)
  where
    offering : Bool → calls.Offering
    offering b = if b then record { answer = Taken; table = calls.at_link to (step_link t.own (Send (calls.pack d)) now) t } else record { answer = Dropped; table = t }

    sent : (b : Bool) → link_with peer (offering b).table.links ≡ link_with peer t.links
    sent true = at_other peer to (step_link t.own (Send (calls.pack d)) now) t (λ w. refl) apart (link_with to t.links) refl
    sent false = refl

    by : (o : Option Linked) → link_with peer (elim o as (λ y. calls.Offering) [
      | None ↦ record { answer = Dropped; table = t }
      | Some l ↦ if takes l.link then record { answer = Taken; table = calls.at_link to (step_link t.own (Send (calls.pack d)) now) t } else record { answer = Dropped; table = t }
    ]).table.links ≡ link_with peer t.links
    by None = refl
    by (Some l) = sent (takes l.link)

pushed_other : (peer : Callsign) (ls : List Linked) (k : Linked) → same_call peer k.peer ≡ false → link_with peer (ls ++ k ∷ []) ≡ link_with peer ls
pushed_other peer [] k apart = rw apart refl
pushed_other peer (l ∷ ls) k apart = ap (λ (o : Option Linked). if same_call peer l.peer then Some l else o) (pushed_other peer ls k apart)

set_up_other : (peer to : Callsign) (now : ℕ) (t : Table) → same_call peer to ≡ false → link_with peer (calls.set_up_link to now t).links ≡ link_with peer t.links
set_up_other peer to now t apart =
    let m : Table = calls.made to t.size (path_to to t.paths) t in
    at_other peer to (step_link t.own Set_up now) m (λ w. refl) apart (link_with to m.links) refl ∙ pushed_other peer t.links _ apart

link_other : (peer to : Callsign) (d : Datagram) (now : ℕ) (t : Table) → same_call peer to ≡ false → link_with peer (calls.offer_link to d now t).table.links ≡ link_with peer t.links
link_other peer to d now t apart = by (link_with to t.links)
  where
    offering : Bool → calls.Offering
    offering b = if b then record { answer = Dropped; table = t } else calls.offer_standing to d now (calls.set_up_link to now t)

    new : (b : Bool) → link_with peer (offering b).table.links ≡ link_with peer t.links
    new true = refl
    new false = standing_other peer to d now (calls.set_up_link to now t) apart ∙ set_up_other peer to now t apart

    by : (o : Option Linked) → link_with peer (elim o as (λ y. calls.Offering) [
      | None ↦ if nat_le calls.most_links (length t.links) then record { answer = Dropped; table = t } else calls.offer_standing to d now (calls.set_up_link to now t)
      | Some l ↦ calls.offer_standing to d now t
    ]).table.links ≡ link_with peer t.links
    by None = new (nat_le calls.most_links (length t.links))
    by (Some l) = standing_other peer to d now t apart

offer_other : (peer to : Callsign) (d : Datagram) (now : ℕ) (t : Table) → same_call peer to ≡ false → link_with peer (calls.offer to d now t).table.links ≡ link_with peer t.links
offer_other peer to d now t apart = by t.by_links
  where
    offering : Bool → calls.Offering
    offering b = if b then calls.offer_link to d now t else record { answer = Taken; table = calls.offer_ui to d t }

    by : (b : Bool) → link_with peer (offering b).table.links ≡ link_with peer t.links
    by true = link_other peer to d now t apart
    by false = refl

-- ---- the link itself

abbrev room_by : Option Linked → ℕ
room_by o = elim o as (λ x. ℕ) [ None ↦ 0 | Some l ↦ room_of l.link ]

found_new : (to : Callsign) (ls : List Linked) (l new : Linked) → link_with to ls ≡ Some l → new.peer ≡ l.peer → link_with to (with_link to new ls) ≡ Some new
found_new to [] l new e p = absurd (cc e)
found_new to (k ∷ ls) l new e p = by (same_call to k.peer) refl e (λ f. found_new to ls l new f p)
  where
    by : (b : Bool) → same_call to k.peer ≡ b → (if b then Some k else link_with to ls) ≡ Some l → (link_with to ls ≡ Some l → link_with to (with_link to new ls) ≡ Some new)
        → link_with to (if b then new ∷ ls else k ∷ with_link to new ls) ≡ Some new
    by true g f rest = let same : k ≡ l = cc f in let here : same_call to new.peer ≡ true = rw (p, ← same) g in rw here refl
    by false g f rest = rw g (rest f)

up_by : (phase : LinkPhase) (more : Bool) → (may_close phase && more) ≡ true → is_down phase ≡ false
up_by Down more e = absurd (cc e)
up_by SettingUp more e = refl
up_by Up more e = refl
up_by Releasing more e = absurd (cc e)

-- a payload that is taken leaves one place less, if that
one_less : (s : State) (p : Payload) (now : ℕ) → takes s ≡ true → room_of s ≤ room_of (step s (Send p) now).link + 1
one_less s p now e = by (takes_texts s) refl
  where
    one : Accepted s p (step s (Send p) now).link
    one = accepted s p now e

    by : (b : Bool) → takes_texts s ≡ b → room_of s ≤ room_of (step s (Send p) now).link + 1
    by false f = let none : room_of s ≡ 0 = rw f refl in omega (arith, none)
    by true f =
        let still : takes_texts (step s (Send p) now).link ≡ true = rw (one.phase, one.closing) f in
        let before = room_is s f in
        let later = room_is (step s (Send p) now).link still in
        let longer : length (step s (Send p) now).link.given ≡ length s.given + 1 = ap length one.given ∙ length-append s.given (p ∷ []) in
        let acked = one.acked in
        omega (arith, before, later, longer, acked)

sent_own : (to : Callsign) (p : Payload) (now : ℕ) (t : Table) (l : Linked) → takes l.link ≡ true → (o : Option Linked) → link_with to t.links ≡ o → o ≡ Some l
    → room_of l.link ≤ room_by (link_with to (elim o as (λ x. Table) [ None ↦ t | Some m ↦ calls.keep to (step_link t.own (Send p) now (record { linked = m; pending = t.pending })) t ]).links) + 1
sent_own to p now t l e None q same = absurd (cc same)
sent_own to p now t l e (Some m) q same =
    let is : l ≡ m = cc same in
    let fits : takes m.link ≡ true = rw (← is) e in
    let w : Work = step_link t.own (Send p) now (record { linked = m; pending = t.pending }) in
    let phase : w.linked.link.phase ≡ m.link.phase = (accepted m.link p now fits).phase in
    let up : is_down w.linked.link.phase ≡ false = rw phase (up_by m.link.phase _ fits) in
    let less = one_less m.link p now fits in
    let there : link_with to (calls.keep to w t).links ≡ Some w.linked = rw up (found_new to t.links m w.linked q refl) in
    rw (there, is) less

standing_own : (to : Callsign) (d : Datagram) (now : ℕ) (t : Table) → room to t ≤ room to (calls.offer_standing to d now t).table + 1
standing_own to d now t = by (link_with to t.links) refl
  where
    offering : Bool → calls.Offering
    offering b = if b then record { answer = Taken; table = calls.at_link to (step_link t.own (Send (calls.pack d)) now) t } else record { answer = Dropped; table = t }

    taken : (l : Linked) (b : Bool) → link_with to t.links ≡ Some l → takes l.link ≡ b → room_of l.link ≤ room_by (link_with to (offering b).table.links) + 1
    taken l true e f = sent_own to (calls.pack d) now t l f (link_with to t.links) refl e
    taken l false e f = rw e (omega arith)

    by : (o : Option Linked) → link_with to t.links ≡ o → room_by o ≤ room_by (link_with to (elim o as (λ y. calls.Offering) [
      | None ↦ record { answer = Dropped; table = t }
      | Some l ↦ if takes l.link then record { answer = Taken; table = calls.at_link to (step_link t.own (Send (calls.pack d)) now) t } else record { answer = Dropped; table = t }
    ]).table.links) + 1
    by None e = omega arith
    by (Some l) e = taken l (takes l.link) e refl

offer_own : (to : Callsign) (d : Datagram) (now : ℕ) (t : Table) → room to t ≤ room to (calls.offer to d now t).table + 1
offer_own to d now t = by t.by_links
  where
    linked : (o : Option Linked) → link_with to t.links ≡ o → room_by o ≤ room_by (link_with to (elim o as (λ y. calls.Offering) [
      | None ↦ if nat_le calls.most_links (length t.links) then record { answer = Dropped; table = t } else calls.offer_standing to d now (calls.set_up_link to now t)
      | Some l ↦ calls.offer_standing to d now t
    ]).table.links) + 1
    linked None e = omega arith
    linked (Some l) e = rw (ap room_by (sym e)) (standing_own to d now t)

    offering : Bool → calls.Offering
    offering b = if b then calls.offer_link to d now t else record { answer = Taken; table = calls.offer_ui to d t }

    by : (b : Bool) → room to t ≤ room to (offering b).table + 1
    by true = linked (link_with to t.links) refl
    by false = omega arith

offer_one : (peer to : Callsign) (d : Datagram) (now : ℕ) (t : Table) → room peer t ≤ room peer (calls.offer to d now t).table + 1
offer_one peer to d now t = by (same_call peer to) refl
  where
    by : (b : Bool) → same_call peer to ≡ b → room peer t ≤ room peer (calls.offer to d now t).table + 1
    by true e = subst (λ (c : Callsign). room c t ≤ room c (calls.offer to d now t).table + 1) (sym (same_call-true peer to e)) (offer_own to d now t)
    by false e = let same : room peer (calls.offer to d now t).table ≡ room peer t = ap room_by (offer_other peer to d now t e) in omega (arith, same)

pub offers_take_one : OffersTakeOne
offers_take_one = record { one = offer_one; others = offer_other }

-- ---- texts

pub texts_are_few : TextsAreFew
texts_are_few size text few = by (sending.in_segments size text)
  where
    by : (b : Bool) → length (if b then sending.payloads segmented (segments_of plain_text text) else sending.payloads plain_text (sending.cut text)) ≤ 33
    by true = omega (arith, length_payloads segmented (segments_of plain_text text), length_segments plain_text text, few)
    by false = omega (arith, length_payloads plain_text (sending.cut text), length_cut text, few)

abbrev answer_for : Bool → Bool → Bool → Result (Unit {0}) TextRefusal
answer_for takes_them long full = if not takes_them then Err NoLink else if long then Err TooLong else if full then Err Full else Ok tt

goes_by : (takes_them long full : Bool) → takes_them ≡ true → long ≡ false → full ≡ false → answer_for takes_them long full ≡ Ok tt
goes_by takes_them long full e f g = rw (e, f, g) refl

text_goes : (o : Option Linked) (text : List ℕ) → length text ≤ 8192 → 33 ≤ room_by o → (elim o as (λ x. Result (Unit {0}) TextRefusal) [ None ↦ Err NoLink | Some l ↦ sending.answer_of text l.link ]) ≡ Ok tt
text_goes None text few some = absurd (omega (arith, some))
text_goes (Some l) text few some = by (takes_texts l.link) refl
  where
    by : (b : Bool) → takes_texts l.link ≡ b → sending.answer_of text l.link ≡ Ok tt
    by false e = let none : room_of l.link ≡ 0 = rw e refl in absurd (omega (arith, none, some))
    by true e =
        let ps = sending.payloads_of l.link.rules.size text in
        let fits : length ps ≤ room_of l.link = omega (arith, texts_are_few l.link.rules.size text few, some) in
        let short : nat_lt sending.most_text (length text) ≡ false = grind (arith, nat_tests, few) in
        let room_left : nat_lt (room_of l.link) (length ps) ≡ false = grind (arith, nat_tests, fits) in
        goes_by (takes_texts l.link) (nat_lt sending.most_text (length text)) (nat_lt (room_of l.link) (length ps)) e short room_left

pub room_takes_texts : RoomTakesTexts
room_takes_texts peer text t few some = text_goes (link_with peer t.links) text few some
