-- What calls leave of the payloads that came and weren't taken.
use Rattle.std.proofs.Common.{◌≡◌, ◌≤◌, ◌<◌, ◌+◌, ◌∙◌, ℕ, zero, suc, refl, sym, ap, subst, arith, length, append-nil, List, [], ◌∷◌, ◌++◌, replicate, slice_get}
use Rattle.std.specs.Prelude.{Bool, true, false, if◌then◌else◌, ◌&&◌, nat_le, is_some, Option, Some, None}
use Rattle.radio_base.specs.declared.payload.Payload.{Payload}
use Rattle.ax_address.specs.Callsign.{Callsign, same_call}
use Rattle.ax_address.proofs.SameCalls.{call_refl}
use Rattle.ax_link.specs.declared.phase.LinkPhase.{LinkPhase}
use Rattle.ax_link.specs.declared.phase.LinkPhase.TheVariants.{Down, SettingUp, Up, Releasing}
use Rattle.ax_link.specs.Opening.{opening, rules_new}
use Rattle.ax_link.specs.State.{Effect, Rules, State, begin, places}
use Rattle.ax_link.specs.Table as link
use Rattle.ax_link.specs.Table.{Send, Set_up, Take, may_close, step, takes}
use Rattle.ax_segment.specs.Joining.{Nothing}
use Rattle.l3_datagram.specs.Datagrams.{Datagram}
use Rattle.l3_datagram.specs.declared.carrier.Offered.TheVariants.{Taken, Dropped}
use Rattle.link_table.specs.declared.entry.LinkEntry.{LinkEntry}
use Rattle.link_table.specs.Calls as calls
use Rattle.link_table.specs.Kept.{CountsPayloads, Leaves, OffersLeave, TakesLower, all_payloads, entry_payloads, filled, link_payloads, payloads}
use Rattle.link_table.specs.Standing.{LinksStand}
use Rattle.link_table.specs.Table.{Linked, Table, link_with, path_to, with_link, without}
use Rattle.link_table.specs.Texts as texts
use Rattle.link_table.specs.Works.{Work, first_to_take, is_down, most_taken, settle, step_link, take_payload}
use Rattle.link_table.proofs.Lifting.{untexted}
use Rattle.link_table.proofs.Settling.{found_last, handed_link, take_weight}

-- ---- payloads are taken from a link

one_less : (own : Callsign) (now : ℕ) (p q : Payload) (w : Work) → slice_get w.linked.link.inbox 0 ≡ Some q → link_payloads (take_payload own now p w).linked.link < link_payloads w.linked.link
one_less own now p q w e =
    let same : link_payloads (take_payload own now p w).linked.link ≡ link_payloads (step w.linked.link Take now).link = ap link_payloads (handed_link p (step_link own Take now w)) in
    omega (arith, same, take_weight now w.linked.link q e)

no_more : (n : ℕ) (own : Callsign) (now : ℕ) (w : Work) → link_payloads (settle n own now w).linked.link ≤ link_payloads w.linked.link
no_more zero own now w = omega arith
no_more (suc n) own now w = by (first_to_take w) refl (λ p. no_more n own now (take_payload own now p w))
  where
    by : (r : Option Payload) → first_to_take w ≡ r →
        ((p : Payload) → link_payloads (settle n own now (take_payload own now p w)).linked.link ≤ link_payloads (take_payload own now p w).linked.link) →
        link_payloads (elim r as (λ y. Work) [ None ↦ w | Some p ↦ settle n own now (take_payload own now p w) ]).linked.link ≤ link_payloads w.linked.link
    by None e rest = omega arith
    by (Some p) e rest =
        omega (arith, one_less own now p p w (untexted w.linked.joiner (slice_get w.linked.link.inbox 0) p e), rest p)

-- ---- the links of a table

replaced : (peer : Callsign) (ls : List Linked) (l new : Linked) → link_with peer ls ≡ Some l → all_payloads (with_link peer new ls) + link_payloads l.link ≡ all_payloads ls + link_payloads new.link
replaced peer [] l new e = absurd (cc e)
replaced peer (k ∷ ls) l new e = by (same_call peer k.peer) e (replaced peer ls l new)
  where
    by : (b : Bool) → (if b then Some k else link_with peer ls) ≡ Some l → (link_with peer ls ≡ Some l → all_payloads (with_link peer new ls) + link_payloads l.link ≡ all_payloads ls + link_payloads new.link)
        → all_payloads (if b then new ∷ ls else k ∷ with_link peer new ls) + link_payloads l.link ≡ link_payloads k.link + all_payloads ls + link_payloads new.link
    by true f rest = let same : k ≡ l = cc f in rw same (omega arith)
    by false f rest = omega (arith, rest f)

removed : (peer : Callsign) (ls : List Linked) (l : Linked) → link_with peer ls ≡ Some l → all_payloads (without peer ls) + link_payloads l.link ≡ all_payloads ls
removed peer [] l e = absurd (cc e)
removed peer (k ∷ ls) l e = by (same_call peer k.peer) e (removed peer ls l)
  where
    by : (b : Bool) → (if b then Some k else link_with peer ls) ≡ Some l → (link_with peer ls ≡ Some l → all_payloads (without peer ls) + link_payloads l.link ≡ all_payloads ls)
        → all_payloads (if b then ls else k ∷ without peer ls) + link_payloads l.link ≡ link_payloads k.link + all_payloads ls
    by true f rest = let same : k ≡ l = cc f in rw same (omega arith)
    by false f rest = omega (arith, rest f)

-- a link that stays has what it has come to; one that leaves has nothing any more
pub kept_most : (peer : Callsign) (w : Work) (t : Table) (l : Linked) → link_with peer t.links ≡ Some l → payloads (calls.keep peer w t) + link_payloads l.link ≤ payloads t + link_payloads w.linked.link
kept_most peer w t l e = by (is_down w.linked.link.phase)
  where
    by : (b : Bool) → all_payloads (if b then without peer t.links else with_link peer w.linked t.links) + link_payloads l.link ≤ payloads t + link_payloads w.linked.link
    by true = omega (arith, removed peer t.links l e)
    by false = omega (arith, replaced peer t.links l w.linked e)

-- ---- a text is taken

text_less : (own : Callsign) (now : ℕ) (w : Work) → is_some (texts.first_text w.linked.joiner (slice_get w.linked.link.inbox 0)) ≡ true
    → link_payloads (texts.take_text_of own now w).linked.link < link_payloads w.linked.link
text_less own now w some = by (slice_get w.linked.link.inbox 0) refl some
  where
    by : (r : Option Payload) → slice_get w.linked.link.inbox 0 ≡ r → is_some (texts.first_text w.linked.joiner r) ≡ true
        → link_payloads (elim r as (λ y. Work) [ None ↦ w | Some p ↦ settle most_taken own now (take_payload own now p w) ]).linked.link < link_payloads w.linked.link
    by None e f = absurd (cc f)
    by (Some p) e f = omega (arith, one_less own now p p w e, no_more most_taken own now (take_payload own now p w))

pub takes_lower : TakesLower
takes_lower peer now t e = rw e (by (link_with peer t.links) refl e)
  where
    by : (r : Option Linked) → link_with peer t.links ≡ r → is_some (elim r as (λ x. Option (List ℕ)) [ None ↦ None | Some l ↦ texts.text_at l ]) ≡ true
        → payloads (elim r as (λ y. Table) [ None ↦ t | Some l ↦ calls.keep peer (texts.take_text_of t.own now (record { linked = l; pending = t.pending })) t ]) < payloads t
    by None f g = absurd (cc g)
    by (Some l) f g =
        let w : Work = record { linked = l; pending = t.pending } in
        omega (arith, text_less t.own now w g, kept_most peer (texts.take_text_of t.own now w) t l f)

-- ---- a datagram is offered

still : (t : Table) → Leaves t t
still t = record { waiting = refl; lost = refl; notices = refl; payloads = refl }

then_leaves : (a b c : Table) → Leaves a b → Leaves b c → Leaves a c
then_leaves a b c x y =
    record { waiting = y.waiting ∙ x.waiting; lost = y.lost ∙ x.lost; notices = y.notices ∙ x.notices; payloads = y.payloads ∙ x.payloads }

phase_stays : (p : LinkPhase) (more : Bool) → (may_close p && more) ≡ true → is_down p ≡ false
phase_stays Down more e = absurd (cc e)
phase_stays SettingUp more e = refl
phase_stays Up more e = refl
phase_stays Releasing more e = absurd (cc e)

-- what is kept of a step that gives no notice, changes no payload and isn't Down after it
quiet_leaves : (peer : Callsign) (w : Work) (t : Table) (l : Linked) → link_with peer t.links ≡ Some l → is_down w.linked.link.phase ≡ false
    → w.pending.waiting ≡ t.pending.waiting → w.pending.lost ≡ t.pending.lost → w.pending.notices ≡ t.pending.notices → link_payloads w.linked.link ≡ link_payloads l.link
    → Leaves t (calls.keep peer w t)
quiet_leaves peer w t l e up waiting lost notices same = record {
  waiting = waiting;
  lost = lost;
  notices = notices;
  payloads = rw up (omega (arith, replaced peer t.links l w.linked e, same));
}

pub record Sends (s : State) (g : Effect) : Type 0 where
  pub notes : g.notes ≡ []
  pub phase : g.link.phase ≡ s.phase
  pub same : link_payloads g.link ≡ link_payloads s

send_if : (s : State) (p : Payload) (now : ℕ) (b : Bool) → Sends s (if b then link.accept now p (begin s) else begin s)
send_if s p now true = record { notes = refl; phase = refl; same = refl }
send_if s p now false = record { notes = refl; phase = refl; same = refl }

send_leaves : (to : Callsign) (d : Datagram) (now : ℕ) (t : Table) (l : Linked) → link_with to t.links ≡ Some l → takes l.link ≡ true
    → Leaves t (calls.keep to (step_link t.own (Send (calls.pack d)) now (record { linked = l; pending = t.pending })) t)
send_leaves to d now t l e takes_it =
    let w : Work = record { linked = l; pending = t.pending } in
    let g : Effect = step l.link (Send (calls.pack d)) now in
    let sends : Sends l.link g = send_if l.link (calls.pack d) _ (takes l.link) in
    quiet_leaves to (step_link t.own (Send (calls.pack d)) now w) t l e (rw sends.phase (phase_stays l.link.phase _ takes_it)) refl
    (rw sends.notes (append-nil t.pending.lost)) (rw sends.notes (append-nil t.pending.notices)) sends.same

standing_leaves : (to : Callsign) (d : Datagram) (now : ℕ) (t : Table) → Leaves t (calls.offer_standing to d now t).table
standing_leaves to d now t = by (link_with to t.links) refl
  where
    yes : calls.Offering
    yes = record { answer = Taken; table = calls.at_link to (step_link t.own (Send (calls.pack d)) now) t }

    no : calls.Offering
    no = record { answer = Dropped; table = t }

    if_taken : (l : Linked) → link_with to t.links ≡ Some l → (b : Bool) → takes l.link ≡ b → Leaves t (if b then yes else no).table
    if_taken l e true takes_it =
        let w : Work → Work = step_link t.own (Send (calls.pack d)) now in
        let sent : calls.at_link to w t ≡ calls.keep to (w (record { linked = l; pending = t.pending })) t =
        ap (λ x. elim x as (λ y. Table) [ None ↦ t | Some m ↦ calls.keep to (w (record { linked = m; pending = t.pending })) t ]) e in
        subst (Leaves t) (sym sent) (send_leaves to d now t l e takes_it)
    if_taken l e false leaves_it = still t

    by : (r : Option Linked) → link_with to t.links ≡ r → Leaves t (elim r as (λ x. calls.Offering) [ None ↦ no | Some l ↦ if takes l.link then yes else no ]).table
    by None e = still t
    by (Some l) e = if_taken l e (takes l.link) refl

none_filled : (n : ℕ) → filled (replicate n None) ≡ 0
none_filled zero = refl
none_filled (suc n) = none_filled n

one_more : (ls : List Linked) (l : Linked) → all_payloads (ls ++ l ∷ []) ≡ all_payloads ls + link_payloads l.link
one_more [] l = omega arith
one_more (k ∷ ls) l = omega (arith, one_more ls l)

opened_leaves : (to : Callsign) (now : ℕ) (t : Table) → link_with to t.links ≡ None → Leaves t (calls.set_up_link to now t)
opened_leaves to now t none =
    let rules : Rules = rules_new t.size t.config in
    let l : Linked = record { peer = to; link = opening rules; path = path_to to t.paths; joiner = Nothing; called = false } in
    let made : Table = calls.made to t.size (path_to to t.paths) t in
    let found : link_with to made.links ≡ Some l = found_last to t.links l (call_refl to) none in
    let empty = none_filled (places rules) in
    let w : Work = step_link t.own Set_up now (record { linked = l; pending = t.pending }) in
    let more : Leaves t made = record { waiting = refl; lost = refl; notices = refl; payloads = omega (arith, one_more t.links l, empty) } in
    let opened : calls.set_up_link to now t ≡ calls.keep to w made =
    ap (λ x. elim x as (λ y. Table) [ None ↦ made | Some m ↦ calls.keep to (step_link t.own Set_up now (record { linked = m; pending = t.pending })) made ]) found in
    let kept = quiet_leaves to w made l found refl refl (append-nil t.pending.lost) (append-nil t.pending.notices) refl in
    then_leaves t made (calls.set_up_link to now t) more (subst (Leaves made) (sym opened) kept)

link_leaves : (to : Callsign) (d : Datagram) (now : ℕ) (t : Table) → Leaves t (calls.offer_link to d now t).table
link_leaves to d now t = by (link_with to t.links) refl
  where
    full : link_with to t.links ≡ None → (b : Bool) → Leaves t (if b then record { answer = Dropped; table = t } else calls.offer_standing to d now (calls.set_up_link to now t)).table
    full none true = still t
    full none false = then_leaves t (calls.set_up_link to now t) (calls.offer_standing to d now (calls.set_up_link to now t)).table (opened_leaves to now t none) (standing_leaves to d now (calls.set_up_link to now t))

    by : (r : Option Linked) → link_with to t.links ≡ r → Leaves t (elim r as (λ y. calls.Offering) [
      | None ↦ if nat_le calls.most_links (length t.links) then record { answer = Dropped; table = t } else calls.offer_standing to d now (calls.set_up_link to now t)
      | Some l ↦ calls.offer_standing to d now t
    ]).table
    by None e = full e (nat_le calls.most_links (length t.links))
    by (Some l) e = standing_leaves to d now t

offer_by : (to : Callsign) (d : Datagram) (now : ℕ) (t : Table) (b : Bool) → Leaves t (if b then calls.offer_link to d now t else record { answer = Taken; table = calls.offer_ui to d t }).table
offer_by to d now t true = link_leaves to d now t
offer_by to d now t false = record { waiting = refl; lost = refl; notices = refl; payloads = refl }

pub offers_leave : OffersLeave
offers_leave to d now t = offer_by to d now t t.by_links

-- ---- what the code keeps has as many

stand_same : (own : Callsign) (es : List (Callsign × LinkEntry)) (ls : List Linked) → LinksStand own es ls → entry_payloads es ≡ all_payloads ls
stand_same own [] [] s = refl
stand_same own (e ∷ es) (l ∷ ls) s =
    let same = ap link_payloads s.0.link.keeps.is in
    omega (arith, same, stand_same own es ls s.1)
stand_same own [] (l ∷ ls) s = absurd s
stand_same own (e ∷ es) [] s = absurd s

pub counts_payloads : CountsPayloads
counts_payloads k t s = stand_same k.own k.links t.links s.links
