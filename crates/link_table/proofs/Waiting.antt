-- What is added to the datagrams that wait.
use Rattle.std.proofs.Common.{◌≡◌, ℕ, zero, suc, ◌==◌, ◌&&◌, Bool, true, false, nat_le, List, [], ◌∷◌, ◌++◌, length, map, Option, Some, None, refl, ap, sym, ◌∙◌, subst, if◌then◌else◌, append_assoc, append-nil, is_some, slice_get}
use Rattle.std.specs.List.{AllByRecursion}
use Rattle.radio_base.specs.declared.payload.Payload.{Payload}
use Rattle.ax_address.specs.Callsign.{Callsign}
use Rattle.ax_frame.specs.declared.control.Control.{Control}
use Rattle.ax_frame.specs.declared.control.Control.TheVariants as control
use Rattle.ax_frame.specs.FrameText.{is_command}
use Rattle.ax_frame.specs.Frames.{Frame as AirFrame}
use Rattle.ax_link.specs.State.{Frame}
use Rattle.ax_link.specs.Table.{Arrive, Close, Send, Set_up, Take, Tick, takes}
use Rattle.ax_link.specs.declared.notice.LinkNotice.{LinkNotice}
use Rattle.ax_link.specs.declared.notice.LinkNotice.TheVariants.{Closed, Failed}
use Rattle.ax_segment.specs.Joining.{join_step}
use Rattle.l3_datagram.specs.Datagrams.{Datagram, Parcel}
use Rattle.l3_datagram.specs.declared.carrier.Offered.TheVariants.{Taken, Dropped}
use Rattle.arrayvec.specs.ArrayVec.{ArrayVec}
use Rattle.ax_address.specs.declared.address.Address.{Address}
use Rattle.std.specs.Prelude.{is_ok}
use Rattle.link_table.specs.Calls as calls
use Rattle.link_table.specs.Frames.{netrom, segmented}
use Rattle.link_table.specs.Laws.{OnlyFramesBring}
use Rattle.link_table.specs.Table.{Linked, Table, link_with, path_to, without}
use Rattle.link_table.specs.Texts as texts
use Rattle.link_table.specs.Works.{Work, arrive_at_link, first_to_take, is_down, hand_up, most_taken, note_caller, settle, step_link, take_payload, tell}
use Rattle.link_table.proofs.Finding.{found_peer}

-- pairs with this call were added
abbrev Adds : Callsign → List Parcel → List Parcel → Type 0
Adds peer old new = (added : List Parcel) × (new ≡ old ++ added) × AllByRecursion (λ p. p.0 ≡ peer) added

nothing : (peer : Callsign) (old : List Parcel) → Adds peer old old
nothing peer old = ([], sym (append-nil old), tt)

all_snoc : (peer : Callsign) (xs ys : List Parcel) → AllByRecursion (λ p. p.0 ≡ peer) xs → AllByRecursion (λ p. p.0 ≡ peer) ys → AllByRecursion (λ p. p.0 ≡ peer) (xs ++ ys)
all_snoc peer [] ys a b = b
all_snoc peer (x ∷ xs) ys a b = (a.0, all_snoc peer xs ys a.1 b)

next : (peer : Callsign) (a b c : List Parcel) → Adds peer a b → Adds peer b c → Adds peer a c
next peer a b c x y = (x.0 ++ y.0, y.1 ∙ ap (λ zs. zs ++ y.0) x.1 ∙ append_assoc a x.0 y.0, all_snoc peer x.0 y.0 x.2 y.2)

handed_adds : (p : Payload) (w : Work) → Adds w.linked.peer w.pending.waiting (hand_up p w).pending.waiting
handed_adds p w = by (p.pid == netrom) (p.pid == segmented)
  where
    by : (b c : Bool) → Adds w.linked.peer w.pending.waiting (if b
        then record w { pending = record w.pending { waiting = w.pending.waiting ++ (w.linked.peer, p.info) ∷ [] } }
        else if c
        then record w { linked = record w.linked { joiner = (join_step w.linked.joiner p.info.items).0 } }
        else w).pending.waiting
    by true c = ((w.linked.peer, p.info) ∷ [], refl, (refl, tt))
    by false true = nothing w.linked.peer w.pending.waiting
    by false false = nothing w.linked.peer w.pending.waiting

handed_peer : (p : Payload) (w : Work) → (hand_up p w).linked.peer ≡ w.linked.peer
handed_peer p w = by (p.pid == netrom) (p.pid == segmented)
  where
    by : (b c : Bool) → (if b
        then record w { pending = record w.pending { waiting = w.pending.waiting ++ (w.linked.peer, p.info) ∷ [] } }
        else if c
        then record w { linked = record w.linked { joiner = (join_step w.linked.joiner p.info.items).0 } }
        else w).linked.peer ≡ w.linked.peer
    by true c = refl
    by false true = refl
    by false false = refl

settled_adds : (n : ℕ) (own peer : Callsign) (now : ℕ) (w : Work) → w.linked.peer ≡ peer → Adds peer w.pending.waiting (settle n own now w).pending.waiting
settled_adds zero own peer now w e = nothing peer w.pending.waiting
settled_adds (suc n) own peer now w e = by (first_to_take w) (λ p q. settled_adds n own peer now (take_payload own now p w) q)
  where
    by : (r : Option Payload) → ((p : Payload) → (take_payload own now p w).linked.peer ≡ peer → Adds peer (take_payload own now p w).pending.waiting (settle n own now (take_payload own now p w)).pending.waiting) →
        Adds peer w.pending.waiting (elim r as (λ y. Work) [ None ↦ w | Some p ↦ settle n own now (take_payload own now p w) ]).pending.waiting
    by None rest = nothing peer w.pending.waiting
    by (Some p) rest =
        let s : Work = step_link own Take now w in
        next peer w.pending.waiting (take_payload own now p w).pending.waiting (settle n own now (take_payload own now p w)).pending.waiting
        (subst (λ k. Adds k s.pending.waiting (hand_up p s).pending.waiting) e (handed_adds p s)) (rest p (handed_peer p s ∙ e))

text_adds : (own peer : Callsign) (now : ℕ) (w : Work) → w.linked.peer ≡ peer → Adds peer w.pending.waiting (texts.take_text_of own now w).pending.waiting
text_adds own peer now w e = by (slice_get w.linked.link.inbox 0)
  where
    by : (r : Option Payload) → Adds peer w.pending.waiting (elim r as (λ y. Work) [ None ↦ w | Some p ↦ settle most_taken own now (take_payload own now p w) ]).pending.waiting
    by None = nothing peer w.pending.waiting
    by (Some p) =
        let s : Work = step_link own Take now w in
        next peer w.pending.waiting (take_payload own now p w).pending.waiting (settle most_taken own now (take_payload own now p w)).pending.waiting
        (subst (λ k. Adds k s.pending.waiting (hand_up p s).pending.waiting) e (handed_adds p s)) (settled_adds most_taken own peer now (take_payload own now p w) (handed_peer p s ∙ e))

arrived_adds : (own peer : Callsign) (f : Frame) (now : ℕ) (w : Work) → w.linked.peer ≡ peer → Adds peer w.pending.waiting (arrive_at_link own f now w).pending.waiting
arrived_adds own peer f now w e = by (is_down s.linked.link.phase)
  where
    s : Work
    s = step_link own (Arrive f) now (note_caller f w)

    by : (b : Bool) → Adds peer w.pending.waiting (if b then s else settle most_taken own now s).pending.waiting
    by true = nothing peer w.pending.waiting
    by false = settled_adds most_taken own peer now s e

to_link_adds : (f : AirFrame) (now : ℕ) (t : Table) → Adds (calls.source f) t.pending.waiting (calls.to_link f now t).pending.waiting
to_link_adds f now t = by (link_with (calls.source f) t.links) refl
  where
    by : (r : Option Linked) → link_with (calls.source f) t.links ≡ r → Adds (calls.source f) t.pending.waiting (elim r as (λ y. Table)
        [ None ↦ t | Some l ↦ calls.keep (calls.source f) (arrive_at_link t.own (calls.link_frame l.link.rules.size f) now (record { linked = l; pending = t.pending })) t ]).pending.waiting
    by None e = nothing (calls.source f) t.pending.waiting
    by (Some l) e = arrived_adds t.own (calls.source f) (calls.link_frame l.link.rules.size f) now (record { linked = l; pending = t.pending }) (sym (found_peer (calls.source f) t.links l e))

take_adds : (peer : Callsign) (now : ℕ) (t : Table) → Adds peer t.pending.waiting (texts.take_text peer now t).pending.waiting
take_adds peer now t = at (is_some (texts.text_with peer t))
  where
    by : (r : Option Linked) → link_with peer t.links ≡ r →
        Adds peer t.pending.waiting (elim r as (λ y. Table) [ None ↦ t | Some l ↦ calls.keep peer (texts.take_text_of t.own now (record { linked = l; pending = t.pending })) t ]).pending.waiting
    by None e = nothing peer t.pending.waiting
    by (Some l) e = text_adds t.own peer now (record { linked = l; pending = t.pending }) (sym (found_peer peer t.links l e))

    at : (b : Bool) → Adds peer t.pending.waiting (if b then calls.at_link peer (texts.take_text_of t.own now) t else t).pending.waiting
    at true = by (link_with peer t.links) refl
    at false = nothing peer t.pending.waiting

-- ---- what adds nothing

at_link_keeps : (peer : Callsign) (part : Work → Work) (t : Table) → ((w : Work) → (part w).pending.waiting ≡ w.pending.waiting) → (calls.at_link peer part t).pending.waiting ≡ t.pending.waiting
at_link_keeps peer part t k = by (link_with peer t.links)
  where
    by : (r : Option Linked) → (elim r as (λ y. Table) [ None ↦ t | Some l ↦ calls.keep peer (part (record { linked = l; pending = t.pending })) t ]).pending.waiting ≡ t.pending.waiting
    by None = refl
    by (Some l) = k (record { linked = l; pending = t.pending })

ended_keeps : (peer : Callsign) (notes : List LinkNotice) (t : Table) → (calls.end peer notes t).pending.waiting ≡ t.pending.waiting
ended_keeps peer notes t = by (link_with peer t.links)
  where
    by : (r : Option Linked) → (elim r as (λ y. Table) [ None ↦ t | Some l ↦ record t { links = without peer t.links; pending = tell peer notes t.pending } ]).pending.waiting ≡ t.pending.waiting
    by None = refl
    by (Some l) = refl

new_adds : (size : ℕ) (pf : Bool) (f : AirFrame) (now : ℕ) (t : Table) → Adds (calls.source f) t.pending.waiting (calls.set_up_new size pf f now t).pending.waiting
new_adds size pf f now t = by (nat_le calls.most_links (length t.links))
  where
    by : (c : Bool) → Adds (calls.source f) t.pending.waiting (if c then calls.answer f (control.Dm pf) [] t else calls.to_link f now (calls.made (calls.source f) size (calls.back f) t)).pending.waiting
    by true = nothing (calls.source f) t.pending.waiting
    by false = to_link_adds f now (calls.made (calls.source f) size (calls.back f) t)

set_up_adds : (size : ℕ) (pf : Bool) (f : AirFrame) (now : ℕ) (t : Table) → Adds (calls.source f) t.pending.waiting (calls.set_up size pf f now t).pending.waiting
set_up_adds size pf f now t = by (link_with (calls.source f) t.links)
  where
    e : Table
    e = calls.end (calls.source f) (Closed ∷ []) t

    same : (c : Bool) → Adds (calls.source f) t.pending.waiting (if c then calls.to_link f now t else calls.set_up_new size pf f now e).pending.waiting
    same true = to_link_adds f now t
    same false = subst (λ xs. Adds (calls.source f) xs (calls.set_up_new size pf f now e).pending.waiting) (ended_keeps (calls.source f) (Closed ∷ []) t) (new_adds size pf f now e)

    by : (r : Option Linked) → Adds (calls.source f) t.pending.waiting (elim r as (λ y. Table)
        [ None ↦ calls.set_up_new size pf f now t | Some l ↦ if l.link.rules.size == size then calls.to_link f now t else calls.set_up_new size pf f now e ]).pending.waiting
    by None = new_adds size pf f now t
    by (Some l) = same (l.link.rules.size == size)

other_adds : (f : AirFrame) (now : ℕ) (t : Table) → Adds (calls.source f) t.pending.waiting (calls.no_set_up f now t).pending.waiting
other_adds f now t = by (link_with (calls.source f) t.links)
  where
    down : (c : Bool) → Adds (calls.source f) t.pending.waiting (if c then calls.answer_down f t else t).pending.waiting
    down true = nothing (calls.source f) t.pending.waiting
    down false = nothing (calls.source f) t.pending.waiting

    by : (r : Option Linked) → Adds (calls.source f) t.pending.waiting (elim r as (λ y. Table) [ None ↦ if is_command f.head then calls.answer_down f t else t | Some l ↦ calls.to_link f now t ]).pending.waiting
    by None = down (is_command f.head)
    by (Some l) = to_link_adds f now t

ui_adds : (f : AirFrame) (pid : Option ℕ) (t : Table) → Adds (calls.source f) t.pending.waiting (calls.ui f pid t).pending.waiting
ui_adds f None t = nothing (calls.source f) t.pending.waiting
ui_adds f (Some pid) t = by ((pid == netrom) && nat_le (length f.info) 256)
  where
    by : (c : Bool) → Adds (calls.source f) t.pending.waiting
        (if c then record t { pending = record t.pending { waiting = t.pending.waiting ++ (calls.source f, record { items = f.info }) ∷ [] } } else t).pending.waiting
    by true = ((calls.source f, record { items = f.info }) ∷ [], refl, (refl, tt))
    by false = nothing (calls.source f) t.pending.waiting

kind_adds : (command : Bool) (c : Control) (f : AirFrame) (now : ℕ) (t : Table) → Adds (calls.source f) t.pending.waiting (calls.arrive_kind command c f now t).pending.waiting
kind_adds true (control.Sabm pf) f now t = set_up_adds 8 pf f now t
kind_adds true (control.Sabme pf) f now t = set_up_adds 128 pf f now t
kind_adds true (control.Test pf) f now t = nothing (calls.source f) t.pending.waiting
kind_adds true (control.Ui pf) f now t = ui_adds f f.pid t
kind_adds false (control.Ui pf) f now t = ui_adds f f.pid t
kind_adds command c f now t = other_adds f now t

ticks_keep : (peers : List Callsign) (now : ℕ) (t : Table) → (calls.tick_each peers now t).pending.waiting ≡ t.pending.waiting
ticks_keep [] now t = refl
ticks_keep (p ∷ ps) now t = ticks_keep ps now (calls.at_link p (step_link t.own Tick now) t) ∙ at_link_keeps p (step_link t.own Tick now) t (λ w. refl)

standing_keeps : (to : Callsign) (d : Datagram) (now : ℕ) (t : Table) → (calls.offer_standing to d now t).table.pending.waiting ≡ t.pending.waiting
standing_keeps to d now t = by (link_with to t.links)
  where
    yes : calls.Offering
    yes = record { answer = Taken; table = calls.at_link to (step_link t.own (Send (calls.pack d)) now) t }

    no : calls.Offering
    no = record { answer = Dropped; table = t }

    takes_by : (b : Bool) → (if b then yes else no).table.pending.waiting ≡ t.pending.waiting
    takes_by true = at_link_keeps to (step_link t.own (Send (calls.pack d)) now) t (λ w. refl)
    takes_by false = refl

    by : (r : Option Linked) → (elim r as (λ y. calls.Offering) [ None ↦ no | Some l ↦ if takes l.link then yes else no ]).table.pending.waiting ≡ t.pending.waiting
    by None = refl
    by (Some l) = takes_by (takes l.link)

open_keeps : (peer : Callsign) (path : ArrayVec Address) (now : ℕ) (t : Table) → (calls.open_link peer path now t).pending.waiting ≡ t.pending.waiting
open_keeps peer path now t = by (is_ok (calls.open_answer peer path t))
  where
    by : (b : Bool) → (if b then calls.set_up_over peer (calls.open_path peer path t.paths) now t else t).pending.waiting ≡ t.pending.waiting
    by true = at_link_keeps peer (step_link t.own Set_up now) (calls.made peer t.size (calls.open_path peer path t.paths) t) (λ w. refl)
    by false = refl

link_keeps : (to : Callsign) (d : Datagram) (now : ℕ) (t : Table) → (calls.offer_link to d now t).table.pending.waiting ≡ t.pending.waiting
link_keeps to d now t = by (link_with to t.links)
  where
    m : Table
    m = calls.made to t.size (path_to to t.paths) t

    full : (b : Bool) → (if b then record { answer = Dropped; table = t } else calls.offer_standing to d now (calls.set_up_link to now t)).table.pending.waiting ≡ t.pending.waiting
    full true = refl
    full false = standing_keeps to d now (calls.set_up_link to now t) ∙ at_link_keeps to (step_link t.own Set_up now) m (λ w. refl)

    by : (r : Option Linked) → (elim r as (λ y. calls.Offering) [
      | None ↦ if nat_le calls.most_links (length t.links) then record { answer = Dropped; table = t } else calls.offer_standing to d now (calls.set_up_link to now t)
      | Some l ↦ calls.offer_standing to d now t
    ]).table.pending.waiting ≡ t.pending.waiting
    by None = full (nat_le calls.most_links (length t.links))
    by (Some l) = standing_keeps to d now t

offer_keeps : (to : Callsign) (d : Datagram) (now : ℕ) (t : Table) → (calls.offer to d now t).table.pending.waiting ≡ t.pending.waiting
offer_keeps to d now t = by t.by_links
  where
    by : (b : Bool) → (if b then calls.offer_link to d now t else record { answer = Taken; table = calls.offer_ui to d t }).table.pending.waiting ≡ t.pending.waiting
    by true = link_keeps to d now t
    by false = refl

pub each_keeps : (own : Callsign) (ps : List Payload) (now : ℕ) (w : Work) → (texts.send_each own ps now w).pending.waiting ≡ w.pending.waiting
each_keeps own [] now w = refl
each_keeps own (p ∷ ps) now w = each_keeps own ps now (step_link own (Send p) now w)

pub only_frames_bring : OnlyFramesBring
only_frames_bring =
    record {
      arrives = λ t f now. kind_adds (is_command f.head) f.control f now t;
      takes = λ t peer now. take_adds peer now t;
      ticks = λ t now. ticks_keep (map (λ l. l.peer) t.links) now t;
      opens = λ t peer path now. open_keeps peer path now t;
      closes = λ t peer now. at_link_keeps peer (step_link t.own Close now) t (λ w. refl);
      breaks = λ t peer. ended_keeps peer (Failed ∷ []) t;
      sends = λ t peer text now. at_link_keeps peer (texts.send_text_of t.own text now) t (λ w. each_keeps t.own (texts.payloads_of w.linked.link.rules.size text) now w);
      offers = λ t to d now. offer_keeps to d now t;
    }
