-- Each call leaves a table in order, and a link that leaves it told.
use Rattle.std.proofs.Common.{◌≡◌, ◌≤◌, ◌+◌, ℕ, ◌==◌, ◌&&◌, ◌||◌, Bool, true, false, nat_le, nat_lt, List, [], ◌∷◌, ◌++◌, length, map, Option, Some, None, refl, ap, sym, ◌∙◌, subst, if◌then◌else◌, arith, is_some, length-append}
use Rattle.std.proofs.lemmas.Bool.Decides.{nat_tests}
use Rattle.std.specs.List.{AllByRecursion}
use Rattle.arrayvec.specs.ArrayVec.{ArrayVec}
use Rattle.ax_address.specs.Callsign.{Callsign, same_call}
use Rattle.ax_address.specs.declared.address.Address.{Address}
use Rattle.ax_frame.specs.declared.control.Control.{Control}
use Rattle.ax_frame.specs.declared.control.Control.TheVariants as control
use Rattle.ax_frame.specs.FrameText.{is_command}
use Rattle.ax_frame.specs.Frames.{Frame as AirFrame}
use Rattle.ax_link.specs.Table.{Close, Send, Set_up, Tick, takes}
use Rattle.ax_link.specs.declared.notice.LinkNotice.{LinkNotice}
use Rattle.ax_link.specs.declared.notice.LinkNotice.TheVariants.{Closed, Failed}
use Rattle.ax_link.specs.Opening.{opening, rules_new}
use Rattle.ax_segment.specs.Joining.{Nothing}
use Rattle.l3_datagram.specs.Datagrams.{Datagram}
use Rattle.l3_datagram.specs.declared.carrier.Offered.TheVariants.{Taken, Dropped}
use Rattle.arrayvec.specs.ArrayVec.{ArrayVec}
use Rattle.ax_address.specs.declared.address.Address.{Address}
use Rattle.std.specs.Prelude.{Result, Ok, Err, is_ok}
use Rattle.std.proofs.lemmas.Bool.{or_right}
use Rattle.ax_address.proofs.SameCalls.{call_refl}
use Rattle.link_table.specs.declared.open_refusal.OpenRefusal.{OpenRefusal}
use Rattle.link_table.specs.declared.open_refusal.OpenRefusal.TheVariants.{Full, Standing, TooLong}
use Rattle.link_table.specs.Calls as calls
use Rattle.link_table.specs.Ending.{EndsAreTold, Leaves, LeavesTold, OneEach, TextsAreOfLinks, has_link, stands_or_told, tells_end}
use Rattle.link_table.specs.Frames.{netrom}
use Rattle.link_table.specs.Table.{Linked, Table, link_with, path_to, with_link, without}
use Rattle.link_table.specs.Texts as texts
use Rattle.link_table.specs.Works.{Work, arrive_at_link, is_down, step_link, tell}
use Rattle.link_table.proofs.Phases.{any_end}
use Rattle.link_table.proofs.Finding.{before, few_with, few_without, found_on, found_peer, last_found, on_behind, on_with, on_without, once_behind, once_with, once_without, with_found, with_last, without_found, without_here, without_last}
use Rattle.link_table.proofs.Reports.{Reports, arrived, named, or_both, sent_each, stepped, text_taken, told_behind, told_more, told_notes}

-- ---- calls

same : (t : Table) → LeavesTold t t
same t o = record { order = o; told = λ q e. e }

follows : (a b c : Table) → LeavesTold a b → LeavesTold b c → LeavesTold a c
follows a b c f g o = let x = f o in let y = g x.order in record { order = y.order; told = λ q e. y.told q (x.told q e) }

-- after work at the link that stands with a peer
kept : (peer : Callsign) (l : Linked) (v : Work) (t : Table) → link_with peer t.links ≡ Some l → Reports (record { linked = l; pending = t.pending }) v → LeavesTold t (calls.keep peer v t)
kept peer l v t e r o = by (is_down v.linked.link.phase) refl
  where
    notices : (q : Callsign) → tells_end q t.pending.notices ≡ true → tells_end q v.pending.notices ≡ true
    notices q f = subst (λ (ns : List (Callsign × LinkNotice)). tells_end q ns ≡ true) (sym r.told) (told_more q t.pending.notices _ f)

    gone : is_down v.linked.link.phase ≡ true → (q : Callsign) → stands_or_told q t ≡ true → (is_some (link_with q (without peer t.links)) || tells_end q v.pending.notices) ≡ true
    gone off q f = here (same_call q l.peer) refl
      where
        here : (b : Bool) → same_call q l.peer ≡ b → (is_some (link_with q (without peer t.links)) || tells_end q v.pending.notices) ≡ true
        here true s =
            or_right (is_some (link_with q (without peer t.links))) (tells_end q v.pending.notices)
            (subst (λ (ns : List (Callsign × LinkNotice)). tells_end q ns ≡ true) (sym r.told) (told_behind q t.pending.notices _ (told_notes q l.peer r.notes s (r.ended (found_on peer t.links l o.on e) off))))
        here false s =
            or_both (has_link q t) (tells_end q t.pending.notices) (is_some (link_with q (without peer t.links))) (tells_end q v.pending.notices)
            (λ g. ap (λ (x : Option Linked). is_some x) (without_found q peer t.links l e s) ∙ g) (notices q) f

    by : (b : Bool) → is_down v.linked.link.phase ≡ b → Leaves t (record t { links = if b then without peer t.links else with_link peer v.linked t.links; pending = v.pending })
    by true off = record {
      order = record { on = on_without peer t.links o.on; once = once_without peer t.links o.once; few = omega (arith, few_without peer t.links, o.few) };
      told = gone off;
    }
    by false on = record {
      order = record { on = on_with peer t.links v.linked o.on on; once = once_with peer t.links l v.linked e r.peer o.once; few = rw (few_with peer t.links v.linked) o.few };
      told = λ q f.
          or_both (has_link q t) (tells_end q t.pending.notices) (is_some (link_with q (with_link peer v.linked t.links))) (tells_end q v.pending.notices)
          (λ g. with_found q peer t.links l v.linked e r.peer ∙ g) (notices q) f;
    }

at_link : (peer : Callsign) (part : Work → Work) (t : Table) → ((w : Work) → Reports w (part w)) → LeavesTold t (calls.at_link peer part t)
at_link peer part t r = by (link_with peer t.links) refl
  where
    by : (o : Option Linked) → link_with peer t.links ≡ o → LeavesTold t (elim o as (λ x. Table) [ None ↦ t | Some l ↦ calls.keep peer (part (record { linked = l; pending = t.pending })) t ])
    by None e = same t
    by (Some l) e = kept peer l (part (record { linked = l; pending = t.pending })) t e (r (record { linked = l; pending = t.pending }))

-- a new link, at which this is done: where it is Down then it leaves again
made : (peer : Callsign) (size : ℕ) (path : ArrayVec Address) (part : Work → Work) (t : Table) → link_with peer t.links ≡ None → nat_le calls.most_links (length t.links) ≡ false
    → ((w : Work) → Reports w (part w)) → LeavesTold t (calls.at_link peer part (calls.made peer size path t))
made peer size path part t none room r o =
    subst (λ (x : Option Linked). Leaves t (elim x as (λ y. Table) [ None ↦ calls.made peer size path t | Some l ↦ calls.keep peer (part (record { linked = l; pending = t.pending })) (calls.made peer size path t) ])) (sym found)
    (by (is_down v.linked.link.phase) refl)
  where
    m : Table
    m = calls.made peer size path t

    new : Linked
    new = record { peer = peer; link = opening (rules_new size t.config); path = path; joiner = Nothing; called = false }

    found : link_with peer m.links ≡ Some new
    found = last_found peer t.links new none (call_refl peer)

    v : Work
    v = part (record { linked = new; pending = t.pending })

    reports : Reports (record { linked = new; pending = t.pending }) v
    reports = r (record { linked = new; pending = t.pending })

    fits : length t.links + 1 ≤ 64
    fits = grind (arith, nat_tests, room)

    notices : (q : Callsign) → tells_end q t.pending.notices ≡ true → tells_end q v.pending.notices ≡ true
    notices q f = subst (λ (ns : List (Callsign × LinkNotice)). tells_end q ns ≡ true) (sym reports.told) (told_more q t.pending.notices _ f)

    by : (b : Bool) → is_down v.linked.link.phase ≡ b → Leaves t (record m { links = if b then without peer m.links else with_link peer v.linked m.links; pending = v.pending })
    by true off =
        subst (λ (ls : List Linked). Leaves t (record m { links = ls; pending = v.pending })) (sym (without_last peer t.links new none (call_refl peer)))
        (record {
          order = record { on = o.on; once = o.once; few = o.few };
          told = λ q f. or_both (has_link q t) (tells_end q t.pending.notices) (has_link q t) (tells_end q v.pending.notices) (λ g. g) (notices q) f;
        })
    by false on =
        subst (λ (ls : List Linked). Leaves t (record m { links = ls; pending = v.pending })) (sym (with_last peer t.links new v.linked none (call_refl peer)))
        (record {
          order = record {
            on = on_behind t.links v.linked o.on on;
            once = once_behind t.links v.linked (subst (λ (k : Callsign). link_with k t.links ≡ None) (sym reports.peer) none) o.once;
            few = omega (arith, fits, length-append t.links (v.linked ∷ []));
          };
          told = λ q f.
              or_both (has_link q t) (tells_end q t.pending.notices) (is_some (link_with q (t.links ++ v.linked ∷ []))) (tells_end q v.pending.notices)
              (λ g. before q t.links v.linked g) (notices q) f;
        })

ended : (peer : Callsign) (notes : List LinkNotice) (t : Table) → any_end notes ≡ true → LeavesTold t (calls.end peer notes t)
ended peer notes t some o = by (link_with peer t.links) refl
  where
    by : (x : Option Linked) → link_with peer t.links ≡ x → Leaves t (elim x as (λ y. Table) [ None ↦ t | Some l ↦ record t { links = without peer t.links; pending = tell peer notes t.pending } ])
    by None e = same t o
    by (Some l) e = record {
      order = record { on = on_without peer t.links o.on; once = once_without peer t.links o.once; few = omega (arith, few_without peer t.links, o.few) };
      told = λ q f. here q f (same_call q peer) refl;
    }
      where
        more : List (Callsign × LinkNotice)
        more = t.pending.notices ++ map (named peer) notes

        here : (q : Callsign) → stands_or_told q t ≡ true → (b : Bool) → same_call q peer ≡ b → (is_some (link_with q (without peer t.links)) || tells_end q more) ≡ true
        here q f true s = or_right (is_some (link_with q (without peer t.links))) (tells_end q more) (told_behind q t.pending.notices _ (told_notes q peer notes s some))
        here q f false s =
            or_both (has_link q t) (tells_end q t.pending.notices) (is_some (link_with q (without peer t.links))) (tells_end q more)
            (λ g. ap (λ (x : Option Linked). is_some x) (without_found q peer t.links l e (subst (λ (k : Callsign). same_call q k ≡ false) (found_peer peer t.links l e) s)) ∙ g)
            (λ g. told_more q t.pending.notices _ g) f

-- then none stands with the peer
ended_none : (peer : Callsign) (notes : List LinkNotice) (t : Table) → OneEach t.links → link_with peer (calls.end peer notes t).links ≡ None
ended_none peer notes t o = by (link_with peer t.links) refl
  where
    by : (x : Option Linked) → link_with peer t.links ≡ x → link_with peer (elim x as (λ y. Table) [ None ↦ t | Some l ↦ record t { links = without peer t.links; pending = tell peer notes t.pending } ]).links ≡ None
    by None e = e
    by (Some l) e = without_here peer t.links o

-- ---- frames that come

to_link : (f : AirFrame) (now : ℕ) (t : Table) → LeavesTold t (calls.to_link f now t)
to_link f now t = at_link (calls.source f) (λ w. arrive_at_link t.own (calls.link_frame w.linked.link.rules.size f) now w) t (λ w. arrived t.own (calls.link_frame w.linked.link.rules.size f) now w)

set_up_new : (size : ℕ) (pf : Bool) (f : AirFrame) (now : ℕ) (t : Table) → link_with (calls.source f) t.links ≡ None → LeavesTold t (calls.set_up_new size pf f now t)
set_up_new size pf f now t none = by (nat_le calls.most_links (length t.links)) refl
  where
    m : Table
    m = calls.made (calls.source f) size (calls.back f) t

    by : (b : Bool) → nat_le calls.most_links (length t.links) ≡ b → LeavesTold t (if b then calls.answer f (control.Dm pf) [] t else calls.to_link f now m)
    by true e = λ o. record { order = record { on = o.on; once = o.once; few = o.few }; told = λ q g. g }
    by false e =
        made (calls.source f) size (calls.back f) (λ w. arrive_at_link t.own (calls.link_frame w.linked.link.rules.size f) now w) t none e
        (λ w. arrived t.own (calls.link_frame w.linked.link.rules.size f) now w)

set_up : (size : ℕ) (pf : Bool) (f : AirFrame) (now : ℕ) (t : Table) → LeavesTold t (calls.set_up size pf f now t)
set_up size pf f now t = by (link_with (calls.source f) t.links) refl
  where
    e : Table
    e = calls.end (calls.source f) (Closed ∷ []) t

    fits : (b : Bool) → LeavesTold t (if b then calls.to_link f now t else calls.set_up_new size pf f now e)
    fits true = to_link f now t
    fits false = λ o.
        follows t e (calls.set_up_new size pf f now e) (ended (calls.source f) (Closed ∷ []) t refl) (set_up_new size pf f now e (ended_none (calls.source f) (Closed ∷ []) t o.once)) o

    by : (x : Option Linked) → link_with (calls.source f) t.links ≡ x → LeavesTold t (elim x as (λ y. Table)
        [ None ↦ calls.set_up_new size pf f now t | Some l ↦ if l.link.rules.size == size then calls.to_link f now t else calls.set_up_new size pf f now e ])
    by None q = set_up_new size pf f now t q
    by (Some l) q = fits (l.link.rules.size == size)

no_set_up : (f : AirFrame) (now : ℕ) (t : Table) → LeavesTold t (calls.no_set_up f now t)
no_set_up f now t = by (link_with (calls.source f) t.links)
  where
    down : (b : Bool) → LeavesTold t (if b then calls.answer_down f t else t)
    down true = λ o. record { order = record { on = o.on; once = o.once; few = o.few }; told = λ q g. g }
    down false = same t

    by : (x : Option Linked) → LeavesTold t (elim x as (λ y. Table) [ None ↦ if is_command f.head then calls.answer_down f t else t | Some l ↦ calls.to_link f now t ])
    by None = down (is_command f.head)
    by (Some l) = to_link f now t

ui : (f : AirFrame) (pid : Option ℕ) (t : Table) → LeavesTold t (calls.ui f pid t)
ui f None t = same t
ui f (Some pid) t = by ((pid == netrom) && nat_le (length f.info) 256)
  where
    by : (c : Bool) → LeavesTold t (if c then record t { pending = record t.pending { waiting = t.pending.waiting ++ (calls.source f, record { items = f.info }) ∷ [] } } else t)
    by true = λ o. record { order = record { on = o.on; once = o.once; few = o.few }; told = λ q g. g }
    by false = same t

kind : (command : Bool) (c : Control) (f : AirFrame) (now : ℕ) (t : Table) → LeavesTold t (calls.arrive_kind command c f now t)
kind true (control.Sabm pf) f now t = set_up 8 pf f now t
kind true (control.Sabme pf) f now t = set_up 128 pf f now t
kind true (control.Test pf) f now t = λ o. record { order = record { on = o.on; once = o.once; few = o.few }; told = λ q g. g }
kind true (control.Ui pf) f now t = ui f f.pid t
kind false (control.Ui pf) f now t = ui f f.pid t
kind command c f now t = no_set_up f now t

-- ---- the other calls

ticked : (peers : List Callsign) (now : ℕ) (t : Table) → LeavesTold t (calls.tick_each peers now t)
ticked [] now t = same t
ticked (p ∷ ps) now t =
    let m : Table = calls.at_link p (step_link t.own Tick now) t in
    follows t m (calls.tick_each ps now m) (at_link p (step_link t.own Tick now) t (λ w. stepped t.own Tick now w)) (ticked ps now m)

take : (peer : Callsign) (now : ℕ) (t : Table) → LeavesTold t (texts.take_text peer now t)
take peer now t = by (is_some (texts.text_with peer t))
  where
    by : (b : Bool) → LeavesTold t (if b then calls.at_link peer (texts.take_text_of t.own now) t else t)
    by true = at_link peer (texts.take_text_of t.own now) t (λ w. text_taken t.own now w)
    by false = same t

standing : (to : Callsign) (d : Datagram) (now : ℕ) (t : Table) → LeavesTold t (calls.offer_standing to d now t).table
standing to d now t = by (link_with to t.links)
  where
    yes : calls.Offering
    yes = record { answer = Taken; table = calls.at_link to (step_link t.own (Send (calls.pack d)) now) t }

    no : calls.Offering
    no = record { answer = Dropped; table = t }

    takes_by : (b : Bool) → LeavesTold t (if b then yes else no).table
    takes_by true = at_link to (step_link t.own (Send (calls.pack d)) now) t (λ w. stepped t.own (Send (calls.pack d)) now w)
    takes_by false = same t

    by : (r : Option Linked) → LeavesTold t (elim r as (λ y. calls.Offering) [ None ↦ no | Some l ↦ if takes l.link then yes else no ]).table
    by None = same t
    by (Some l) = takes_by (takes l.link)

-- where nothing stands against it, no link stands and there is room
abbrev pub answer_if : (there long full : Bool) → Result (Unit {0}) OpenRefusal
answer_if there long full = if there then Err Standing else if long then Err TooLong else if full then Err Full else Ok tt

pub none_opened : (there long full : Bool) → is_ok (answer_if there long full) ≡ true → (there ≡ false) × (full ≡ false)
none_opened false false false e = (refl, refl)
none_opened false false true e = absurd (cc e)
none_opened false true full e = absurd (cc e)
none_opened true long full e = absurd (cc e)

pub none_there : (x : Option Linked) → is_some x ≡ false → x ≡ None
none_there None e = refl
none_there (Some l) e = absurd (cc e)

opens : (peer : Callsign) (path : ArrayVec Address) (now : ℕ) (t : Table) → LeavesTold t (calls.open_link peer path now t)
opens peer path now t = by (is_ok (calls.open_answer peer path t)) refl
  where
    over : ArrayVec Address
    over = calls.open_path peer path t.paths

    by : (b : Bool) → is_ok (calls.open_answer peer path t) ≡ b → LeavesTold t (if b then calls.set_up_over peer over now t else t)
    by true e =
        let free = none_opened (is_some (link_with peer t.links)) (nat_lt calls.most_repeaters (length path.items)) (nat_le calls.most_links (length t.links)) e in
        made peer t.size over (step_link t.own Set_up now) t (none_there (link_with peer t.links) free.0) free.1 (λ w. stepped t.own Set_up now w)
    by false e = same t

over_link : (to : Callsign) (d : Datagram) (now : ℕ) (t : Table) → LeavesTold t (calls.offer_link to d now t).table
over_link to d now t = by (link_with to t.links) refl
  where
    full : link_with to t.links ≡ None → (b : Bool) → nat_le calls.most_links (length t.links) ≡ b
        → LeavesTold t (if b then record { answer = Dropped; table = t } else calls.offer_standing to d now (calls.set_up_link to now t)).table
    full none true e = same t
    full none false e =
        follows t (calls.set_up_link to now t) (calls.offer_standing to d now (calls.set_up_link to now t)).table
        (made to t.size (path_to to t.paths) (step_link t.own Set_up now) t none e (λ w. stepped t.own Set_up now w)) (standing to d now (calls.set_up_link to now t))

    by : (r : Option Linked) → link_with to t.links ≡ r → LeavesTold t (elim r as (λ y. calls.Offering) [
      | None ↦ if nat_le calls.most_links (length t.links) then record { answer = Dropped; table = t } else calls.offer_standing to d now (calls.set_up_link to now t)
      | Some l ↦ calls.offer_standing to d now t
    ]).table
    by None q = full q (nat_le calls.most_links (length t.links)) refl
    by (Some l) q = standing to d now t

offered : (to : Callsign) (d : Datagram) (now : ℕ) (t : Table) → LeavesTold t (calls.offer to d now t).table
offered to d now t = by t.by_links
  where
    by : (b : Bool) → LeavesTold t (if b then calls.offer_link to d now t else record { answer = Taken; table = calls.offer_ui to d t }).table
    by true = over_link to d now t
    by false = λ o. record { order = record { on = o.on; once = o.once; few = o.few }; told = λ q g. g }

pub ends_are_told : EndsAreTold
ends_are_told = record {
  arrives = λ t f now. kind (is_command f.head) f.control f now t;
  ticks = λ t now. ticked (map (λ l. l.peer) t.links) now t;
  opens = λ t peer path now. opens peer path now t;
  closes = λ t peer now. at_link peer (step_link t.own Close now) t (λ w. stepped t.own Close now w);
  breaks = λ t peer. ended peer (Failed ∷ []) t refl;
  takes = λ t peer now. take peer now t;
  sends = λ t peer text now. at_link peer (texts.send_text_of t.own text now) t (λ w. sent_each t.own (texts.payloads_of w.linked.link.rules.size text) now w);
  offers = λ t to d now. offered to d now t;
}

-- ---- texts

abbrev Among : List Linked → Callsign → Type 0
Among ls peer = is_some (link_with peer ls) ≡ true

more_links : (m : Linked) (ls : List Linked) (peers : List Callsign) → AllByRecursion (Among ls) peers → AllByRecursion (Among (m ∷ ls)) peers
more_links m ls [] a = tt
more_links m ls (p ∷ ps) a = (by (same_call p m.peer), more_links m ls ps a.1)
  where
    by : (b : Bool) → is_some (if b then Some m else link_with p ls) ≡ true
    by true = refl
    by false = a.0

text_links : (ls : List Linked) → AllByRecursion (Among ls) (texts.text_peers ls)
text_links [] = tt
text_links (l ∷ ls) = by (is_some (texts.text_at l)) (more_links l ls (texts.text_peers ls) (text_links ls))
  where
    by : (b : Bool) → AllByRecursion (Among (l ∷ ls)) (texts.text_peers ls) → AllByRecursion (Among (l ∷ ls)) (if b then l.peer ∷ texts.text_peers ls else texts.text_peers ls)
    by true rest = (ap (λ b. is_some (if b then Some l else link_with l.peer ls)) (call_refl l.peer), rest)
    by false rest = rest

pub texts_are_of_links : TextsAreOfLinks
texts_are_of_links t = text_links t.links
