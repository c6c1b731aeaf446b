-- What comes up came, and what is sent was offered.
use Rattle.std.proofs.Common.{◌≡◌, ℕ, zero, suc, ◌==◌, Bool, true, false, nat_le, List, [], ◌∷◌, ◌++◌, length, map, Option, Some, None, slice_get, refl, ap, sym, ◌∙◌, subst, if◌then◌else◌, ◌&&◌, replicate, inl, inr, is_some}
use Rattle.std.specs.Prelude.{◌⊎◌, is_ok}
use Rattle.ax_link.specs.declared.config.LinkConfig.{LinkConfig}
use Rattle.std.proofs.lemmas.Bool.{eqb-true}
use Rattle.std.specs.List.{AllByRecursion}
use Rattle.arrayvec.specs.ArrayVec.{ArrayVec}
use Rattle.radio_base.specs.declared.payload.Payload.{Payload}
use Rattle.radio_base.proofs.Each.{each_append, each_drop}
use Rattle.ax_address.specs.Callsign.{Callsign, same_call}
use Rattle.ax_address.specs.declared.address.Address.{Address}
use Rattle.ax_address.proofs.SameCalls.{same_call-true}
use Rattle.ax_frame.specs.declared.control.Control.{Control}
use Rattle.ax_frame.specs.declared.control.Control.TheVariants as control
use Rattle.ax_frame.specs.FrameText.{is_command}
use Rattle.ax_frame.specs.Frames.{Frame as AirFrame, frame}
use Rattle.ax_link.specs.Kinds.{info_of, payload_of, pid_of, payload}
use Rattle.ax_link.specs.Opening.{opening, rules_new}
use Rattle.ax_link.specs.Bounds.{Bounded, stock, Has, HasIf}
use Rattle.ax_link.specs.Laws.{BoundsStay, PayloadsStay, SettingsStay}
use Rattle.ax_link.specs.Bounds as put
use Rattle.ax_link.specs.State.{Frame, Rules}
use Rattle.ax_link.specs.Table.{Arrive, Close, Input, Send, Set_up, Take, Tick, step, takes}
use Rattle.ax_link.specs.declared.notice.LinkNotice.{LinkNotice}
use Rattle.ax_link.specs.declared.notice.LinkNotice.TheVariants.{Closed, Failed}
use Rattle.ax_segment.specs.Joining.{Nothing, join_step}
use Rattle.l3_datagram.specs.Datagrams.{Datagram}
use Rattle.l3_datagram.specs.declared.carrier.Offered.TheVariants.{Taken, Dropped}
use Rattle.ax_frame.specs.declared.head.Head.{Head}
use Rattle.link_table.specs.Calls as calls
use Rattle.link_table.specs.Frames.{all_sent, fitting, head_to, is_numbered, most_octets, netrom, octets_of, plain_text, Sent, sent, sent_by, segmented}
use Rattle.link_table.specs.Laws.{Brings, Carries, CarriesOn, FrameHolds, LinkHolds, ParcelCame, goes_to}
use Rattle.link_table.specs.Table.{Linked, Pending, Table, path_to, link_with, with_link, without}
use Rattle.link_table.proofs.Lifting.{untexted}
use Rattle.ax_segment.specs.Segments.{segments_of}
use Rattle.link_table.specs.Texts as texts
use Rattle.link_table.specs.Works.{Work, arrive_at_link, first_to_take, is_down, hand_up, most_taken, emit, note_caller, settle, step_link, take_payload, tell}

first_has : (t : Payload → Bool) (xs : List Payload) (p : Payload) → AllByRecursion (Has t) xs → slice_get xs 0 ≡ Some p → Has t p
first_has t [] p a e = absurd (cc e)
first_has t (x ∷ xs) p a e = let same : x ≡ p = cc e in subst (Has t) same a.0

none_early : (t : Payload → Bool) (n : ℕ) → AllByRecursion (HasIf t) (replicate n None)
none_early t zero = tt
none_early t (suc n) = (tt, none_early t n)

-- a link that was just made is within its bounds
abbrev pub OpeningBounded : Type 0
OpeningBounded = (size : ℕ) (config : LinkConfig) → (size ≡ 8) ⊎ (size ≡ 128) → Bounded (stock (opening (rules_new size config)))

module _ (law : PayloadsStay) (bounds_stay : BoundsStay) (settings_stay : SettingsStay) (opening_bounded : OpeningBounded) (offered came : Callsign → Payload → Bool) (sizes : ℕ → Bool) where
  abbrev PendCarries : Pending → Type 0
  PendCarries p = AllByRecursion (ParcelCame offered came sizes) p.waiting × AllByRecursion (FrameHolds offered came sizes) p.frames

  abbrev WorkCarries : Work → Type 0
  WorkCarries w = LinkHolds offered came sizes w.linked × PendCarries w.pending

  -- ---- frames

  fits_sent : (s : Sent) → FrameHolds offered came sizes s → AllByRecursion (FrameHolds offered came sizes) (fitting s)
  fits_sent s a = by (nat_le (length (octets_of s)) most_octets)
    where
      by : (b : Bool) → AllByRecursion (FrameHolds offered came sizes) (if b then s ∷ [] else [])
      by true = (a, tt)
      by false = tt

  carried_by : (peer : Callsign) (p : Option Payload) → HasIf (goes_to offered came sizes peer) p → (q : Payload) → pid_of p ≡ Some q.pid → info_of p ≡ q.info.items → Has (goes_to offered came sizes peer) q
  carried_by peer None a q e i = absurd (cc e)
  carried_by peer (Some p) a q e i =
      let pid : p.pid ≡ q.pid = cc e in
      let same : p ≡ q = (λ j. record { pid = pid j; info = record { items = i j } }) in
      subst (Has (goes_to offered came sizes peer)) same a

  link_frames : (size : ℕ) (own peer : Callsign) (path : ArrayVec Address) (fs : List Frame) → sizes size ≡ true → AllByRecursion (λ f. HasIf (goes_to offered came sizes peer) f.payload) fs →
      AllByRecursion (FrameHolds offered came sizes) (all_sent size own peer path fs)
  link_frames size own peer path [] k a = tt
  link_frames size own peer path (f ∷ fs) k a =
      each_append (FrameHolds offered came sizes) (fitting (sent_by size own peer path f)) (all_sent size own peer path fs)
      (fits_sent (sent_by size own peer path f) (record { payload = λ q e i. carried_by peer f.payload a.0 q e i; size = λ n. k })) (link_frames size own peer path fs k a.1)

  -- ---- one link

  pub stepped_carries : (own : Callsign) (i : Input) (now : ℕ) (w : Work) → put.Brings (goes_to offered came sizes w.linked.peer) (came w.linked.peer) i → WorkCarries w → WorkCarries (step_link own i now w)
  stepped_carries own i now w b x =
      let r = law (goes_to offered came sizes w.linked.peer) (came w.linked.peer) w.linked.link i now x.0.bounds b x.0.payloads in
      let fs : List Sent = all_sent w.linked.link.rules.size own w.linked.peer w.linked.path (step w.linked.link i now).outs in (
        record {
          bounds = bounds_stay w.linked.link i now x.0.bounds;
          payloads = r.0;
          size = ap (λ (k : Rules). sizes k.size) (settings_stay w.linked.link i now) ∙ x.0.size;
        },
        (
          x.1.0,
          each_append (FrameHolds offered came sizes) w.pending.frames fs x.1.1
              (link_frames w.linked.link.rules.size own w.linked.peer w.linked.path (step w.linked.link i now).outs x.0.size r.1),
        ),
      )

  handed_carries : (p : Payload) (w : Work) → Has (came w.linked.peer) p → WorkCarries w → WorkCarries (hand_up p w)
  handed_carries p w a x = by (p.pid == netrom) refl (p.pid == segmented)
    where
      by : (b : Bool) → (p.pid == netrom) ≡ b → (c : Bool) → WorkCarries
          (if b
          then record w { pending = record w.pending { waiting = w.pending.waiting ++ (w.linked.peer, p.info) ∷ [] } }
          else if c
          then record w { linked = record w.linked { joiner = (join_step w.linked.joiner p.info.items).0 } }
          else w)
      by true e c =
          let pid : p.pid ≡ netrom = eqb-true p.pid netrom e in
          let same : p ≡ calls.pack p.info = (λ j. record { pid = pid j; info = p.info }) in
          (x.0, (each_append (ParcelCame offered came sizes) w.pending.waiting ((w.linked.peer, p.info) ∷ []) x.1.0 (subst (Has (came w.linked.peer)) same a, tt), x.1.1))
      by false e true = (record { bounds = x.0.bounds; payloads = x.0.payloads; size = x.0.size }, x.1)
      by false e false = x

  settled_carries : (n : ℕ) (own : Callsign) (now : ℕ) (w : Work) → WorkCarries w → WorkCarries (settle n own now w)
  settled_carries zero own now w x = x
  settled_carries (suc n) own now w x = by (first_to_take w) refl (λ p y. settled_carries n own now (take_payload own now p w) y)
    where
      by : (r : Option Payload) → first_to_take w ≡ r → ((p : Payload) → WorkCarries (take_payload own now p w) → WorkCarries (settle n own now (take_payload own now p w))) →
          WorkCarries (elim r as (λ y. Work) [ None ↦ w | Some p ↦ settle n own now (take_payload own now p w) ])
      by None e rest = x
      by (Some p) e rest =
          rest p (handed_carries p (step_link own Take now w) (first_has (came w.linked.peer) w.linked.link.inbox p x.0.payloads.inbox (untexted w.linked.joiner (slice_get w.linked.link.inbox 0) p e)) (stepped_carries own Take now w tt x))

  text_carries : (own : Callsign) (now : ℕ) (w : Work) → WorkCarries w → WorkCarries (texts.take_text_of own now w)
  text_carries own now w x = by (slice_get w.linked.link.inbox 0) refl
    where
      by : (r : Option Payload) → slice_get w.linked.link.inbox 0 ≡ r → WorkCarries (elim r as (λ y. Work) [ None ↦ w | Some p ↦ settle most_taken own now (take_payload own now p w) ])
      by None e = x
      by (Some p) e =
          settled_carries most_taken own now (take_payload own now p w)
          (handed_carries p (step_link own Take now w) (first_has (came w.linked.peer) w.linked.link.inbox p x.0.payloads.inbox e) (stepped_carries own Take now w tt x))

  arrived_carries : (own : Callsign) (f : Frame) (now : ℕ) (w : Work) → HasIf (came w.linked.peer) f.payload → WorkCarries w → WorkCarries (arrive_at_link own f now w)
  arrived_carries own f now w b x =
      let s : Work = step_link own (Arrive f) now (note_caller f w) in
      let y : WorkCarries s = stepped_carries own (Arrive f) now (note_caller f w) b (record { bounds = x.0.bounds; payloads = x.0.payloads; size = x.0.size }, x.1) in
      by s y (is_down s.linked.link.phase)
    where
      by : (s : Work) → WorkCarries s → (b : Bool) → WorkCarries (if b then s else settle most_taken own now s)
      by s y true = y
      by s y false = settled_carries most_taken own now s y

  -- ---- the links

  links_of : (peer : Callsign) (ls : List Linked) (l : Linked) → AllByRecursion (LinkHolds offered came sizes) ls → link_with peer ls ≡ Some l → LinkHolds offered came sizes l × (same_call peer l.peer ≡ true)
  links_of peer [] l a e = absurd (cc e)
  links_of peer (m ∷ ls) l a e = by (same_call peer m.peer) refl e (λ r. links_of peer ls l a.1 r)
    where
      by : (b : Bool) → same_call peer m.peer ≡ b → (if b then Some m else link_with peer ls) ≡ Some l → (link_with peer ls ≡ Some l → LinkHolds offered came sizes l × (same_call peer l.peer ≡ true)) →
          LinkHolds offered came sizes l × (same_call peer l.peer ≡ true)
      by true q r rest = let same : m ≡ l = cc r in subst (λ (x : Linked). LinkHolds offered came sizes x × (same_call peer x.peer ≡ true)) same (a.0, q)
      by false q r rest = rest r

  all_with : (peer : Callsign) (ls : List Linked) (l : Linked) → AllByRecursion (LinkHolds offered came sizes) ls → LinkHolds offered came sizes l → AllByRecursion (LinkHolds offered came sizes) (with_link peer l ls)
  all_with peer [] l a b = tt
  all_with peer (m ∷ ls) l a b = by (same_call peer m.peer) (all_with peer ls l a.1 b)
    where
      by : (c : Bool) → AllByRecursion (LinkHolds offered came sizes) (with_link peer l ls) → AllByRecursion (LinkHolds offered came sizes) (if c then l ∷ ls else m ∷ with_link peer l ls)
      by true rest = (b, a.1)
      by false rest = (a.0, rest)

  all_without : (peer : Callsign) (ls : List Linked) → AllByRecursion (LinkHolds offered came sizes) ls → AllByRecursion (LinkHolds offered came sizes) (without peer ls)
  all_without peer [] a = tt
  all_without peer (m ∷ ls) a = by (same_call peer m.peer) (all_without peer ls a.1)
    where
      by : (c : Bool) → AllByRecursion (LinkHolds offered came sizes) (without peer ls) → AllByRecursion (LinkHolds offered came sizes) (if c then ls else m ∷ without peer ls)
      by true rest = a.1
      by false rest = (a.0, rest)

  at_link_carries : (peer : Callsign) (part : Work → Work) (t : Table) →
      ((w : Work) → same_call peer w.linked.peer ≡ true → WorkCarries w → WorkCarries (part w)) → Carries offered came sizes t → Carries offered came sizes (calls.at_link peer part t)
  at_link_carries peer part t does x = by (link_with peer t.links) refl
    where
      kept_by : (w : Work) → WorkCarries w → (b : Bool) → Carries offered came sizes (record t { links = if b then without peer t.links else with_link peer w.linked t.links; pending = w.pending })
      kept_by w y true = record { modulus = x.modulus; size = x.size; links = all_without peer t.links x.links; waiting = y.1.0; frames = y.1.1 }
      kept_by w y false = record { modulus = x.modulus; size = x.size; links = all_with peer t.links w.linked x.links y.0; waiting = y.1.0; frames = y.1.1 }

      by : (r : Option Linked) → link_with peer t.links ≡ r → Carries offered came sizes (elim r as (λ y. Table) [ None ↦ t | Some l ↦ calls.keep peer (part (record { linked = l; pending = t.pending })) t ])
      by None e = x
      by (Some l) e =
          let y = links_of peer t.links l x.links e in
          let w : Work = record { linked = l; pending = t.pending } in
          kept_by (part w) (does w y.1 (y.0, (x.waiting, x.frames))) (is_down (part w).linked.link.phase)

  ended_carries : (peer : Callsign) (notes : List LinkNotice) (t : Table) → Carries offered came sizes t → Carries offered came sizes (calls.end peer notes t)
  ended_carries peer notes t x = by (link_with peer t.links)
    where
      by : (r : Option Linked) → Carries offered came sizes (elim r as (λ y. Table) [ None ↦ t | Some l ↦ record t { links = without peer t.links; pending = tell peer notes t.pending } ])
      by None = x
      by (Some l) = record { modulus = x.modulus; size = x.size; links = all_without peer t.links x.links; waiting = x.waiting; frames = x.frames }

  made_carries : (peer : Callsign) (size : ℕ) (path : ArrayVec Address) (t : Table) → ((size ≡ 8) ⊎ (size ≡ 128)) × (sizes size ≡ true) → Carries offered came sizes t → Carries offered came sizes (calls.made peer size path t)
  made_carries peer size path t z x =
      let l : Linked = record { peer = peer; link = opening (rules_new size t.config); path = path; joiner = Nothing; called = false } in
      let h : LinkHolds offered came sizes l =
      record { bounds = opening_bounded size t.config z.0; payloads = record { given = tt; received = tt; inbox = tt; early = none_early (came peer) _ }; size = z.1 } in
      record { modulus = x.modulus; size = x.size; links = each_append (LinkHolds offered came sizes) t.links (l ∷ []) x.links (h, tt); waiting = x.waiting; frames = x.frames }

  put_carries : (sents : List Sent) (t : Table) → AllByRecursion (FrameHolds offered came sizes) sents → Carries offered came sizes t → Carries offered came sizes (record t { pending = emit sents t.pending })
  put_carries sents t a x = record { modulus = x.modulus; size = x.size; links = x.links; waiting = x.waiting; frames = each_append (FrameHolds offered came sizes) t.pending.frames sents x.frames a }

  -- ---- frames that come

  brought : (f : AirFrame) (peer : Callsign) → Brings offered came sizes f → same_call (calls.source f) peer ≡ true → HasIf (came peer) (payload_of f.pid f.info)
  brought f peer b e = by (payload_of f.pid f.info) refl
    where
      by : (r : Option Payload) → payload_of f.pid f.info ≡ r → HasIf (came peer) r
      by None q = tt
      by (Some p) q = subst (λ (k : Callsign). Has (came k) p) (same_call-true (calls.source f) peer e) (b.payload p q)

  to_link_carries : (f : AirFrame) (now : ℕ) (t : Table) → Brings offered came sizes f → Carries offered came sizes t → Carries offered came sizes (calls.to_link f now t)
  to_link_carries f now t b x =
      at_link_carries (calls.source f) (λ w. arrive_at_link t.own (calls.link_frame w.linked.link.rules.size f) now w) t
      (λ w e y. arrived_carries t.own (calls.link_frame w.linked.link.rules.size f) now w (brought f w.linked.peer b e) y) x

  no_pid : (size : ℕ) (h : Head) (c : Control) (info : List ℕ) → is_numbered c ≡ false → FrameHolds offered came sizes (sent size (frame h c None info))
  no_pid size h c info n = record { payload = λ q e i. absurd (cc e); size = λ k. absurd (cc (sym n ∙ k)) }

  answered_carries : (f : AirFrame) (c : Control) (info : List ℕ) (t : Table) → is_numbered c ≡ false → Carries offered came sizes t → Carries offered came sizes (calls.answer f c info t)
  answered_carries f c info t n x =
      put_carries (fitting (sent 8 (frame (head_to t.own (calls.source f) (calls.back f) false) c None info))) t
      (fits_sent (sent 8 (frame (head_to t.own (calls.source f) (calls.back f) false) c None info)) (no_pid 8 (head_to t.own (calls.source f) (calls.back f) false) c info n)) x

  refused_carries : (own peer : Callsign) (path : ArrayVec Address) (r : Option Bool) → AllByRecursion (FrameHolds offered came sizes) (calls.refused_by own peer path r)
  refused_carries own peer path None = tt
  refused_carries own peer path (Some pf) = fits_sent (sent 8 (frame (head_to own peer path false) (control.Dm pf) None [])) (no_pid 8 (head_to own peer path false) (control.Dm pf) [] refl)

  new_carries : (size : ℕ) (pf : Bool) (f : AirFrame) (now : ℕ) (t : Table) → ((size ≡ 8) ⊎ (size ≡ 128)) × (sizes size ≡ true) → Brings offered came sizes f → Carries offered came sizes t → Carries offered came sizes (calls.set_up_new size pf f now t)
  new_carries size pf f now t z b x = by (nat_le calls.most_links (length t.links))
    where
      by : (c : Bool) → Carries offered came sizes (if c then calls.answer f (control.Dm pf) [] t else calls.to_link f now (calls.made (calls.source f) size (calls.back f) t))
      by true = answered_carries f (control.Dm pf) [] t refl x
      by false = to_link_carries f now (calls.made (calls.source f) size (calls.back f) t) b (made_carries (calls.source f) size (calls.back f) t z x)

  set_up_carries : (size : ℕ) (pf : Bool) (f : AirFrame) (now : ℕ) (t : Table) → ((size ≡ 8) ⊎ (size ≡ 128)) × (sizes size ≡ true) → Brings offered came sizes f → Carries offered came sizes t → Carries offered came sizes (calls.set_up size pf f now t)
  set_up_carries size pf f now t z b x = by (link_with (calls.source f) t.links)
    where
      same : (c : Bool) → Carries offered came sizes (if c then calls.to_link f now t else calls.set_up_new size pf f now (calls.end (calls.source f) (Closed ∷ []) t))
      same true = to_link_carries f now t b x
      same false = new_carries size pf f now (calls.end (calls.source f) (Closed ∷ []) t) z b (ended_carries (calls.source f) (Closed ∷ []) t x)

      by : (r : Option Linked) → Carries offered came sizes (elim r as (λ y. Table) [
        | None ↦ calls.set_up_new size pf f now t
        | Some l ↦ if l.link.rules.size == size then calls.to_link f now t else calls.set_up_new size pf f now (calls.end (calls.source f) (Closed ∷ []) t)
      ])
      by None = new_carries size pf f now t z b x
      by (Some l) = same (l.link.rules.size == size)

  other_carries : (f : AirFrame) (now : ℕ) (t : Table) → Brings offered came sizes f → Carries offered came sizes t → Carries offered came sizes (calls.no_set_up f now t)
  other_carries f now t b x = by (link_with (calls.source f) t.links)
    where
      down : (c : Bool) → Carries offered came sizes (if c then calls.answer_down f t else t)
      down true = put_carries (calls.refused_by t.own (calls.source f) (calls.back f) (calls.refusal_of f.control)) t (refused_carries t.own (calls.source f) (calls.back f) (calls.refusal_of f.control)) x
      down false = x

      by : (r : Option Linked) → Carries offered came sizes (elim r as (λ y. Table) [ None ↦ if is_command f.head then calls.answer_down f t else t | Some l ↦ calls.to_link f now t ])
      by None = down (is_command f.head)
      by (Some l) = to_link_carries f now t b x

  ui_carries : (f : AirFrame) (pid : Option ℕ) (t : Table) → f.pid ≡ pid → Brings offered came sizes f → Carries offered came sizes t → Carries offered came sizes (calls.ui f pid t)
  ui_carries f None t e b x = x
  ui_carries f (Some pid) t e b x = by (pid == netrom) (nat_le (length f.info) 256) refl refl
    where
      by : (c d : Bool) → (pid == netrom) ≡ c → nat_le (length f.info) 256 ≡ d → Carries offered came sizes
          (if c && d then record t { pending = record t.pending { waiting = t.pending.waiting ++ (calls.source f, record { items = f.info }) ∷ [] } } else t)
      by true true q r =
          let is : payload_of f.pid f.info ≡ Some (calls.pack (record { items = f.info })) =
          ap (λ k. payload_of k f.info) (e ∙ ap Some (eqb-true pid netrom q)) ∙ ap (λ z. if z then Some (calls.pack (record { items = f.info })) else None) r in
          record {
            modulus = x.modulus;
            size = x.size;
            links = x.links;
            waiting = each_append (ParcelCame offered came sizes) t.pending.waiting ((calls.source f, record { items = f.info }) ∷ []) x.waiting (b.payload _ is, tt);
            frames = x.frames;
          }
      by true false q r = x
      by false d q r = x

  kind_carries : (command : Bool) (c : Control) (f : AirFrame) (now : ℕ) (t : Table) → f.control ≡ c → Brings offered came sizes f → Carries offered came sizes t → Carries offered came sizes (calls.arrive_kind command c f now t)
  kind_carries true (control.Sabm pf) f now t e b x = set_up_carries 8 pf f now t (inl refl, b.size 8 (ap calls.set_up_size e)) b x
  kind_carries true (control.Sabme pf) f now t e b x = set_up_carries 128 pf f now t (inr refl, b.size 128 (ap calls.set_up_size e)) b x
  kind_carries true (control.Test pf) f now t e b x = answered_carries f (control.Test pf) f.info t refl x
  kind_carries true (control.Ui pf) f now t e b x = ui_carries f f.pid t refl b x
  kind_carries false (control.Ui pf) f now t e b x = ui_carries f f.pid t refl b x
  kind_carries command c f now t e b x = other_carries f now t b x

  -- ---- the other calls

  ticks : (peers : List Callsign) (now : ℕ) (t : Table) → Carries offered came sizes t → Carries offered came sizes (calls.tick_each peers now t)
  ticks [] now t x = x
  ticks (p ∷ ps) now t x =
      ticks ps now (calls.at_link p (step_link t.own Tick now) t) (at_link_carries p (step_link t.own Tick now) t (λ w e y. stepped_carries t.own Tick now w tt y) x)

  goes_offered : (to peer : Callsign) (d : Datagram) → Has (offered to) (calls.pack d) → same_call to peer ≡ true → Has (goes_to offered came sizes peer) (calls.pack d)
  goes_offered to peer d a e = subst (λ (k : Callsign). Has (goes_to offered came sizes k) (calls.pack d)) (same_call-true to peer e) a

  standing_carries : (to : Callsign) (d : Datagram) (now : ℕ) (t : Table) → Has (offered to) (calls.pack d) → Carries offered came sizes t → Carries offered came sizes (calls.offer_standing to d now t).table
  standing_carries to d now t a x = by (link_with to t.links)
    where
      yes : calls.Offering
      yes = record { answer = Taken; table = calls.at_link to (step_link t.own (Send (calls.pack d)) now) t }

      no : calls.Offering
      no = record { answer = Dropped; table = t }

      takes_by : (b : Bool) → Carries offered came sizes (if b then yes else no).table
      takes_by true = at_link_carries to (step_link t.own (Send (calls.pack d)) now) t (λ w e y. stepped_carries t.own (Send (calls.pack d)) now w (goes_offered to w.linked.peer d a e) y) x
      takes_by false = x

      by : (r : Option Linked) → Carries offered came sizes (elim r as (λ y. calls.Offering) [ None ↦ no | Some l ↦ if takes l.link then yes else no ]).table
      by None = x
      by (Some l) = takes_by (takes l.link)

  opened_carries : (to : Callsign) (path : ArrayVec Address) (now : ℕ) (t : Table) → Carries offered came sizes t → Carries offered came sizes (calls.set_up_over to path now t)
  opened_carries to path now t x =
      let m : Table = calls.made to t.size path t in
      at_link_carries to (step_link t.own Set_up now) m (λ w e y. stepped_carries t.own Set_up now w tt y) (made_carries to t.size path t (x.modulus, x.size) x)

  open_carries : (peer : Callsign) (path : ArrayVec Address) (now : ℕ) (t : Table) → Carries offered came sizes t → Carries offered came sizes (calls.open_link peer path now t)
  open_carries peer path now t x = by (is_ok (calls.open_answer peer path t))
    where
      by : (b : Bool) → Carries offered came sizes (if b then calls.set_up_over peer (calls.open_path peer path t.paths) now t else t)
      by true = opened_carries peer (calls.open_path peer path t.paths) now t x
      by false = x

  offer_link_carries : (to : Callsign) (d : Datagram) (now : ℕ) (t : Table) → Has (offered to) (calls.pack d) → Carries offered came sizes t → Carries offered came sizes (calls.offer_link to d now t).table
  offer_link_carries to d now t a x = by (link_with to t.links)
    where
      full : (b : Bool) → Carries offered came sizes (if b then record { answer = Dropped; table = t } else calls.offer_standing to d now (calls.set_up_link to now t)).table
      full true = x
      full false = standing_carries to d now (calls.set_up_link to now t) a (opened_carries to (path_to to t.paths) now t x)

      by : (r : Option Linked) → Carries offered came sizes (elim r as (λ y. calls.Offering) [
        | None ↦ if nat_le calls.most_links (length t.links) then record { answer = Dropped; table = t } else calls.offer_standing to d now (calls.set_up_link to now t)
        | Some l ↦ calls.offer_standing to d now t
      ]).table
      by None = full (nat_le calls.most_links (length t.links))
      by (Some l) = standing_carries to d now t a x

  offer_ui_carries : (to : Callsign) (d : Datagram) (t : Table) → Has (offered to) (calls.pack d) → Carries offered came sizes t → Carries offered came sizes (calls.offer_ui to d t)
  offer_ui_carries to d t a x =
      let s : Sent = sent 8 (frame (head_to t.own to (path_to to t.paths) true) (control.Ui false) (Some netrom) d.items) in
      put_carries (fitting s) t (fits_sent s (record { payload = λ q e i. carried_by to (Some (calls.pack d)) a q e i; size = λ k. absurd (cc k) })) x

  offer_carries : (to : Callsign) (d : Datagram) (now : ℕ) (t : Table) → Has (offered to) (calls.pack d) → Carries offered came sizes t → Carries offered came sizes (calls.offer to d now t).table
  offer_carries to d now t a x = by t.by_links
    where
      by : (b : Bool) → Carries offered came sizes (if b then calls.offer_link to d now t else record { answer = Taken; table = calls.offer_ui to d t }).table
      by true = offer_link_carries to d now t a x
      by false = offer_ui_carries to d t a x

  text_taken_carries : (peer : Callsign) (now : ℕ) (t : Table) → Carries offered came sizes t → Carries offered came sizes (texts.take_text peer now t)
  text_taken_carries peer now t x = by (is_some (texts.text_with peer t))
    where
      by : (b : Bool) → Carries offered came sizes (if b then calls.at_link peer (texts.take_text_of t.own now) t else t)
      by true = at_link_carries peer (texts.take_text_of t.own now) t (λ w e y. text_carries t.own now w y) x
      by false = x

  each_carries : (own : Callsign) (pid : ℕ) (infos : List (List ℕ)) (now : ℕ) (w : Work) → (pid == netrom) ≡ false → WorkCarries w →
      WorkCarries (texts.send_each own (texts.payloads pid infos) now w)
  each_carries own pid [] now w e x = x
  each_carries own pid (i ∷ is) now w e x =
      each_carries own pid is now (step_link own (Send (payload pid i)) now w) e (stepped_carries own (Send (payload pid i)) now w (rw e refl) x)

  text_sent_carries : (peer : Callsign) (text : List ℕ) (now : ℕ) (t : Table) → Carries offered came sizes t → Carries offered came sizes (texts.send_text peer text now t)
  text_sent_carries peer text now t x =
      at_link_carries peer (texts.send_text_of t.own text now) t (λ w e y. by (texts.in_segments w.linked.link.rules.size text) w y) x
    where
      by : (b : Bool) (w : Work) → WorkCarries w →
          WorkCarries (texts.send_each t.own (if b then texts.payloads segmented (segments_of plain_text text) else texts.payloads plain_text (texts.cut text)) now w)
      by true w y = each_carries t.own segmented (segments_of plain_text text) now w refl y
      by false w y = each_carries t.own plain_text (texts.cut text) now w refl y

  pub carries_on : CarriesOn offered came sizes
  carries_on =
      record {
        arrives = λ t f now b x. kind_carries (is_command f.head) f.control f now t refl b x;
        ticks = λ t now x. ticks (map (λ l. l.peer) t.links) now t x;
        opens = λ t peer path now x. open_carries peer path now t x;
        closes = λ t peer now x. at_link_carries peer (step_link t.own Close now) t (λ w e y. stepped_carries t.own Close now w tt y) x;
        breaks = λ t peer x. ended_carries peer (Failed ∷ []) t x;
        takes = λ t peer now x. text_taken_carries peer now t x;
        sends = λ t peer text now x. text_sent_carries peer text now t x;
        offers = λ t to d now a x. offer_carries to d now t a x;
        collects = λ t x. record { modulus = x.modulus; size = x.size; links = x.links; waiting = each_drop (ParcelCame offered came sizes) t.pending.waiting x.waiting; frames = x.frames };
        tells_lost = λ t x. record { modulus = x.modulus; size = x.size; links = x.links; waiting = x.waiting; frames = x.frames };
        notices = λ t x. record { modulus = x.modulus; size = x.size; links = x.links; waiting = x.waiting; frames = x.frames };
        fetches = λ t x. record { modulus = x.modulus; size = x.size; links = x.links; waiting = x.waiting; frames = each_drop (FrameHolds offered came sizes) t.pending.frames x.frames };
      }
