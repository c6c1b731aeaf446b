-- What a table of links puts out can be written.
use Rattle.std.proofs.Common.{◌≡◌, ℕ, zero, suc, ◌==◌, ◌≤◌, ◌&&◌, slice_get, Bool, true, false, nat_le, List, [], ◌∷◌, ◌++◌, length, map, drop, reverse, Option, Some, None, refl, ap, sym, ◌∙◌, subst, if◌then◌else◌, inl, inr, is_some, arith}
use Rattle.std.specs.Prelude.{◌⊎◌, is_ok}
use Rattle.std.specs.List.{AllByRecursion}
use Rattle.std.specs.Map.{lookup}
use Rattle.std.proofs.lemmas.List.{length-map, length-reverse, reverse-append}
use Rattle.arrayvec.specs.ArrayVec.{ArrayVec}
use Rattle.indexmap.specs.IndexMap.{insert_entry}
use Rattle.radio_base.specs.declared.payload.Payload.{Payload}
use Rattle.radio_base.proofs.Each.{each_append}
use Rattle.ax_address.specs.Callsign.{Callsign, same_call}
use Rattle.ax_address.specs.declared.address.Address.{Address}
use Rattle.ax_frame.specs.declared.control.Control.{Control}
use Rattle.ax_frame.specs.declared.control.Control.TheVariants as control
use Rattle.ax_frame.specs.FrameText.{is_command}
use Rattle.ax_frame.specs.Frames.{Frame as AirFrame, HasParts, IsAddress, frame}
use Rattle.ax_link.specs.Kinds.{control_of, info_of, pid_of}
use Rattle.ax_link.specs.Opening.{opening, rules_new}
use Rattle.ax_link.specs.Laws.{BoundsStay, CanBeWritten, FramesCanBeWritten, SettingsStay}
use Rattle.ax_link.specs.declared.kind.Kind.{Kind}
use Rattle.ax_link.specs.declared.kind.Kind.TheVariants as kinds
use Rattle.ax_link.specs.State.{Frame, Rules}
use Rattle.ax_link.specs.Table.{Arrive, Close, Input, Send, Set_up, Take, Tick, step, takes}
use Rattle.ax_link.specs.declared.notice.LinkNotice.{LinkNotice}
use Rattle.ax_link.specs.declared.notice.LinkNotice.TheVariants.{Closed, Failed}
use Rattle.ax_segment.specs.Joining.{Nothing, join_step}
use Rattle.digi_path.specs.Paths.{unrepeated, way_back}
use Rattle.l3_datagram.specs.Datagrams.{Datagram}
use Rattle.l3_datagram.specs.declared.carrier.Offered.TheVariants.{Taken, Dropped}
use Rattle.link_table.specs.Calls as calls
use Rattle.link_table.specs.Frames.{Sent, all_sent, fitting, head_to, most_octets, netrom, octets_of, segmented, sent, sent_by}
use Rattle.link_table.specs.Reaching.{ComesFrom, IsCall, IsSpelled, IsWay, LinkReaches, Reaches, ReachesOn}
use Rattle.link_table.specs.Texts as texts
use Rattle.link_table.specs.Table.{Linked, Table, Via, path_or, path_to, link_with, with_link, without}
use Rattle.link_table.specs.Works.{Work, arrive_at_link, first_to_take, is_down, hand_up, most_taken, emit, note_caller, settle, step_link, take_payload, tell}
use Rattle.link_table.proofs.Carrier.{OpeningBounded}

-- ---- lists

rest_of : {A : Type 0} (P : A → Type 0) (xs : List A) → AllByRecursion P xs → AllByRecursion P (drop 1 xs)
rest_of P [] a = tt
rest_of P (x ∷ xs) a = a.1

back_onto : (P : Address → Type 0) (xs : List Address) → AllByRecursion P xs → AllByRecursion P (reverse xs)
back_onto P [] a = tt
back_onto P (x ∷ xs) a = subst (AllByRecursion P) (sym (reverse-append (x ∷ []) xs)) (each_append P (reverse xs) (x ∷ []) (back_onto P xs a.1) (a.0, tt))

unrepeated_all : (xs : List Address) → AllByRecursion IsAddress xs → AllByRecursion IsAddress (map unrepeated xs)
unrepeated_all [] a = tt
unrepeated_all (x ∷ xs) a = (a.0, unrepeated_all xs a.1)

-- the way back is one where the way was
way_back_is : (path : List Address) → AllByRecursion IsAddress path → length path ≤ 8 → IsWay (record { items = way_back path })
way_back_is path a few = record {
  calls = back_onto IsAddress (map unrepeated path) (unrepeated_all path a);
  eight = (let e : length (way_back path) ≡ length path = length-reverse (map unrepeated path) ∙ length-map path unrepeated in omega (arith, e, few));
}

module _ (bounds_stay : BoundsStay) (settings_stay : SettingsStay) (written : FramesCanBeWritten) (opening_bounded : OpeningBounded) (one : ℕ) where
  -- ---- frames

  spelled : (size : ℕ) (own peer : Callsign) (path : ArrayVec Address) (command : Bool) (c : Control) (pid : Option ℕ) (info : List ℕ) → IsCall own → IsCall peer → IsWay path → HasParts size c pid info
      → ((n : ℕ) → calls.set_up_size c ≡ Some n → n ≡ one) → IsSpelled one (sent size (frame (head_to own peer path command) c pid info))
  spelled size own peer path command c pid info o p w h u = record { spelled = record { calls = (p, (o, w.calls)); eight = w.eight; parts = h; spelled = refl }; sets_up = u }

  fits : (s : Sent) → IsSpelled one s → AllByRecursion (IsSpelled one) (fitting s)
  fits s a = by (nat_le (length (octets_of s)) most_octets)
    where
      by : (b : Bool) → AllByRecursion (IsSpelled one) (if b then s ∷ [] else [])
      by true = (a, tt)
      by false = tt

  set_up_by : (size n : ℕ) (pf : Bool) → (size ≡ 8) ⊎ (size ≡ 128) → calls.set_up_size (if size == 8 then control.Sabm pf else control.Sabme pf) ≡ Some n → n ≡ size
  set_up_by size n pf (inl e) q =
      let is : calls.set_up_size (if 8 == 8 then control.Sabm pf else control.Sabme pf) ≡ Some n = subst (λ k. calls.set_up_size (if k == 8 then control.Sabm pf else control.Sabme pf) ≡ Some n) e q in
      let n8 : 8 ≡ n = cc is in sym n8 ∙ sym e
  set_up_by size n pf (inr e) q =
      let is : calls.set_up_size (if 128 == 8 then control.Sabm pf else control.Sabme pf) ≡ Some n = subst (λ k. calls.set_up_size (if k == 8 then control.Sabm pf else control.Sabme pf) ≡ Some n) e q in
      let n128 : 128 ≡ n = cc is in sym n128 ∙ sym e

  -- a set-up command that is put out is of the link's modulus
  own_size : (size n : ℕ) (k : Kind) → (size ≡ 8) ⊎ (size ≡ 128) → ((pf : Bool) → k ≡ kinds.OtherSetUp pf → ⊥) → calls.set_up_size (control_of size k) ≡ Some n → n ≡ size
  own_size size n (kinds.SetUp pf) m u e = set_up_by size n pf m e
  own_size size n (kinds.OtherSetUp pf) m u e = absurd (u pf refl)
  own_size size n (kinds.I ns nr pf) m u e = absurd (cc e)
  own_size size n (kinds.Rr nr pf) m u e = absurd (cc e)
  own_size size n (kinds.Rnr nr pf) m u e = absurd (cc e)
  own_size size n (kinds.Rej nr pf) m u e = absurd (cc e)
  own_size size n (kinds.Srej nr pf) m u e = absurd (cc e)
  own_size size n (kinds.Disc pf) m u e = absurd (cc e)
  own_size size n (kinds.Dm pf) m u e = absurd (cc e)
  own_size size n (kinds.Ua pf) m u e = absurd (cc e)
  own_size size n (kinds.Frmr pf) m u e = absurd (cc e)
  own_size size n (kinds.Xid pf) m u e = absurd (cc e)
  own_size size n kinds.Other m u e = absurd (cc e)

  all_spelled : (size : ℕ) (own peer : Callsign) (path : ArrayVec Address) (fs : List Frame) → size ≡ one → (one ≡ 8) ⊎ (one ≡ 128) → IsCall own → IsCall peer → IsWay path
      → AllByRecursion (CanBeWritten size) fs → AllByRecursion (IsSpelled one) (all_sent size own peer path fs)
  all_spelled size own peer path [] e m o p w a = tt
  all_spelled size own peer path (f ∷ fs) e m o p w a =
      each_append (IsSpelled one) (fitting (sent_by size own peer path f)) (all_sent size own peer path fs)
      (fits (sent_by size own peer path f) (spelled size own peer path f.command (control_of size f.kind) (pid_of f.payload) (info_of f.payload) o p w a.0.parts
      (λ n q. own_size size n f.kind (subst (λ k. (k ≡ 8) ⊎ (k ≡ 128)) (sym e) m) a.0.sets_up q ∙ e)))
      (all_spelled size own peer path fs e m o p w a.1)

  -- ---- one link

  abbrev WorkReaches : Work → Type 0
  WorkReaches w = LinkReaches one w.linked × AllByRecursion (IsSpelled one) w.pending.frames

  -- the node's own call, and the modulus
  abbrev Own : Callsign → Type 0
  Own own = IsCall own × ((one ≡ 8) ⊎ (one ≡ 128))

  stepped : (own : Callsign) (i : Input) (now : ℕ) (w : Work) → Own own → WorkReaches w → WorkReaches (step_link own i now w)
  stepped own i now w o x =
      let fs : List Frame = (step w.linked.link i now).outs in
      let size = w.linked.link.rules.size in (
        record {
          bounds = bounds_stay w.linked.link i now x.0.bounds;
          of_size = ap (λ (k : Rules). k.size) (settings_stay w.linked.link i now) ∙ x.0.of_size;
          peer = x.0.peer;
          path = x.0.path;
        },
        each_append (IsSpelled one) w.pending.frames (all_sent size own w.linked.peer w.linked.path fs) x.1
            (all_spelled size own w.linked.peer w.linked.path fs x.0.of_size o.1 o.0 x.0.peer x.0.path (written w.linked.link i now x.0.bounds)),
      )

  handed : (p : Payload) (w : Work) → WorkReaches w → WorkReaches (hand_up p w)
  handed p w x = by (p.pid == netrom) (p.pid == segmented)
    where
      by : (b c : Bool) → WorkReaches
          (if b
          then record w { pending = record w.pending { waiting = w.pending.waiting ++ (w.linked.peer, p.info) ∷ [] } }
          else if c
          then record w { linked = record w.linked { joiner = (join_step w.linked.joiner p.info.items).0 } }
          else w)
      by true c = (x.0, x.1)
      by false true = (record { bounds = x.0.bounds; of_size = x.0.of_size; peer = x.0.peer; path = x.0.path }, x.1)
      by false false = x

  settled : (n : ℕ) (own : Callsign) (now : ℕ) (w : Work) → Own own → WorkReaches w → WorkReaches (settle n own now w)
  settled zero own now w o x = x
  settled (suc n) own now w o x = by (first_to_take w) (λ p y. settled n own now (take_payload own now p w) o y)
    where
      by : (r : Option Payload) → ((p : Payload) → WorkReaches (take_payload own now p w) → WorkReaches (settle n own now (take_payload own now p w)))
          → WorkReaches (elim r as (λ y. Work) [ None ↦ w | Some p ↦ settle n own now (take_payload own now p w) ])
      by None rest = x
      by (Some p) rest = rest p (handed p (step_link own Take now w) (stepped own Take now w o x))

  text_taken : (own : Callsign) (now : ℕ) (w : Work) → Own own → WorkReaches w → WorkReaches (texts.take_text_of own now w)
  text_taken own now w o x = by (slice_get w.linked.link.inbox 0)
    where
      by : (r : Option Payload) → WorkReaches (elim r as (λ y. Work) [ None ↦ w | Some p ↦ settle most_taken own now (take_payload own now p w) ])
      by None = x
      by (Some p) = settled most_taken own now (take_payload own now p w) o (handed p (step_link own Take now w) (stepped own Take now w o x))

  arrived : (own : Callsign) (f : Frame) (now : ℕ) (w : Work) → Own own → WorkReaches w → WorkReaches (arrive_at_link own f now w)
  arrived own f now w o x =
      let s : Work = step_link own (Arrive f) now (note_caller f w) in
      by s (stepped own (Arrive f) now (note_caller f w) o (record { bounds = x.0.bounds; of_size = x.0.of_size; peer = x.0.peer; path = x.0.path }, x.1)) (is_down s.linked.link.phase)
    where
      by : (s : Work) → WorkReaches s → (b : Bool) → WorkReaches (if b then s else settle most_taken own now s)
      by s y true = y
      by s y false = settled most_taken own now s o y

  -- ---- the links

  link_of : (peer : Callsign) (ls : List Linked) (l : Linked) → AllByRecursion (LinkReaches one) ls → link_with peer ls ≡ Some l → LinkReaches one l
  link_of peer [] l a e = absurd (cc e)
  link_of peer (m ∷ ls) l a e = by (same_call peer m.peer) e (link_of peer ls l a.1)
    where
      by : (b : Bool) → (if b then Some m else link_with peer ls) ≡ Some l → (link_with peer ls ≡ Some l → LinkReaches one l) → LinkReaches one l
      by true r rest = let same : m ≡ l = cc r in subst (LinkReaches one) same a.0
      by false r rest = rest r

  all_with : (peer : Callsign) (ls : List Linked) (l : Linked) → AllByRecursion (LinkReaches one) ls → LinkReaches one l → AllByRecursion (LinkReaches one) (with_link peer l ls)
  all_with peer [] l a b = tt
  all_with peer (m ∷ ls) l a b = by (same_call peer m.peer) (all_with peer ls l a.1 b)
    where
      by : (c : Bool) → AllByRecursion (LinkReaches one) (with_link peer l ls) → AllByRecursion (LinkReaches one) (if c then l ∷ ls else m ∷ with_link peer l ls)
      by true rest = (b, a.1)
      by false rest = (a.0, rest)

  all_without : (peer : Callsign) (ls : List Linked) → AllByRecursion (LinkReaches one) ls → AllByRecursion (LinkReaches one) (without peer ls)
  all_without peer [] a = tt
  all_without peer (m ∷ ls) a = by (same_call peer m.peer) (all_without peer ls a.1)
    where
      by : (c : Bool) → AllByRecursion (LinkReaches one) (without peer ls) → AllByRecursion (LinkReaches one) (if c then ls else m ∷ without peer ls)
      by true rest = a.1
      by false rest = (a.0, rest)

  at_link_reaches : (peer : Callsign) (part : Work → Work) (t : Table) → ((w : Work) → WorkReaches w → WorkReaches (part w)) → Reaches one t → Reaches one (calls.at_link peer part t)
  at_link_reaches peer part t does x = by (link_with peer t.links) refl
    where
      kept_by : (w : Work) → WorkReaches w → (b : Bool) → Reaches one (record t { links = if b then without peer t.links else with_link peer w.linked t.links; pending = w.pending })
      kept_by w y true = record { modulus = x.modulus; of_size = x.of_size; own = x.own; links = all_without peer t.links x.links; paths = x.paths; frames = y.1 }
      kept_by w y false = record { modulus = x.modulus; of_size = x.of_size; own = x.own; links = all_with peer t.links w.linked x.links y.0; paths = x.paths; frames = y.1 }

      by : (r : Option Linked) → link_with peer t.links ≡ r → Reaches one (elim r as (λ y. Table) [ None ↦ t | Some l ↦ calls.keep peer (part (record { linked = l; pending = t.pending })) t ])
      by None e = x
      by (Some l) e =
          let w : Work = record { linked = l; pending = t.pending } in
          kept_by (part w) (does w (link_of peer t.links l x.links e, x.frames)) (is_down (part w).linked.link.phase)

  ended : (peer : Callsign) (notes : List LinkNotice) (t : Table) → Reaches one t → Reaches one (calls.end peer notes t)
  ended peer notes t x = by (link_with peer t.links)
    where
      by : (r : Option Linked) → Reaches one (elim r as (λ y. Table) [ None ↦ t | Some l ↦ record t { links = without peer t.links; pending = tell peer notes t.pending } ])
      by None = x
      by (Some l) = record { modulus = x.modulus; of_size = x.of_size; own = x.own; links = all_without peer t.links x.links; paths = x.paths; frames = x.frames }

  made : (peer : Callsign) (size : ℕ) (path : ArrayVec Address) (t : Table) → size ≡ one → IsCall peer → IsWay path → Reaches one t → Reaches one (calls.made peer size path t)
  made peer size path t z p w x =
      let l : Linked = record { peer = peer; link = opening (rules_new size t.config); path = path; joiner = Nothing; called = false } in
      let h : LinkReaches one l = record { bounds = opening_bounded size t.config (subst (λ k. (k ≡ 8) ⊎ (k ≡ 128)) (sym z) x.modulus); of_size = z; peer = p; path = w } in
      record { modulus = x.modulus; of_size = x.of_size; own = x.own; links = each_append (LinkReaches one) t.links (l ∷ []) x.links (h, tt); paths = x.paths; frames = x.frames }

  put : (sents : List Sent) (t : Table) → AllByRecursion (IsSpelled one) sents → Reaches one t → Reaches one (record t { pending = emit sents t.pending })
  put sents t a x = record { modulus = x.modulus; of_size = x.of_size; own = x.own; links = x.links; paths = x.paths; frames = each_append (IsSpelled one) t.pending.frames sents x.frames a }

  -- ---- frames that come

  module _ (f : AirFrame) (now : ℕ) (from : ComesFrom one f) where
    back : IsWay (calls.back f)
    back = way_back_is f.head.path.items from.path.calls from.path.eight

    to_link : (t : Table) → Reaches one t → Reaches one (calls.to_link f now t)
    to_link t x = at_link_reaches (calls.source f) (λ w. arrive_at_link t.own (calls.link_frame w.linked.link.rules.size f) now w) t (λ w y. arrived t.own (calls.link_frame w.linked.link.rules.size f) now w (x.own, x.modulus) y) x

    answered : (c : Control) (info : List ℕ) (t : Table) → HasParts 8 c None info → calls.set_up_size c ≡ None → Reaches one t → Reaches one (calls.answer f c info t)
    answered c info t h u x = put _ t (fits _ (spelled 8 t.own (calls.source f) (calls.back f) false c None info x.own from.source back h (λ n e. absurd (cc (sym u ∙ e))))) x

    refused : (own : Callsign) (r : Option Bool) → IsCall own → AllByRecursion (IsSpelled one) (calls.refused_by own (calls.source f) (calls.back f) r)
    refused own None o = tt
    refused own (Some pf) o = fits _ (spelled 8 own (calls.source f) (calls.back f) false (control.Dm pf) None [] o from.source back (record { numbers = tt; pid_there = refl; no_info = λ e. refl }) (λ n e. absurd (cc e)))

    set_up_new : (size : ℕ) (pf : Bool) (t : Table) → size ≡ one → Reaches one t → Reaches one (calls.set_up_new size pf f now t)
    set_up_new size pf t z x = by (nat_le calls.most_links (length t.links))
      where
        by : (c : Bool) → Reaches one (if c then calls.answer f (control.Dm pf) [] t else calls.to_link f now (calls.made (calls.source f) size (calls.back f) t))
        by true = answered (control.Dm pf) [] t (record { numbers = tt; pid_there = refl; no_info = λ e. refl }) refl x
        by false = to_link (calls.made (calls.source f) size (calls.back f) t) (made (calls.source f) size (calls.back f) t z from.source back x)

    set_up : (size : ℕ) (pf : Bool) (t : Table) → size ≡ one → Reaches one t → Reaches one (calls.set_up size pf f now t)
    set_up size pf t z x = by (link_with (calls.source f) t.links)
      where
        same : (c : Bool) → Reaches one (if c then calls.to_link f now t else calls.set_up_new size pf f now (calls.end (calls.source f) (Closed ∷ []) t))
        same true = to_link t x
        same false = set_up_new size pf (calls.end (calls.source f) (Closed ∷ []) t) z (ended (calls.source f) (Closed ∷ []) t x)

        by : (r : Option Linked) → Reaches one (elim r as (λ y. Table) [
          | None ↦ calls.set_up_new size pf f now t
          | Some l ↦ if l.link.rules.size == size then calls.to_link f now t else calls.set_up_new size pf f now (calls.end (calls.source f) (Closed ∷ []) t)
        ])
        by None = set_up_new size pf t z x
        by (Some l) = same (l.link.rules.size == size)

    other : (t : Table) → Reaches one t → Reaches one (calls.no_set_up f now t)
    other t x = by (link_with (calls.source f) t.links)
      where
        down : (c : Bool) → Reaches one (if c then calls.answer_down f t else t)
        down true = put (calls.refused_by t.own (calls.source f) (calls.back f) (calls.refusal_of f.control)) t (refused t.own (calls.refusal_of f.control) x.own) x
        down false = x

        by : (r : Option Linked) → Reaches one (elim r as (λ y. Table) [ None ↦ if is_command f.head then calls.answer_down f t else t | Some l ↦ calls.to_link f now t ])
        by None = down (is_command f.head)
        by (Some l) = to_link t x

    ui : (pid : Option ℕ) (t : Table) → Reaches one t → Reaches one (calls.ui f pid t)
    ui None t x = x
    ui (Some pid) t x = by ((pid == netrom) && nat_le (length f.info) 256)
      where
        by : (c : Bool) → Reaches one (if c then record t { pending = record t.pending { waiting = t.pending.waiting ++ (calls.source f, record { items = f.info }) ∷ [] } } else t)
        by true = record { modulus = x.modulus; of_size = x.of_size; own = x.own; links = x.links; paths = x.paths; frames = x.frames }
        by false = x

    kind : (command : Bool) (c : Control) (t : Table) → f.control ≡ c → Reaches one t → Reaches one (calls.arrive_kind command c f now t)
    kind true (control.Sabm pf) t e x = set_up 8 pf t (from.sets_up 8 (ap calls.set_up_size e)) x
    kind true (control.Sabme pf) t e x = set_up 128 pf t (from.sets_up 128 (ap calls.set_up_size e)) x
    kind true (control.Test pf) t e x = answered (control.Test pf) f.info t (record { numbers = tt; pid_there = refl; no_info = λ e. absurd (cc e) }) refl x
    kind true (control.Ui pf) t e x = ui f.pid t x
    kind false (control.Ui pf) t e x = ui f.pid t x
    kind command c t e x = other t x

  -- ---- the other calls

  ticks : (peers : List Callsign) (now : ℕ) (t : Table) → Reaches one t → Reaches one (calls.tick_each peers now t)
  ticks [] now t x = x
  ticks (p ∷ ps) now t x = ticks ps now (calls.at_link p (step_link t.own Tick now) t) (at_link_reaches p (step_link t.own Tick now) t (λ w y. stepped t.own Tick now w (x.own, x.modulus) y) x)

  path_is : (to : Callsign) (vias : List Via) → AllByRecursion (λ (v : Via). IsWay v.1) vias → IsWay (path_to to vias)
  path_is to [] a = record { calls = tt; eight = omega arith }
  path_is to (v ∷ vias) a = by (same_call to v.0) (path_is to vias a.1)
    where
      by : (b : Bool) → IsWay (path_to to vias) → IsWay (path_or (if b then Some v.1 else lookup (same_call to) vias))
      by true rest = a.0
      by false rest = rest

  path_set : (peer : Callsign) (path : ArrayVec Address) (vias : List Via) → IsWay path → AllByRecursion (λ (v : Via). IsWay v.1) vias → AllByRecursion (λ (v : Via). IsWay v.1) (insert_entry same_call vias peer path)
  path_set peer path [] w a = (w, tt)
  path_set peer path (v ∷ vias) w a = by (same_call peer v.0) (path_set peer path vias w a.1)
    where
      by : (b : Bool) → AllByRecursion (λ (x : Via). IsWay x.1) (insert_entry same_call vias peer path)
          → AllByRecursion (λ (x : Via). IsWay x.1) (if b then (v.0, path) ∷ vias else v ∷ insert_entry same_call vias peer path)
      by true rest = (w, a.1)
      by false rest = (a.0, rest)

  standing : (to : Callsign) (d : Datagram) (now : ℕ) (t : Table) → Reaches one t → Reaches one (calls.offer_standing to d now t).table
  standing to d now t x = by (link_with to t.links)
    where
      yes : calls.Offering
      yes = record { answer = Taken; table = calls.at_link to (step_link t.own (Send (calls.pack d)) now) t }

      no : calls.Offering
      no = record { answer = Dropped; table = t }

      takes_by : (b : Bool) → Reaches one (if b then yes else no).table
      takes_by true = at_link_reaches to (step_link t.own (Send (calls.pack d)) now) t (λ w y. stepped t.own (Send (calls.pack d)) now w (x.own, x.modulus) y) x
      takes_by false = x

      by : (r : Option Linked) → Reaches one (elim r as (λ y. calls.Offering) [ None ↦ no | Some l ↦ if takes l.link then yes else no ]).table
      by None = x
      by (Some l) = takes_by (takes l.link)

  opened : (to : Callsign) (path : ArrayVec Address) (now : ℕ) (t : Table) → IsCall to → IsWay path → Reaches one t → Reaches one (calls.set_up_over to path now t)
  opened to path now t c p x =
      let m : Table = calls.made to t.size path t in
      at_link_reaches to (step_link t.own Set_up now) m (λ w y. stepped t.own Set_up now w (x.own, x.modulus) y) (made to t.size path t x.of_size c p x)

  opens : (peer : Callsign) (path : ArrayVec Address) (now : ℕ) (t : Table) → IsCall peer → IsWay path → Reaches one t → Reaches one (calls.open_link peer path now t)
  opens peer path now t c p x = by (is_ok (calls.open_answer peer path t))
    where
      over : (b : Bool) → IsWay (if b then path_to peer t.paths else path)
      over true = path_is peer t.paths x.paths
      over false = p

      by : (b : Bool) → Reaches one (if b then calls.set_up_over peer (calls.open_path peer path t.paths) now t else t)
      by true = opened peer (calls.open_path peer path t.paths) now t c (over (length path.items == 0)) x
      by false = x

  offered : (to : Callsign) (d : Datagram) (now : ℕ) (t : Table) → IsCall to → Reaches one t → Reaches one (calls.offer to d now t).table
  offered to d now t c x = by t.by_links
    where
      full : (b : Bool) → Reaches one (if b then record { answer = Dropped; table = t } else calls.offer_standing to d now (calls.set_up_link to now t)).table
      full true = x
      full false = standing to d now (calls.set_up_link to now t) (opened to (path_to to t.paths) now t c (path_is to t.paths x.paths) x)

      linked : (r : Option Linked) → Reaches one (elim r as (λ y. calls.Offering) [
        | None ↦ if nat_le calls.most_links (length t.links) then record { answer = Dropped; table = t } else calls.offer_standing to d now (calls.set_up_link to now t)
        | Some l ↦ calls.offer_standing to d now t
      ]).table
      linked None = full (nat_le calls.most_links (length t.links))
      linked (Some l) = standing to d now t x

      by : (b : Bool) → Reaches one (if b then calls.offer_link to d now t else record { answer = Taken; table = calls.offer_ui to d t }).table
      by true = linked (link_with to t.links)
      by false =
          put _ t (fits _ (spelled 8 t.own to (path_to to t.paths) true (control.Ui false) (Some netrom) d.items x.own c (path_is to t.paths x.paths)
          (record { numbers = tt; pid_there = refl; no_info = λ e. absurd (cc e) }) (λ n e. absurd (cc e)))) x

  taken : (peer : Callsign) (now : ℕ) (t : Table) → Reaches one t → Reaches one (texts.take_text peer now t)
  taken peer now t x = by (is_some (texts.text_with peer t))
    where
      by : (b : Bool) → Reaches one (if b then calls.at_link peer (texts.take_text_of t.own now) t else t)
      by true = at_link_reaches peer (texts.take_text_of t.own now) t (λ w y. text_taken t.own now w (x.own, x.modulus) y) x
      by false = x

  each : (own : Callsign) (ps : List Payload) (now : ℕ) (w : Work) → Own own → WorkReaches w → WorkReaches (texts.send_each own ps now w)
  each own [] now w o x = x
  each own (p ∷ ps) now w o x = each own ps now (step_link own (Send p) now w) o (stepped own (Send p) now w o x)

  pub reaches_on : ReachesOn one
  reaches_on =
      record {
        arrives = λ t f now from x. kind f now from (is_command f.head) f.control t refl x;
        ticks = λ t now x. ticks (map (λ l. l.peer) t.links) now t x;
        opens = λ t peer path now c p x. opens peer path now t c p x;
        closes = λ t peer now x. at_link_reaches peer (step_link t.own Close now) t (λ w y. stepped t.own Close now w (x.own, x.modulus) y) x;
        breaks = λ t peer x. ended peer (Failed ∷ []) t x;
        takes = λ t peer now x. taken peer now t x;
        sends = λ t peer text now x. at_link_reaches peer (texts.send_text_of t.own text now) t (λ w y. each t.own (texts.payloads_of w.linked.link.rules.size text) now w (x.own, x.modulus) y) x;
        offers = λ t to d now c x. offered to d now t c x;
        paths = λ t peer path w x. record { modulus = x.modulus; of_size = x.of_size; own = x.own; links = x.links; paths = path_set peer path t.paths w x.paths; frames = x.frames };
        collects = λ t x. record { modulus = x.modulus; of_size = x.of_size; own = x.own; links = x.links; paths = x.paths; frames = x.frames };
        tells_lost = λ t x. record { modulus = x.modulus; of_size = x.of_size; own = x.own; links = x.links; paths = x.paths; frames = x.frames };
        notices = λ t x. record { modulus = x.modulus; of_size = x.of_size; own = x.own; links = x.links; paths = x.paths; frames = x.frames };
        fetches = λ t x. record { modulus = x.modulus; of_size = x.of_size; own = x.own; links = x.links; paths = x.paths; frames = rest_of (IsSpelled one) t.pending.frames x.frames };
      }
