-- What work at one link tells of it.
use Rattle.std.proofs.Common.{◌≡◌, ℕ, zero, suc, ◌==◌, ◌&&◌, ◌||◌, Bool, true, false, List, [], ◌∷◌, ◌++◌, map, Option, Some, None, refl, ap, sym, ◌∙◌, if◌then◌else◌, append_assoc, append-nil, slice_get}
use Rattle.std.proofs.lemmas.Bool.{or_right}
use Rattle.radio_base.specs.declared.payload.Payload.{Payload}
use Rattle.ax_address.specs.Callsign.{Callsign, same_call}
use Rattle.ax_link.specs.State.{Frame}
use Rattle.ax_link.specs.Table.{Arrive, Input, Send, Take, step}
use Rattle.ax_link.specs.declared.notice.LinkNotice.{LinkNotice}
use Rattle.ax_segment.specs.Joining.{join_step}
use Rattle.link_table.specs.Ending.{is_end, tells_end}
use Rattle.link_table.specs.Frames.{netrom, segmented}
use Rattle.link_table.specs.Texts as texts
use Rattle.link_table.specs.Works.{Work, arrive_at_link, first_to_take, is_down, hand_up, most_taken, note_caller, settle, step_link, take_payload}
use Rattle.link_table.proofs.Phases.{any_end, ends_told}

-- ---- what is told

pub told_more : (q : Callsign) (xs ys : List (Callsign × LinkNotice)) → tells_end q xs ≡ true → tells_end q (xs ++ ys) ≡ true
told_more q [] ys e = absurd (cc e)
told_more q (x ∷ xs) ys e = by (same_call q x.0 && is_end x.1) e (λ f. told_more q xs ys f)
  where
    by : (b : Bool) → (b || tells_end q xs) ≡ true → (tells_end q xs ≡ true → tells_end q (xs ++ ys) ≡ true) → (b || tells_end q (xs ++ ys)) ≡ true
    by true f rest = refl
    by false f rest = rest f

pub told_behind : (q : Callsign) (xs ys : List (Callsign × LinkNotice)) → tells_end q ys ≡ true → tells_end q (xs ++ ys) ≡ true
told_behind q [] ys e = e
told_behind q (x ∷ xs) ys e = by (same_call q x.0 && is_end x.1) (told_behind q xs ys e)
  where
    by : (b : Bool) → tells_end q (xs ++ ys) ≡ true → (b || tells_end q (xs ++ ys)) ≡ true
    by true f = refl
    by false f = f

abbrev pub named : Callsign → LinkNotice → Callsign × LinkNotice
named peer n = (peer, n)

pub told_notes : (q peer : Callsign) (notes : List LinkNotice) → same_call q peer ≡ true → any_end notes ≡ true → tells_end q (map (named peer) notes) ≡ true
told_notes q peer [] e f = absurd (cc f)
told_notes q peer (n ∷ ns) e f = by (is_end n) f (λ g. told_notes q peer ns e g)
  where
    by : (b : Bool) → (b || any_end ns) ≡ true → (any_end ns ≡ true → tells_end q (map (named peer) ns) ≡ true) → ((same_call q peer && b) || tells_end q (map (named peer) ns)) ≡ true
    by true g rest = ap (λ c. (c && true) || tells_end q (map (named peer) ns)) e
    by false g rest = or_right (same_call q peer && false) (tells_end q (map (named peer) ns)) (rest g)

pub or_both : (a b c d : Bool) → (a ≡ true → c ≡ true) → (b ≡ true → d ≡ true) → (a || b) ≡ true → (c || d) ≡ true
or_both true b c d f g e = let first = f refl in rw first refl
or_both false b c d f g e = let second = g e in by c second
  where
    by : (x : Bool) → d ≡ true → (x || d) ≡ true
    by true h = refl
    by false h = h

-- ---- work at one link

-- it tells this, and that the link has ended where it is Down then and wasn't
pub record Reports (w v : Work) : Type 0 where
  pub peer : v.linked.peer ≡ w.linked.peer
  pub notes : List LinkNotice
  pub told : v.pending.notices ≡ w.pending.notices ++ map (named w.linked.peer) notes
  pub ended : is_down w.linked.link.phase ≡ false → is_down v.linked.link.phase ≡ true → any_end notes ≡ true

quiet : (w v : Work) → v.linked.peer ≡ w.linked.peer → v.pending.notices ≡ w.pending.notices → v.linked.link.phase ≡ w.linked.link.phase → Reports w v
quiet w v e f g = record { peer = e; notes = []; told = f ∙ sym (append-nil w.pending.notices); ended = λ a b. absurd (cc (sym a ∙ (ap is_down (sym g) ∙ b))) }

any_more : (xs ys : List LinkNotice) → any_end xs ≡ true → any_end (xs ++ ys) ≡ true
any_more [] ys e = absurd (cc e)
any_more (x ∷ xs) ys e = by (is_end x) e (λ f. any_more xs ys f)
  where
    by : (b : Bool) → (b || any_end xs) ≡ true → (any_end xs ≡ true → any_end (xs ++ ys) ≡ true) → (b || any_end (xs ++ ys)) ≡ true
    by true f rest = refl
    by false f rest = rest f

any_behind : (xs ys : List LinkNotice) → any_end ys ≡ true → any_end (xs ++ ys) ≡ true
any_behind [] ys e = e
any_behind (x ∷ xs) ys e = by (is_end x) (any_behind xs ys e)
  where
    by : (b : Bool) → any_end (xs ++ ys) ≡ true → (b || any_end (xs ++ ys)) ≡ true
    by true f = refl
    by false f = f

map_both : (peer : Callsign) (xs ys : List LinkNotice) → map (named peer) (xs ++ ys) ≡ map (named peer) xs ++ map (named peer) ys
map_both peer [] ys = refl
map_both peer (x ∷ xs) ys = ap (λ (zs : List (Callsign × LinkNotice)). named peer x ∷ zs) (map_both peer xs ys)

next : (u v w : Work) → Reports u v → Reports v w → Reports u w
next u v w r s = record {
  peer = s.peer ∙ r.peer;
  notes = r.notes ++ s.notes;
  told =
      s.told ∙ (ap (λ (k : Callsign). v.pending.notices ++ map (named k) s.notes) r.peer
      ∙ (ap (λ (ns : List (Callsign × LinkNotice)). ns ++ map (named u.linked.peer) s.notes) r.told
      ∙ (append_assoc u.pending.notices (map (named u.linked.peer) r.notes) (map (named u.linked.peer) s.notes)
      ∙ ap (λ (ns : List (Callsign × LinkNotice)). u.pending.notices ++ ns) (sym (map_both u.linked.peer r.notes s.notes)))));
  ended = λ on off. by (is_down v.linked.link.phase) refl on off;
}
  where
    by : (b : Bool) → is_down v.linked.link.phase ≡ b → is_down u.linked.link.phase ≡ false → is_down w.linked.link.phase ≡ true → any_end (r.notes ++ s.notes) ≡ true
    by true e on off = any_more r.notes s.notes (r.ended on e)
    by false e on off = any_behind r.notes s.notes (s.ended e off)

pub stepped : (own : Callsign) (i : Input) (now : ℕ) (w : Work) → Reports w (step_link own i now w)
stepped own i now w = record { peer = refl; notes = (step w.linked.link i now).notes; told = refl; ended = λ on off. ends_told w.linked.link i now on off }

handed : (p : Payload) (w : Work) → Reports w (hand_up p w)
handed p w = by (p.pid == netrom) (p.pid == segmented)
  where
    by : (b c : Bool) → Reports w (if b
        then record w { pending = record w.pending { waiting = w.pending.waiting ++ (w.linked.peer, p.info) ∷ [] } }
        else if c
        then record w { linked = record w.linked { joiner = (join_step w.linked.joiner p.info.items).0 } }
        else w)
    by true c = quiet w _ refl refl refl
    by false true = quiet w _ refl refl refl
    by false false = quiet w w refl refl refl

taken : (own : Callsign) (now : ℕ) (p : Payload) (w : Work) → Reports w (take_payload own now p w)
taken own now p w = let s : Work = step_link own Take now w in next w s (hand_up p s) (stepped own Take now w) (handed p s)

settled : (n : ℕ) (own : Callsign) (now : ℕ) (w : Work) → Reports w (settle n own now w)
settled zero own now w = quiet w w refl refl refl
settled (suc n) own now w = by (first_to_take w) (λ p. settled n own now (take_payload own now p w))
  where
    by : (r : Option Payload) → ((p : Payload) → Reports (take_payload own now p w) (settle n own now (take_payload own now p w)))
        → Reports w (elim r as (λ y. Work) [ None ↦ w | Some p ↦ settle n own now (take_payload own now p w) ])
    by None rest = quiet w w refl refl refl
    by (Some p) rest = next w (take_payload own now p w) _ (taken own now p w) (rest p)

pub text_taken : (own : Callsign) (now : ℕ) (w : Work) → Reports w (texts.take_text_of own now w)
text_taken own now w = by (slice_get w.linked.link.inbox 0)
  where
    by : (r : Option Payload) → Reports w (elim r as (λ y. Work) [ None ↦ w | Some p ↦ settle most_taken own now (take_payload own now p w) ])
    by None = quiet w w refl refl refl
    by (Some p) = next w (take_payload own now p w) _ (taken own now p w) (settled most_taken own now (take_payload own now p w))

pub arrived : (own : Callsign) (f : Frame) (now : ℕ) (w : Work) → Reports w (arrive_at_link own f now w)
arrived own f now w = by (is_down s.linked.link.phase)
  where
    s : Work
    s = step_link own (Arrive f) now (note_caller f w)

    come : Reports w s
    come = next w (note_caller f w) s (quiet w (note_caller f w) refl refl refl) (stepped own (Arrive f) now (note_caller f w))

    by : (b : Bool) → Reports w (if b then s else settle most_taken own now s)
    by true = come
    by false = next w s _ come (settled most_taken own now s)

pub sent_each : (own : Callsign) (ps : List Payload) (now : ℕ) (w : Work) → Reports w (texts.send_each own ps now w)
sent_each own [] now w = quiet w w refl refl refl
sent_each own (p ∷ ps) now w = next w (step_link own (Send p) now w) _ (stepped own (Send p) now w) (sent_each own ps now (step_link own (Send p) now w))
