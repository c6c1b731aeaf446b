-- A step of a link, lifted.
use Rattle.std.proofs.Common.{◌≡◌, ℕ, zero, suc, Bool, true, false, List, [], ◌∷◌, ◌++◌, drop, Option, Some, None, slice_get, map, refl, ap, sym, ◌∙◌, subst, append_assoc, if◌then◌else◌, ◌==◌, is_some}
use Rattle.std.specs.Option.{option_to_list}
use Rattle.std.proofs.lemmas.List.{map-append}
use Rattle.radio_base.specs.declared.payload.Payload.{Payload}
use Rattle.ax_link.specs.declared.out.LinkOut.{LinkOut}
use Rattle.ax_link.specs.declared.notice.LinkNotice.{LinkNotice}
use Rattle.ax_link.specs.declared.notice.LinkNotice.TheVariants.{Opened, Reset, Closed, Refused, Failed}
use Rattle.ax_link.specs.Standing.{LinkView, StandsFor, frame_of}
use Rattle.ax_link.specs.State.{Frame, Effect, State}
use Rattle.ax_link.specs.Table.{Arrive, Input, Take, step}
use Rattle.ax_segment.specs.Joining.{HeldMessage as Joined, join_step, IsWithin}
use Rattle.link_table.specs.declared.route.LinkRoute.{LinkRoute}
use Rattle.link_table.specs.declared.pending.Pending.{Pending}
use Rattle.link_table.specs.declared.written.Written.{Written}
use Rattle.link_table.specs.Table.{written}
use Rattle.link_table.specs.Frames.{Sent, all_sent, fitting, netrom, sent_by, segmented}
use Rattle.link_table.specs.declared.entry.LinkEntry.{LinkEntry}
use Rattle.link_table.specs.declared.link_of.LinkOf.{LinkOf}
use Rattle.link_table.specs.Standing.{EntryGoes, EntryStands, GoesQuietly, HandsUp, Lifted, LinkGoes, gone_out, held_of, size_of}
use Rattle.ax_address.specs.Callsign.{Callsign}
use Rattle.link_table.specs.Works.{Work, arrive_at_link, called_by, first_to_take, hand_up, is_down, is_text, joiner_after, lost_by, most_taken, note_caller, settle, step_link, take_payload, unless_text}

-- the oldest frame of a link has gone out, and the others are still to go
pub one_out : (size : ℕ) (route : LinkRoute) (out : LinkOut) (old new : LinkView) (fs fs2 : List Written) → slice_get old.outs 0 ≡ Some out → new.outs ≡ drop 1 old.outs →
    fs2 ≡ fs ++ map written (fitting (sent_by size route.own route.peer route.path (frame_of size out))) → fs2 ++ gone_out size route new ≡ fs ++ gone_out size route old
one_out size route out old new fs fs2 first rest one =
    ap (λ (xs : List LinkOut). fs2 ++ gone xs) rest ∙ ap (λ ys. ys ++ gone (drop 1 old.outs)) one ∙ by old.outs first
  where
    gone : List LinkOut → List Written
    gone xs = map written (all_sent size route.own route.peer route.path (map (frame_of size) xs))

    sent_one : LinkOut → List Sent
    sent_one x = fitting (sent_by size route.own route.peer route.path (frame_of size x))

    by : (xs : List LinkOut) → slice_get xs 0 ≡ Some out → (fs ++ map written (sent_one out)) ++ gone (drop 1 xs) ≡ fs ++ gone xs
    by [] e = absurd (cc e)
    by (x ∷ xs) e =
        let same : x ≡ out = cc e in
        append_assoc fs (map written (sent_one out)) (gone xs)
        ∙ ap (λ y. fs ++ (map written (sent_one y) ++ gone xs)) (sym same)
        ∙ ap (λ ys. fs ++ ys) (sym (map-append written (sent_one x) (all_sent size route.own route.peer route.path (map (frame_of size) xs))))

-- no frame is still to go
pub none_out : (size : ℕ) (route : LinkRoute) (link : LinkView) → slice_get link.outs 0 ≡ None → gone_out size route link ≡ []
none_out size route link e = by link.outs e
  where
    by : (xs : List LinkOut) → slice_get xs 0 ≡ None → map written (all_sent size route.own route.peer route.path (map (frame_of size) xs)) ≡ []
    by [] e = refl
    by (x ∷ xs) e = absurd (cc e)

pub none_left_out : (link : LinkView) → slice_get link.outs 0 ≡ None → link.outs ≡ []
none_left_out link e = by link.outs e
  where
    by : (xs : List LinkOut) → slice_get xs 0 ≡ None → xs ≡ []
    by [] e = refl
    by (x ∷ xs) e = absurd (cc e)

-- a notice leaves what is joined within its bounds
after_within : (notes : List LinkNotice) (j : Joined) → IsWithin j → IsWithin (joiner_after notes j)
after_within [] j x = x
after_within (Reset ∷ notes) j x = tt
after_within (Opened ∷ notes) j x = after_within notes j x
after_within (Closed ∷ notes) j x = after_within notes j x
after_within (Refused ∷ notes) j x = after_within notes j x
after_within (Failed ∷ notes) j x = after_within notes j x

-- one step of an entry behind another
pub follows : (a b : Work → Work) (x y z : LinkEntry) (k k2 k3 : Pending) → EntryGoes a x y k k2 → EntryGoes b y z k2 k3 → EntryGoes (λ w. b (a w)) x z k k3
follows a b x y z k k2 k3 f g = record { route = g.route ∙ f.route; size = g.size ∙ f.size; goes = λ w s. g.goes (a w) (f.goes w s) }

-- a step of the link and what comes of it are a step of the work
pub lifts : (i : Input) (now : ℕ) (old : LinkEntry) (mid : LinkOf) (new : LinkEntry) (k k2 : Pending) → LinkGoes i now old.link mid →
    Lifted (record old { link = mid }) new k k2 → EntryGoes (step_link old.route.own i now) old new k k2
lifts i now old mid new k k2 done l = record { route = l.route; size = size; goes = goes }
  where
    size : size_of new.link ≡ size_of old.link
    size = l.size ∙ done.size

    sent_frames : k2.frames.items ≡ k.frames.items ++ gone_out (size_of old.link) old.route (held_of mid)
    sent_frames = subst (λ n. k2.frames.items ≡ k.frames.items ++ gone_out n old.route (held_of mid)) done.size l.frames

    goes : (w : Work) → EntryStands old k w → EntryStands new k2 (step_link old.route.own i now w)
    goes w stands =
        let s = done.does w.linked.link stands.link in
        let g : Effect = step w.linked.link i now in
        let notes : g.notes ≡ option_to_list (held_of mid).notice = ap (λ (x : Effect). x.notes) s.keeps.is in
        let outs : g.outs ≡ map (frame_of (size_of old.link)) (held_of mid).outs = ap (λ (x : Effect). x.outs) s.keeps.is in
        let before : w.linked.link.rules.size ≡ size_of old.link = ap (λ (x : State). x.rules.size) stands.link.keeps.is in
        let link : StandsFor (size_of old.link) (held_of new.link) g.link =
        record {
          keeps = record { before = s.keeps.before; received = s.keeps.received; acked = rw l.link s.keeps.acked; got = rw l.link s.keeps.got; is = rw l.link (ap (λ (x : Effect). x.link) s.keeps.is) };
          bounds = s.bounds;
          sized = s.sized;
        } in
        record {
          peer = stands.peer ∙ sym (ap (λ (r : LinkRoute). r.peer) l.route);
          path = stands.path ∙ sym (ap (λ (r : LinkRoute). r.path) l.route);
          link = subst (λ n. StandsFor n (held_of new.link) g.link) (sym size) link;
          joiner = rw (notes, stands.joiner) (sym l.joiner);
          called = stands.called ∙ sym l.called;
          within = subst IsWithin (sym l.joiner) (after_within (option_to_list (held_of mid).notice) old.joiner stands.within);
          pending = record {
            waiting = l.waiting ∙ stands.pending.waiting;
            lost = rw (l.lost, stands.pending.lost, notes, stands.peer) refl;
            notices = rw (l.notices, stands.pending.notices, notes, stands.peer) refl;
            frames = rw (sent_frames, stands.pending.frames, outs, before, stands.peer, stands.path) (sym (map-append written _ _));
          };
        }

-- a payload that was taken is handed up
pub hands : (p : Payload) (e : LinkEntry) (j2 : Joined) (k k2 : Pending) → HandsUp p e.route.peer e.joiner j2 k k2 → EntryGoes (hand_up p) e (record e { joiner = j2 }) k k2
hands p e j2 k k2 u = record { route = refl; size = refl; goes = λ w s. by w s (p.pid == netrom) (p.pid == segmented) u.joiner u.waiting }
  where
    by : (w : Work) → EntryStands e k w → (b c : Bool) → j2 ≡ (if b then e.joiner else if c then (join_step e.joiner p.info.items).0 else e.joiner) →
        k2.waiting.items ≡ (if b then k.waiting.items ++ (e.route.peer, p.info) ∷ [] else k.waiting.items) →
        EntryStands (record e { joiner = j2 }) k2
        (if b
        then record w { pending = record w.pending { waiting = w.pending.waiting ++ (w.linked.peer, p.info) ∷ [] } }
        else if c
        then record w { linked = record w.linked { joiner = (join_step w.linked.joiner p.info.items).0 } }
        else w)
    by w s true c same came =
        record {
          peer = s.peer;
          path = s.path;
          link = s.link;
          joiner = s.joiner ∙ sym same;
          called = s.called;
          within = u.within s.within;
          pending = record { waiting = rw (came, s.pending.waiting, s.peer) refl; lost = u.lost ∙ s.pending.lost; notices = u.notices ∙ s.pending.notices; frames = u.frames ∙ s.pending.frames };
        }
    by w s false true same came =
        record {
          peer = s.peer;
          path = s.path;
          link = s.link;
          joiner = rw (same, s.joiner) refl;
          called = s.called;
          within = u.within s.within;
          pending = record { waiting = came ∙ s.pending.waiting; lost = u.lost ∙ s.pending.lost; notices = u.notices ∙ s.pending.notices; frames = u.frames ∙ s.pending.frames };
        }
    by w s false false same came =
        record {
          peer = s.peer;
          path = s.path;
          link = s.link;
          joiner = s.joiner ∙ sym same;
          called = s.called;
          within = u.within s.within;
          pending = record { waiting = came ∙ s.pending.waiting; lost = u.lost ∙ s.pending.lost; notices = u.notices ∙ s.pending.notices; frames = u.frames ∙ s.pending.frames };
        }

-- The oldest payload is taken, and may be handed up before: a link that gives a payload tells nothing.
pub hands_first : (now : ℕ) (p q : Payload) (old : LinkEntry) (mid : LinkOf) (j2 : Joined) (new : LinkEntry) (k k2 k3 : Pending) → q ≡ p →
    LinkGoes Take now old.link mid → (held_of mid).notice ≡ None → HandsUp q old.route.peer old.joiner j2 k k2 → Lifted (record old { link = mid; joiner = j2 }) new k2 k3 →
    EntryGoes (take_payload old.route.own now p) old new k k3
hands_first now p q old mid j2 new k k2 k3 e done quiet u l =
    let before : Pending = record k3 { waiting = k.waiting } in
    let lifted : Lifted (record old { link = mid }) (record new { joiner = old.joiner }) k before =
    record {
      route = l.route;
      size = l.size;
      link = l.link;
      joiner = ap (λ x. joiner_after (option_to_list x) old.joiner) (sym quiet);
      called = l.called;
      waiting = refl;
      lost = l.lost ∙ ap (λ xs. xs ++ lost_by old.route.peer (option_to_list (held_of mid).notice)) u.lost;
      notices = l.notices ∙ ap (λ xs. xs ++ map (λ n. (old.route.peer, n)) (option_to_list (held_of mid).notice)) u.notices;
      frames = l.frames ∙ ap (λ xs. xs ++ gone_out (size_of mid) old.route (held_of mid)) u.frames;
    } in
    let same : new.joiner ≡ j2 = l.joiner ∙ ap (λ n. joiner_after (option_to_list n) j2) quiet in
    let up : HandsUp q old.route.peer old.joiner new.joiner before k3 =
    record {
      joiner = same ∙ u.joiner;
      within = λ x. subst IsWithin (sym same) (u.within x);
      waiting = l.waiting ∙ u.waiting;
      lost = refl;
      notices = refl;
      frames = refl;
    } in
    let there : HandsUp p new.route.peer old.joiner new.joiner before k3 =
    subst (λ (r : LinkRoute). HandsUp p r.peer old.joiner new.joiner before k3) (sym l.route) (subst (λ x. HandsUp x old.route.peer old.joiner new.joiner before k3) e up) in
    follows (step_link old.route.own Take now) (hand_up p) old (record new { joiner = old.joiner }) new k before k3
    (lifts Take now old mid (record new { joiner = old.joiner }) k before done lifted) (hands p (record new { joiner = old.joiner }) new.joiner before k3 there)

-- what may be taken at once is the oldest payload
pub untexted : (j : Joined) (x : Option Payload) (p : Payload) → unless_text j x ≡ Some p → x ≡ Some p
untexted j None p e = absurd (cc e)
untexted j (Some q) p e = by (is_text j q) e
  where
    by : (b : Bool) → (if b then None else Some q) ≡ Some p → Some q ≡ Some p
    by true r = absurd (cc r)
    by false r = r

-- so many payloads may still be taken
pub record Left (n now : ℕ) (old new : LinkEntry) (k k2 : Pending) : Type 0 where
  pub route : new.route ≡ old.route
  pub size : size_of new.link ≡ size_of old.link
  pub left : (w : Work) → EntryStands old k w → (w2 : Work) × EntryStands new k2 w2 × (settle n old.route.own now w2 ≡ settle most_taken old.route.own now w)

pub none_taken : (now : ℕ) (e : LinkEntry) (k : Pending) → Left most_taken now e e k k
none_taken now e k = record { route = refl; size = refl; left = λ w s. (w, s, refl) }

first_of : (e : LinkEntry) (k : Pending) (w : Work) → EntryStands e k w → first_to_take w ≡ unless_text e.joiner (slice_get (held_of e.link).inbox 0)
first_of e k w s =
    ap (λ (x : Joined). unless_text x (slice_get w.linked.link.inbox 0)) s.joiner ∙ ap (λ (x : State). unless_text e.joiner (slice_get x.inbox 0)) s.link.keeps.is

none_left : (own : Callsign) (now n : ℕ) (w : Work) → first_to_take w ≡ None → settle n own now w ≡ w
none_left own now zero w e = refl
none_left own now (suc n) w e = ap (λ x. elim x as (λ y. Work) [ None ↦ w | Some z ↦ settle n own now (take_payload own now z w) ]) e

pub left_none : (n now : ℕ) (old new : LinkEntry) (k k2 : Pending) → Left n now old new k k2 → unless_text new.joiner (slice_get (held_of new.link).inbox 0) ≡ None →
    EntryGoes (settle most_taken old.route.own now) old new k k2
left_none n now old new k k2 left e =
    record {
      route = left.route;
      size = left.size;
      goes = λ w s.
          let r = left.left w s in
          subst (EntryStands new k2) (sym (none_left old.route.own now n r.0 (first_of new k2 r.0 r.1 ∙ e)) ∙ r.2) r.1;
    }

pub left_end : (n now : ℕ) (old new : LinkEntry) (k k2 : Pending) → n ≡ 0 → Left n now old new k k2 → EntryGoes (settle most_taken old.route.own now) old new k k2
left_end n now old new k k2 e left =
    record {
      route = left.route;
      size = left.size;
      goes = λ w s.
          let r = left.left w s in
          subst (EntryStands new k2) (subst (λ m. settle m old.route.own now r.0 ≡ settle most_taken old.route.own now w) e r.2) r.1;
    }

pub left_one : (n m now : ℕ) (p : Payload) (old mid new : LinkEntry) (k k2 k3 : Pending) → n ≡ suc m → Left n now old mid k k2 →
    unless_text mid.joiner (slice_get (held_of mid.link).inbox 0) ≡ Some p → EntryGoes (take_payload mid.route.own now p) mid new k2 k3 → Left m now old new k k3
left_one n m now p old mid new k k2 k3 e left q goes =
    record {
      route = goes.route ∙ left.route;
      size = goes.size ∙ left.size;
      left = λ w s.
          let own : Callsign = old.route.own in
          let r = left.left w s in
          let one : settle (suc m) own now r.0 ≡ settle m own now (take_payload own now p r.0) =
          ap (λ x. elim x as (λ y. Work) [ None ↦ r.0 | Some z ↦ settle m own now (take_payload own now z r.0) ]) (first_of mid k2 r.0 r.1 ∙ q) in (
            take_payload own now p r.0,
            subst (λ (x : LinkRoute). EntryStands new k3 (take_payload x.own now p r.0)) left.route (goes.goes r.0 r.1),
            sym one ∙ subst (λ i. settle i own now r.0 ≡ settle most_taken own now w) e r.2,
          );
    }

pub none_waits : (x : Option Payload) → is_some x ≡ false → x ≡ None
none_waits None e = refl
none_waits (Some p) e = absurd (cc e)

pub one_waits : (x : Option Payload) → is_some x ≡ true → (p : Payload) × (x ≡ Some p)
one_waits None e = absurd (cc e)
one_waits (Some p) e = (p, refl)

-- the set-up of the peer that a frame may be is noted
pub notes_caller : (f : Frame) (e : LinkEntry) (k : Pending) (b : Bool) → b ≡ called_by f.kind (held_of e.link).phase e.called → EntryGoes (note_caller f) e (record e { called = b }) k k
notes_caller f e k b is =
    record {
      route = refl;
      size = refl;
      goes = λ w s.
          record {
            peer = s.peer;
            path = s.path;
            link = s.link;
            joiner = s.joiner;
            called = ap (λ (x : State). called_by f.kind x.phase w.linked.called) s.link.keeps.is ∙ ap (called_by f.kind (held_of e.link).phase) s.called ∙ sym is;
            within = s.within;
            pending = s.pending;
          };
    }

-- so it is before a step of the link, and what comes of that
pub comes : (f : Frame) (now : ℕ) (old : LinkEntry) (b : Bool) (mid : LinkOf) (new : LinkEntry) (k k2 : Pending) → b ≡ called_by f.kind (held_of old.link).phase old.called →
    LinkGoes (Arrive f) now old.link mid → Lifted (record old { link = mid; called = b }) new k k2 → EntryGoes (λ w. step_link old.route.own (Arrive f) now (note_caller f w)) old new k k2
comes f now old b mid new k k2 is done l =
    let noted : LinkEntry = record old { called = b } in
    follows (note_caller f) (step_link old.route.own (Arrive f) now) old noted new k k k2 (notes_caller f old k b is) (lifts (Arrive f) now noted mid new k k2 done l)

phase_is : (e : LinkEntry) (k : Pending) (w : Work) → EntryStands e k w → is_down w.linked.link.phase ≡ is_down (held_of e.link).phase
phase_is e k w s = ap (λ (x : State). is_down x.phase) s.link.keeps.is

-- a frame has come, and the link has ended
pub arrives_down : (f : Frame) (now : ℕ) (old new : LinkEntry) (k k2 : Pending) → EntryGoes (λ w. step_link old.route.own (Arrive f) now (note_caller f w)) old new k k2 →
    is_down (held_of new.link).phase ≡ true → EntryGoes (arrive_at_link old.route.own f now) old new k k2
arrives_down f now old new k k2 g e =
    record {
      route = g.route;
      size = g.size;
      goes = λ w s.
          let s2 : Work = step_link old.route.own (Arrive f) now (note_caller f w) in
          let r = g.goes w s in
          subst (EntryStands new k2) (sym (ap (λ b. if b then s2 else settle most_taken old.route.own now s2) (phase_is new k2 s2 r ∙ e))) r;
    }

-- or it stands, and what it brought is taken
pub arrives_on : (f : Frame) (now : ℕ) (old mid new : LinkEntry) (k k2 k3 : Pending) → EntryGoes (λ w. step_link old.route.own (Arrive f) now (note_caller f w)) old mid k k2 →
    is_down (held_of mid.link).phase ≡ false → EntryGoes (settle most_taken mid.route.own now) mid new k2 k3 → EntryGoes (arrive_at_link old.route.own f now) old new k k3
arrives_on f now old mid new k k2 k3 g e more =
    record {
      route = more.route ∙ g.route;
      size = more.size ∙ g.size;
      goes = λ w s.
          let s2 : Work = step_link old.route.own (Arrive f) now (note_caller f w) in
          let r = g.goes w s in
          subst (EntryStands new k3) (sym (ap (λ b. if b then s2 else settle most_taken old.route.own now s2) (phase_is mid k2 s2 r ∙ e)))
          (subst (λ (x : LinkRoute). EntryStands new k3 (settle most_taken x.own now s2)) g.route (more.goes s2 r));
    }

-- ---- steps that tell nothing

pub quietly : (route : LinkRoute) (i : Input) (now : ℕ) (old mid new : LinkOf) (fs fs2 : List Written) →
    LinkGoes i now old mid → (held_of mid).notice ≡ None → held_of new ≡ record (held_of mid) { outs = [] } →
    fs2 ≡ fs ++ gone_out (size_of mid) route (held_of mid) → GoesQuietly (size_of old) route i now (held_of old) (held_of new) fs fs2
quietly route i now old mid new fs fs2 done quiet e out s stands =
    let x = done.does s stands in
    let outs : (step s i now).outs ≡ map (frame_of (size_of old)) (held_of mid).outs = ap (λ (g : Effect). g.outs) x.keeps.is in
    let sent_frames : fs2 ≡ fs ++ gone_out (size_of old) route (held_of mid) = subst (λ n. fs2 ≡ fs ++ gone_out n route (held_of mid)) done.size out in
    record {
      link = record {
        keeps = record { before = x.keeps.before; received = x.keeps.received; acked = rw e x.keeps.acked; got = rw e x.keeps.got; is = rw e (ap (λ (g : Effect). g.link) x.keeps.is) };
        bounds = x.bounds;
        sized = x.sized;
      };
      frames = rw (sent_frames, outs) refl;
      notes = ap (λ (g : Effect). g.notes) x.keeps.is ∙ ap option_to_list quiet;
    }
