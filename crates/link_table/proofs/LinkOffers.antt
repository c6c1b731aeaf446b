-- What is offered to a link, and what ends one without a frame or hands it one.
use Rattle.std.proofs.Common.{◌≡◌, ℕ, suc, ◌≤◌, ◌<◌, Bool, true, false, cond, List, [], ◌∷◌, ◌++◌, length, map, min, ◌&&◌, is_some, nat_le, Option, Some, None, refl, ap, sym, ◌∙◌, subst, arith, if◌then◌else◌}
use Rattle.std.specs.Map.{lookup, set_value, remove_entry}
use Rattle.ax_address.specs.Callsign.{Callsign, same_call}
use Rattle.arrayvec.specs.ArrayVec.{ArrayVec}
use Rattle.ax_address.specs.declared.address.Address.{Address}
use Rattle.std.proofs.lemmas.Bool.Decides.{nat_tests}
use Rattle.ax_frame.specs.Frames.{Frame as AirFrame}
use Rattle.link_table.specs.Frames.{Sent}
use Rattle.ax_link.specs.declared.notice.LinkNotice.{LinkNotice}
use Rattle.link_table.specs.declared.entry.LinkEntry.{LinkEntry}
use Rattle.link_table.specs.declared.held_links.HeldLinks.{HeldLinks}
use Rattle.link_table.specs.declared.pending.Pending.{Pending}
use Rattle.link_table.specs.Table.{written, Linked, Table, path_to, link_with, with_link, without}
use Rattle.link_table.specs.Calls.{Offering, at_link, end, link_frame, made, offer, offer_link, offer_standing, offer_ui, set_up_link, set_up_over, pack, most_links}
use Rattle.link_table.specs.declared.route.LinkRoute.{LinkRoute}
use Rattle.ax_link.specs.State.{count_end}
use Rattle.radio_base.specs.declared.payload.Payload.{Payload}
use Rattle.std.proofs.lemmas.List.{map-append}
use Rattle.ax_link.specs.declared.phase.LinkPhase.{LinkPhase}
use Rattle.ax_link.specs.declared.phase.LinkPhase.TheVariants.{Down, SettingUp, Up, Releasing}
use Rattle.ax_link.specs.State.{State, begin}
use Rattle.ax_link.specs.Table.{Input, Send, Set_up, accept, may_close, set_up_in, step, takes}
use Rattle.ax_link.specs.Standing.{IsDrained, LinkView, StandsFor}
use Rattle.ax_segment.specs.Joining.{IsWithin}
use Rattle.l3_datagram.specs.Datagrams.{Datagram}
use Rattle.l3_datagram.specs.declared.carrier.Offered.{Offered}
use Rattle.l3_datagram.specs.declared.carrier.Offered.TheVariants.{Taken, Dropped}
use Rattle.radio_base.specs.Modulus.{modulus_size}
use Rattle.link_table.specs.Standing.{kept_size, GoesQuietly, Offers, SameEntry, CoreGoes, AllDrained, CoreStands, EntryGoes, EntryStands, LinkStands, LinksStand, Rests, drop_if_down, held_of, size_of}
use Rattle.link_table.specs.Works.{arrive_at_link, is_down, joiner_after, lost_by, emit, step_link, tell}
use Rattle.link_table.proofs.Links.{Found, SameNode, at_link_stands, down_set, drained_removed, drained_set, few_removed, few_set, found, none_found, removed, set}

-- ---- what is offered to a link

pub append_none : {A : Type 0} (xs : List A) → xs ++ [] ≡ xs
append_none [] = refl
append_none (x ∷ xs) = ap (λ ys. x ∷ ys) (append_none xs)

pub entry_quietly : (i : Input) (now : ℕ) (e e2 : LinkEntry) (k k2 : Pending) → SameEntry e e2 →
    GoesQuietly (size_of e.link) e.route i now (held_of e.link) (held_of e2.link) k.frames.items k2.frames.items →
    k2.waiting.items ≡ k.waiting.items → k2.lost.items ≡ k.lost.items → k2.notices.items ≡ k.notices.items →
    EntryGoes (step_link e.route.own i now) e e2 k k2
entry_quietly i now e e2 k k2 same goes waiting lost notices =
    record {
      route = same.route;
      size = same.size;
      goes = λ w s.
          let q = goes w.linked.link s.link in
          let before : w.linked.link.rules.size ≡ size_of e.link = ap (λ (x : State). x.rules.size) s.link.keeps.is in
          record {
            peer = s.peer ∙ sym (ap (λ (r : LinkRoute). r.peer) same.route);
            path = s.path ∙ sym (ap (λ (r : LinkRoute). r.path) same.route);
            link = subst (λ n. StandsFor n (held_of e2.link) (step w.linked.link i now).link) (sym same.size) q.link;
            joiner = ap (λ ns. joiner_after ns w.linked.joiner) q.notes ∙ s.joiner ∙ sym same.joiner;
            called = s.called ∙ sym same.called;
            within = subst IsWithin (sym same.joiner) s.within;
            pending = record {
              waiting = waiting ∙ s.pending.waiting;
              lost = lost ∙ s.pending.lost ∙ sym (append_none w.pending.lost) ∙ sym (ap (λ ns. w.pending.lost ++ lost_by w.linked.peer ns) q.notes);
              notices = notices ∙ s.pending.notices ∙ sym (append_none w.pending.notices) ∙ sym (ap (λ ns. w.pending.notices ++ map (λ n. (w.linked.peer, n)) ns) q.notes);
              frames = rw (q.frames, s.pending.frames, before, s.peer, s.path) (sym (map-append written _ _));
            };
          };
    }

-- an entry that isn't Down stays
pub not_down_left : (peer : Callsign) (es : List (Callsign × LinkEntry)) (e w : LinkEntry) → lookup (same_call peer) es ≡ Some e → is_down (held_of w.link).phase ≡ false →
    set_value (same_call peer) es w ≡ drop_if_down peer (set_value (same_call peer) es w)
not_down_left peer es e w q d = sym (ap (λ b. if b then remove_entry (same_call peer) (set_value (same_call peer) es w) else set_value (same_call peer) es w) (down_set peer es e w q ∙ d))

set_up_phase : (phase : LinkPhase) (now : ℕ) (s : State) → s.phase ≡ phase → is_down (set_up_in phase now (begin s)).link.phase ≡ false
set_up_phase Down now s e = refl
set_up_phase SettingUp now s e = ap is_down e
set_up_phase Up now s e = ap is_down e
set_up_phase Releasing now s e = ap is_down e

pub set_up_stays : (now : ℕ) (s : State) → is_down (step s Set_up now).link.phase ≡ false
set_up_stays now s = set_up_phase s.phase (min now count_end) s refl

takes_phase : (phase : LinkPhase) (b : Bool) → (may_close phase && b) ≡ true → is_down phase ≡ false
takes_phase Down b e = absurd (cc e)
takes_phase SettingUp b e = refl
takes_phase Up b e = refl
takes_phase Releasing b e = absurd (cc e)

pub send_stays : (now : ℕ) (p : Payload) (s : State) → takes s ≡ true → is_down (step s (Send p) now).link.phase ≡ false
send_stays now p s e =
    ap (λ b. is_down (if b then accept (min now count_end) p (begin s) else begin s).link.phase) e ∙ takes_phase s.phase _ e

-- a step that tells nothing and leaves the link standing
pub quiet_at : (c c2 : HeldLinks) (peer : Callsign) (e e2 : LinkEntry) (i : Input) (now : ℕ) →
    lookup (same_call peer) c.links.entries ≡ Some e → SameEntry e e2 →
    GoesQuietly (size_of e.link) e.route i now (held_of e.link) (held_of e2.link) c.pending.frames.items c2.pending.frames.items →
    c2.pending.waiting.items ≡ c.pending.waiting.items → c2.pending.lost.items ≡ c.pending.lost.items → c2.pending.notices.items ≡ c.pending.notices.items →
    SameNode c c2 → c2.links.entries ≡ set_value (same_call peer) c.links.entries e2 →
    (t : Table) → CoreStands c t → ((l : Linked) → link_with peer t.links ≡ Some l → is_down (step l.link i now).link.phase ≡ false) →
    CoreStands c2 (at_link peer (step_link t.own i now) t)
quiet_at c c2 peer e e2 i now there same goes waiting lost notices n entries t s stays =
    let f : Found c.own peer e t.links = found c.own peer c.links.entries t.links e s.links there in
    let q = goes f.link.link f.stands.link in
    let up : is_down (held_of e2.link).phase ≡ false = sym (ap (λ (x : State). is_down x.phase) q.link.keeps.is) ∙ stays f.link f.with in
    at_link_stands c c2 peer e e2 c2.pending (λ own. step_link own i now) there (entry_quietly i now e e2 c.pending c2.pending same goes waiting lost notices) refl n
    (entries ∙ not_down_left peer c.links.entries e e2 there up) t s

pub rests_set : (c c2 : HeldLinks) (peer : Callsign) (e2 : LinkEntry) → Rests c → IsDrained (held_of e2.link) →
    c2.links.entries ≡ set_value (same_call peer) c.links.entries e2 → Rests c2
rests_set c c2 peer e2 r d q =
    record {
      drained = subst AllDrained (sym q) (drained_set peer c.links.entries e2 r.drained d);
      few = subst (λ xs. length xs ≤ most_links) (sym q) (subst (λ n. n ≤ most_links) (sym (few_set peer c.links.entries e2)) r.few);
    }

with_same : (peer : Callsign) (ls : List Linked) (l : Linked) → link_with peer ls ≡ Some l → with_link peer l ls ≡ ls
with_same peer [] l q = refl
with_same peer (m ∷ ls) l q = by (same_call peer m.peer) q (λ r. with_same peer ls l r)
  where
    by : (b : Bool) → (if b then Some m else link_with peer ls) ≡ Some l → (link_with peer ls ≡ Some l → with_link peer l ls ≡ ls) → (if b then l ∷ ls else m ∷ with_link peer l ls) ≡ m ∷ ls
    by true r rest = let same : m ≡ l = cc r in ap (λ (x : Linked). x ∷ ls) (sym same)
    by false r rest = ap (λ xs. m ∷ xs) (rest r)

-- a payload was offered to the link that stands
pub offer_at : (c c2 : HeldLinks) (peer : Callsign) (e e2 : LinkEntry) (d : Datagram) (now : ℕ) (answer : Offered) →
    lookup (same_call peer) c.links.entries ≡ Some e → SameEntry e e2 →
    Offers (size_of e.link) e.route (pack d) now (held_of e.link) (held_of e2.link) c.pending.frames.items c2.pending.frames.items answer →
    c2.pending.waiting.items ≡ c.pending.waiting.items → c2.pending.lost.items ≡ c.pending.lost.items → c2.pending.notices.items ≡ c.pending.notices.items →
    SameNode c c2 → c2.links.entries ≡ set_value (same_call peer) c.links.entries e2 →
    (t : Table) → CoreStands c t → (answer ≡ (offer_standing peer d now t).answer) × CoreStands c2 (offer_standing peer d now t).table
offer_at c c2 peer e e2 d now Taken there same offers waiting lost notices n entries t s =
    let f : Found c.own peer e t.links = found c.own peer c.links.entries t.links e s.links there in
    let yes : Offering = record { answer = Taken; table = at_link peer (step_link t.own (Send (pack d)) now) t } in
    let no : Offering = record { answer = Dropped; table = t } in
    let is : offer_standing peer d now t ≡ yes =
    ap (λ x. elim x as (λ y. Offering) [ None ↦ no | Some l ↦ if takes l.link then yes else no ]) f.with ∙ ap (λ b. if b then yes else no) (offers.0 f.link.link f.stands.link) in
    subst (λ (o : Offering). (Taken ≡ o.answer) × CoreStands c2 o.table) (sym is) (
      refl,
      quiet_at c c2 peer e e2 (Send (pack d)) now there same offers.1 waiting lost notices n entries t s
          (λ l q. let one : f.link ≡ l = cc (sym f.with ∙ q) in send_stays now (pack d) l.link (subst (λ (x : Linked). takes x.link ≡ true) one (offers.0 f.link.link f.stands.link))),
    )
offer_at c c2 peer e e2 d now Dropped there same offers waiting lost notices n entries t s =
    let f : Found c.own peer e t.links = found c.own peer c.links.entries t.links e s.links there in
    let yes : Offering = record { answer = Taken; table = at_link peer (step_link t.own (Send (pack d)) now) t } in
    let no : Offering = record { answer = Dropped; table = t } in
    let is : offer_standing peer d now t ≡ no =
    ap (λ x. elim x as (λ y. Offering) [ None ↦ no | Some l ↦ if takes l.link then yes else no ]) f.with ∙ ap (λ b. if b then yes else no) (offers.0 f.link.link f.stands.link) in
    let one : (k : Callsign) → e.route.peer ≡ k → LinkStands c.own k e2 f.link = λ k q.
    record {
      own = ap (λ (r : LinkRoute). r.own) same.route ∙ f.stands.own;
      peer = ap (λ (r : LinkRoute). r.peer) same.route ∙ q;
      is = f.stands.is ∙ sym f.stands.peer ∙ q;
      path = f.stands.path ∙ sym (ap (λ (r : LinkRoute). r.path) same.route);
      link = subst (λ m. StandsFor m (held_of e2.link) f.link.link) (sym same.size) (subst (λ (h : LinkView). StandsFor (size_of e.link) h f.link.link) (sym offers.1) f.stands.link);
      joiner = f.stands.joiner ∙ sym same.joiner;
      called = f.stands.called ∙ sym same.called;
      within = subst IsWithin (sym same.joiner) f.stands.within;
    } in
    let links : LinksStand c.own (set_value (same_call peer) c.links.entries e2) t.links =
    subst (λ ls. LinksStand c.own (set_value (same_call peer) c.links.entries e2) ls) (with_same peer t.links f.link f.with)
    (set c.own peer c.links.entries t.links e2 f.link s.links (λ e3 q g. let a : e3 ≡ e = cc (sym q ∙ there) in one g.key (subst (λ (y : LinkEntry). y.route.peer ≡ g.key) a g.stands.peer))) in
    subst (λ (o : Offering). (Dropped ≡ o.answer) × CoreStands c2 o.table) (sym is) (
      refl,
      record {
        own = s.own ∙ sym n.own;
        by_links = s.by_links ∙ sym n.by_links;
        size = s.size ∙ ap kept_size (sym n.modulus);
        config = s.config ∙ sym n.config;
        links = rw (n.own, entries) links;
        paths = s.paths ∙ sym n.paths;
        pending = record { waiting = waiting ∙ s.pending.waiting; lost = lost ∙ s.pending.lost; notices = notices ∙ s.pending.notices; frames = offers.2 ∙ s.pending.frames };
      },
    )

-- where no link stands it is dropped
pub offer_at_none : (c c2 : HeldLinks) (peer : Callsign) (d : Datagram) (now : ℕ) → lookup (same_call peer) c.links.entries ≡ None →
    CoreGoes (λ t. t) c c2 → (t : Table) → CoreStands c t → (Dropped ≡ (offer_standing peer d now t).answer) × CoreStands c2 (offer_standing peer d now t).table
offer_at_none c c2 peer d now none goes t s =
    let yes : Offering = record { answer = Taken; table = at_link peer (step_link t.own (Send (pack d)) now) t } in
    let no : Offering = record { answer = Dropped; table = t } in
    subst (λ (o : Offering). (Dropped ≡ o.answer) × CoreStands c2 o.table)
    (sym (ap (λ x. elim x as (λ y. Offering) [ None ↦ no | Some l ↦ if takes l.link then yes else no ]) (none_found c.own peer c.links.entries t.links s.links none)))
    (refl, goes t s)

-- nothing has changed
pub unchanged : (c c2 : HeldLinks) → SameNode c c2 → c2.links.entries ≡ c.links.entries → c2.pending ≡ c.pending → CoreGoes (λ t. t) c c2
unchanged c c2 n entries pending t s =
    record {
      own = s.own ∙ sym n.own;
      by_links = s.by_links ∙ sym n.by_links;
      size = s.size ∙ ap kept_size (sym n.modulus);
      config = s.config ∙ sym n.config;
      links = rw (n.own, entries) s.links;
      paths = s.paths ∙ sym n.paths;
      pending = rw pending s.pending;
    }

pub same_length : (own : Callsign) (es : List (Callsign × LinkEntry)) (ls : List Linked) → LinksStand own es ls → length es ≡ length ls
same_length own [] [] s = refl
same_length own [] (l ∷ ls) s = absurd s
same_length own (e ∷ es) [] s = absurd s
same_length own (e ∷ es) (l ∷ ls) s = ap suc (same_length own es ls s.1)

-- a new link, set up over these repeaters
pub opens : (c c2 c3 : HeldLinks) (to : Callsign) (path : ArrayVec Address) (now : ℕ) →
    CoreGoes (made to (modulus_size c.modulus) path) c c2 → CoreGoes (λ t. at_link to (step_link t.own Set_up now) t) c2 c3 → CoreGoes (set_up_over to path now) c c3
unfolding kept_size
opens c c2 c3 to path now first next t s =
    let size : modulus_size c.modulus ≡ t.size = sym s.size in
    subst (λ n. CoreStands c3 (at_link to (step_link t.own Set_up now) (made to n path t))) size (next (made to (modulus_size c.modulus) path t) (first t s))

-- or over those that are set for the peer
pub opens_set : (c c2 : HeldLinks) (to : Callsign) (path : ArrayVec Address) (now : ℕ) → path ≡ path_to to c.paths.entries → CoreGoes (set_up_over to path now) c c2 → CoreGoes (set_up_link to now) c c2
opens_set c c2 to path now e goes t s = subst (λ (p : ArrayVec Address). CoreStands c2 (set_up_over to p now t)) (e ∙ ap (path_to to) (sym s.paths)) (goes t s)

pub some_looks : (x : Option LinkEntry) → is_some x ≡ false → x ≡ None
some_looks None e = refl
some_looks (Some y) e = absurd (cc e)

pub entry_looks : (x : Option LinkEntry) → is_some x ≡ true → (e : LinkEntry) × (x ≡ Some e)
entry_looks None e = absurd (cc e)
entry_looks (Some y) e = (y, refl)

pub looked_none : (c c2 : HeldLinks) (peer : Callsign) (answer : Option Offered) → is_some answer ≡ is_some (lookup (same_call peer) c.links.entries) → answer ≡ None → c2 ≡ c →
    lookup (same_call peer) c2.links.entries ≡ None
looked_none c c2 peer answer e none same = ap (λ (x : HeldLinks). lookup (same_call peer) x.links.entries) same ∙ some_looks _ (sym e ∙ ap is_some none)

-- what an offer comes to, by whether a link stands
pub offers_standing : (c c2 : HeldLinks) (to : Callsign) (d : Datagram) (now : ℕ) (answer : Offered) (b : Bool) → b ≡ is_some (lookup (same_call to) c.links.entries) → b ≡ true →
    ((t : Table) → CoreStands c t → (answer ≡ (offer_standing to d now t).answer) × CoreStands c2 (offer_standing to d now t).table) →
    (t : Table) → CoreStands c t → (answer ≡ (offer_link to d now t).answer) × CoreStands c2 (offer_link to d now t).table
offers_standing c c2 to d now answer b e f offers t s =
    let x = entry_looks _ (sym e ∙ f) in
    let y : Found c.own to x.0 t.links = found c.own to c.links.entries t.links x.0 s.links x.1 in
    let no : Offering = if nat_le most_links (length t.links) then record { answer = Dropped; table = t } else offer_standing to d now (set_up_link to now t) in
    subst (λ (o : Offering). (answer ≡ o.answer) × CoreStands c2 o.table)
    (sym (ap (λ z. elim z as (λ y. Offering) [ None ↦ no | Some l ↦ offer_standing to d now t ]) y.with)) (offers t s)

offer_link_none : (c : HeldLinks) (to : Callsign) (d : Datagram) (now : ℕ) (full : Bool) (t : Table) → CoreStands c t → lookup (same_call to) c.links.entries ≡ None →
    nat_le most_links (length c.links.entries) ≡ full →
    offer_link to d now t ≡ (if full then record { answer = Dropped; table = t } else offer_standing to d now (set_up_link to now t))
offer_link_none c to d now full t s none e =
    let no : Bool → Offering = λ b. if b then record { answer = Dropped; table = t } else offer_standing to d now (set_up_link to now t) in
    ap (λ z. elim z as (λ y. Offering) [ None ↦ no (nat_le most_links (length t.links)) | Some l ↦ offer_standing to d now t ]) (none_found c.own to c.links.entries t.links s.links none)
    ∙ ap no (ap (nat_le most_links) (sym (same_length c.own c.links.entries t.links s.links)) ∙ e)

pub offers_full : (c : HeldLinks) (to : Callsign) (d : Datagram) (now : ℕ) → lookup (same_call to) c.links.entries ≡ None → most_links ≤ length c.links.entries →
    (t : Table) → CoreStands c t → (Dropped ≡ (offer_link to d now t).answer) × CoreStands c (offer_link to d now t).table
offers_full c to d now none l t s =
    subst (λ (o : Offering). (Dropped ≡ o.answer) × CoreStands c o.table) (sym (offer_link_none c to d now true t s none (grind (arith, nat_tests, l)))) (refl, s)

pub offers_new : (c c2 : HeldLinks) (to : Callsign) (d : Datagram) (now : ℕ) (answer : Offered) → lookup (same_call to) c.links.entries ≡ None → length c.links.entries < most_links →
    ((t : Table) → CoreStands c t → (answer ≡ (offer_standing to d now (set_up_link to now t)).answer) × CoreStands c2 (offer_standing to d now (set_up_link to now t)).table) →
    (t : Table) → CoreStands c t → (answer ≡ (offer_link to d now t).answer) × CoreStands c2 (offer_link to d now t).table
offers_new c c2 to d now answer none l offers t s =
    subst (λ (o : Offering). (answer ≡ o.answer) × CoreStands c2 o.table) (sym (offer_link_none c to d now false t s none (grind (arith, nat_tests, l)))) (offers t s)

-- where no link stands nothing was changed first
pub offers_later : (c c2 c3 : HeldLinks) (to : Callsign) (d : Datagram) (now : ℕ) (answer : Offered) → c2 ≡ c →
    ((t : Table) → CoreStands c2 t → (answer ≡ (offer_link to d now t).answer) × CoreStands c3 (offer_link to d now t).table) →
    (t : Table) → CoreStands c t → (answer ≡ (offer_link to d now t).answer) × CoreStands c3 (offer_link to d now t).table
offers_later c c2 c3 to d now answer same offers t s = offers t (subst (λ (x : HeldLinks). CoreStands x t) (sym same) s)

-- by links or without
pub offers_by_links : (c c2 : HeldLinks) (to : Callsign) (d : Datagram) (now : ℕ) (answer : Offered) → c.by_links ≡ true →
    ((t : Table) → CoreStands c t → (answer ≡ (offer_link to d now t).answer) × CoreStands c2 (offer_link to d now t).table) →
    (t : Table) → CoreStands c t → (answer ≡ (offer to d now t).answer) × CoreStands c2 (offer to d now t).table
offers_by_links c c2 to d now answer e offers t s =
    subst (λ (o : Offering). (answer ≡ o.answer) × CoreStands c2 o.table)
    (sym (ap (λ b. if b then offer_link to d now t else record { answer = Taken; table = offer_ui to d t }) (s.by_links ∙ e))) (offers t s)

pub offers_without : (c c2 : HeldLinks) (to : Callsign) (d : Datagram) (now : ℕ) → c.by_links ≡ false → CoreGoes (offer_ui to d) c c2 →
    (t : Table) → CoreStands c t → (Taken ≡ (offer to d now t).answer) × CoreStands c2 (offer to d now t).table
offers_without c c2 to d now e goes t s =
    subst (λ (o : Offering). (Taken ≡ o.answer) × CoreStands c2 o.table)
    (sym (ap (λ b. if b then offer_link to d now t else record { answer = Taken; table = offer_ui to d t }) (s.by_links ∙ e))) (refl, goes t s)

-- ---- a link ends without a frame

removed_absent : (peer : Callsign) (es : List (Callsign × LinkEntry)) → lookup (same_call peer) es ≡ None → remove_entry (same_call peer) es ≡ es
removed_absent peer [] q = refl
removed_absent peer (x ∷ es) q = by (same_call peer x.0) q (λ r. removed_absent peer es r)
  where
    by : (b : Bool) → cond b (Some x.1) (lookup (same_call peer) es) ≡ None → (lookup (same_call peer) es ≡ None → remove_entry (same_call peer) es ≡ es) →
        cond b es (x ∷ remove_entry (same_call peer) es) ≡ x ∷ es
    by true r rest = absurd (cc r)
    by false r rest = ap (λ ys. x ∷ ys) (rest r)

pub rests_removed : (c c2 : HeldLinks) (peer : Callsign) → Rests c → c2.links.entries ≡ remove_entry (same_call peer) c.links.entries → Rests c2
rests_removed c c2 peer r q =
    record {
      drained = subst AllDrained (sym q) (drained_removed peer c.links.entries r.drained);
      few = subst (λ xs. length xs ≤ most_links) (sym q) (omega (arith, r.few, few_removed peer c.links.entries));
    }

pub ends : (c c2 : HeldLinks) (peer : Callsign) (notices : List LinkNotice) (b : Bool) → b ≡ is_some (lookup (same_call peer) c.links.entries) → b ≡ true → SameNode c c2 →
    c2.links.entries ≡ remove_entry (same_call peer) c.links.entries → c2.pending.waiting.items ≡ c.pending.waiting.items →
    c2.pending.lost.items ≡ c.pending.lost.items ++ lost_by peer notices → c2.pending.notices.items ≡ c.pending.notices.items ++ map (λ n. (peer, n)) notices →
    c2.pending.frames.items ≡ c.pending.frames.items → CoreGoes (end peer notices) c c2
ends c c2 peer ns b e f n entries waiting lost notices frames t s =
    let x = entry_looks _ (sym e ∙ f) in
    let y : Found c.own peer x.0 t.links = found c.own peer c.links.entries t.links x.0 s.links x.1 in
    subst (CoreStands c2)
    (sym (ap (λ z. elim z as (λ q. Table) [ None ↦ t | Some l ↦ record t { links = without peer t.links; pending = tell peer ns t.pending } ]) y.with))
    (record {
      own = s.own ∙ sym n.own;
      by_links = s.by_links ∙ sym n.by_links;
      size = s.size ∙ ap kept_size (sym n.modulus);
      config = s.config ∙ sym n.config;
      links = rw (n.own, entries) (removed c.own peer c.links.entries t.links s.links);
      paths = s.paths ∙ sym n.paths;
      pending = record {
        waiting = waiting ∙ s.pending.waiting;
        lost = lost ∙ ap (λ xs. xs ++ lost_by peer ns) s.pending.lost;
        notices = notices ∙ ap (λ xs. xs ++ map (λ m. (peer, m)) ns) s.pending.notices;
        frames = frames ∙ s.pending.frames;
      };
    })

pub ends_none : (c c2 : HeldLinks) (peer : Callsign) (notices : List LinkNotice) (b : Bool) → b ≡ is_some (lookup (same_call peer) c.links.entries) → b ≡ false → SameNode c c2 →
    c2.links.entries ≡ remove_entry (same_call peer) c.links.entries → c2.pending ≡ c.pending → CoreGoes (end peer notices) c c2
ends_none c c2 peer ns b e f n entries pending t s =
    let none : lookup (same_call peer) c.links.entries ≡ None = some_looks _ (sym e ∙ f) in
    subst (CoreStands c2)
    (sym (ap (λ z. elim z as (λ q. Table) [ None ↦ t | Some l ↦ record t { links = without peer t.links; pending = tell peer ns t.pending } ]) (none_found c.own peer c.links.entries t.links s.links none)))
    (unchanged c c2 n (entries ∙ removed_absent peer c.links.entries none) pending t s)

-- ---- a frame to the link with its source

pub sized : (f : AirFrame) (now : ℕ) (e e2 : LinkEntry) (k k2 : Pending) → EntryGoes (arrive_at_link e.route.own (link_frame (size_of e.link) f) now) e e2 k k2 →
    EntryGoes (λ w. arrive_at_link e.route.own (link_frame w.linked.link.rules.size f) now w) e e2 k k2
sized f now e e2 k k2 g =
    record {
      route = g.route;
      size = g.size;
      goes = λ w s.
          let is : size_of e.link ≡ w.linked.link.rules.size = sym (ap (λ (x : State). x.rules.size) s.link.keeps.is) in
          subst (λ n. EntryStands e2 k2 (arrive_at_link e.route.own (link_frame n f) now w)) is (g.goes w s);
    }

-- what the node itself puts out
pub puts_out : (c c2 : HeldLinks) (sents : Callsign → List Sent) → SameNode c c2 → c2.links.entries ≡ c.links.entries → c2.pending.waiting.items ≡ c.pending.waiting.items →
    c2.pending.lost.items ≡ c.pending.lost.items → c2.pending.notices.items ≡ c.pending.notices.items →
    c2.pending.frames.items ≡ c.pending.frames.items ++ map written (sents c.own) → CoreGoes (λ t. record t { pending = emit (sents t.own) t.pending }) c c2
puts_out c c2 sents n entries waiting lost notices frames t s =
    record {
      own = s.own ∙ sym n.own;
      by_links = s.by_links ∙ sym n.by_links;
      size = s.size ∙ ap kept_size (sym n.modulus);
      config = s.config ∙ sym n.config;
      links = rw (n.own, entries) s.links;
      paths = s.paths ∙ sym n.paths;
      pending = record {
        waiting = waiting ∙ s.pending.waiting;
        lost = lost ∙ s.pending.lost;
        notices = notices ∙ s.pending.notices;
        frames = rw (frames, s.own, s.pending.frames) (sym (map-append written _ _));
      };
    }
