-- Links by peer, as the map has them and as the table has them.
use Rattle.std.proofs.Common.{◌≡◌, ℕ, suc, ◌≤◌, ◌<◌, Bool, true, false, cond, List, [], ◌∷◌, ◌++◌, length, map, Some, None, refl, ap, sym, ◌∙◌, subst, arith, if◌then◌else◌}
use Rattle.std.specs.Map.{keys_of, lookup, set_value, remove_entry}
use Rattle.ax_address.specs.Callsign.{Callsign, same_call}
use Rattle.ax_link.specs.Opening.{opening, rules_new}
use Rattle.link_table.specs.declared.entry.LinkEntry.{LinkEntry}
use Rattle.link_table.specs.declared.held_links.HeldLinks.{HeldLinks}
use Rattle.link_table.specs.declared.pending.Pending.{Pending}
use Rattle.link_table.specs.Table.{PendingStands, Linked, Table, link_with, with_link, without}
use Rattle.link_table.specs.Calls.{at_link, made, keep, most_links, tick, tick_each}
use Rattle.ax_segment.specs.Joining.{Nothing, IsWithin}
use Rattle.link_table.specs.declared.route.LinkRoute.{LinkRoute}
use Rattle.ax_link.specs.State.{State}
use Rattle.ax_link.specs.Table.{Tick}
use Rattle.ax_link.specs.Standing.{IsDrained, StandsFor}
use Rattle.link_table.specs.Standing.{kept_size, CoreGoes, AllDrained, CoreStands, EntryGoes, EntryStands, LinkStands, LinksStand, Rests, down_at, down_by, drop_if_down, held_of, size_of}
use Rattle.link_table.specs.Works.{Work, is_down, step_link}

module _ (own peer : Callsign) where
  -- the link that the map has stands for the one that the table has
  pub record Found (e : LinkEntry) (ls : List Linked) : Type 0 where
    pub key : Callsign
    pub link : Linked
    pub with : link_with peer ls ≡ Some link
    pub stands : LinkStands own key e link

  found_by : (b : Bool) (k : Callsign) (x e : LinkEntry) (es : List (Callsign × LinkEntry)) (l : Linked) (ls : List Linked) → same_call peer k ≡ b →
      LinkStands own k x l → (lookup (same_call peer) es ≡ Some e → Found e ls) → cond b (Some x) (lookup (same_call peer) es) ≡ Some e → Found e (l ∷ ls)
  found_by true k x e es l ls t s rest q =
      record { key = k; link = l; with = rw (s.is, t) refl; stands = let same : x ≡ e = cc q in subst (λ (y : LinkEntry). LinkStands own k y l) same s }
  found_by false k x e es l ls t s rest q =
      let f = rest q in record { key = f.key; link = f.link; with = rw (s.is, t) f.with; stands = f.stands }

  pub found : (es : List (Callsign × LinkEntry)) (ls : List Linked) (e : LinkEntry) → LinksStand own es ls → lookup (same_call peer) es ≡ Some e → Found e ls
  found [] ls e s q = absurd (cc q)
  found (x ∷ es) [] e s q = absurd s
  found (x ∷ es) (l ∷ ls) e s q = found_by (same_call peer x.0) x.0 x.1 e es l ls refl s.0 (found es ls e s.1) q

  pub none_found : (es : List (Callsign × LinkEntry)) (ls : List Linked) → LinksStand own es ls → lookup (same_call peer) es ≡ None → link_with peer ls ≡ None
  none_found [] [] s q = refl
  none_found [] (l ∷ ls) s q = absurd s
  none_found (x ∷ es) [] s q = absurd s
  none_found (x ∷ es) (l ∷ ls) s q = subst (λ (k : Callsign). (if same_call peer k then Some l else link_with peer ls) ≡ None) (sym s.0.is) (by (same_call peer x.0) q (λ r. none_found es ls s.1 r))
    where
      by : (b : Bool) → cond b (Some x.1) (lookup (same_call peer) es) ≡ None → (lookup (same_call peer) es ≡ None → link_with peer ls ≡ None) →
          (if b then Some l else link_with peer ls) ≡ None
      by true r rest = absurd (cc r)
      by false r rest = rest r

  -- another entry and another link in the place of those with the peer
  pub set : (es : List (Callsign × LinkEntry)) (ls : List Linked) (e2 : LinkEntry) (l2 : Linked) → LinksStand own es ls →
      ((e : LinkEntry) → lookup (same_call peer) es ≡ Some e → (f : Found e ls) → LinkStands own f.key e2 l2) →
      LinksStand own (set_value (same_call peer) es e2) (with_link peer l2 ls)
  set [] [] e2 l2 s h = tt
  set [] (l ∷ ls) e2 l2 s h = absurd s
  set (x ∷ es) [] e2 l2 s h = absurd s
  set (x ∷ es) (l ∷ ls) e2 l2 s h =
      subst (λ (k : Callsign). LinksStand own (set_value (same_call peer) (x ∷ es) e2) (if same_call peer k then l2 ∷ ls else l ∷ with_link peer l2 ls)) (sym s.0.is)
      (by (same_call peer x.0) refl (λ g. set es ls e2 l2 s.1 g))
    where
      by : (b : Bool) → same_call peer x.0 ≡ b →
          (((e : LinkEntry) → lookup (same_call peer) es ≡ Some e → (f : Found e ls) → LinkStands own f.key e2 l2) → LinksStand own (set_value (same_call peer) es e2) (with_link peer l2 ls)) →
          LinksStand own (cond b ((x.0, e2) ∷ es) (x ∷ set_value (same_call peer) es e2)) (if b then l2 ∷ ls else l ∷ with_link peer l2 ls)
      by true t rest = (h x.1 (rw t refl) (record { key = x.0; link = l; with = rw (s.0.is, t) refl; stands = s.0 }), s.1)
      by false t rest = (s.0, rest (λ e q f. h e (rw t q) (record { key = f.key; link = f.link; with = rw (s.0.is, t) f.with; stands = f.stands })))

  pub removed : (es : List (Callsign × LinkEntry)) (ls : List Linked) → LinksStand own es ls → LinksStand own (remove_entry (same_call peer) es) (without peer ls)
  removed [] [] s = tt
  removed [] (l ∷ ls) s = absurd s
  removed (x ∷ es) [] s = absurd s
  removed (x ∷ es) (l ∷ ls) s =
      subst (λ (k : Callsign). LinksStand own (remove_entry (same_call peer) (x ∷ es)) (if same_call peer k then ls else l ∷ without peer ls)) (sym s.0.is)
      (by (same_call peer x.0) (removed es ls s.1))
    where
      by : (b : Bool) → LinksStand own (remove_entry (same_call peer) es) (without peer ls) →
          LinksStand own (cond b es (x ∷ remove_entry (same_call peer) es)) (if b then ls else l ∷ without peer ls)
      by true rest = s.1
      by false rest = (s.0, rest)

module _ (peer : Callsign) where
  pub removed_set : (es : List (Callsign × LinkEntry)) (w : LinkEntry) → remove_entry (same_call peer) (set_value (same_call peer) es w) ≡ remove_entry (same_call peer) es
  removed_set [] w = refl
  removed_set (x ∷ es) w = by (same_call peer x.0) refl (removed_set es w)
    where
      by : (b : Bool) → same_call peer x.0 ≡ b → remove_entry (same_call peer) (set_value (same_call peer) es w) ≡ remove_entry (same_call peer) es →
          remove_entry (same_call peer) (cond b ((x.0, w) ∷ es) (x ∷ set_value (same_call peer) es w)) ≡ cond b es (x ∷ remove_entry (same_call peer) es)
      by true t rest = ap (λ c. cond c es ((x.0, w) ∷ remove_entry (same_call peer) es)) t
      by false t rest = ap (λ c. cond c (set_value (same_call peer) es w) (x ∷ remove_entry (same_call peer) (set_value (same_call peer) es w))) t ∙ ap (λ ys. x ∷ ys) rest

  pub lookup_set : (es : List (Callsign × LinkEntry)) (e w : LinkEntry) → lookup (same_call peer) es ≡ Some e → lookup (same_call peer) (set_value (same_call peer) es w) ≡ Some w
  lookup_set [] e w q = absurd (cc q)
  lookup_set (x ∷ es) e w q = by (same_call peer x.0) refl (λ r. lookup_set es e w r)
    where
      by : (b : Bool) → same_call peer x.0 ≡ b → (lookup (same_call peer) es ≡ Some e → lookup (same_call peer) (set_value (same_call peer) es w) ≡ Some w) →
          lookup (same_call peer) (cond b ((x.0, w) ∷ es) (x ∷ set_value (same_call peer) es w)) ≡ Some w
      by true t rest = rw t refl
      by false t rest = rw t (rest (rw t at q))

  pub down_set : (es : List (Callsign × LinkEntry)) (e w : LinkEntry) → lookup (same_call peer) es ≡ Some e → down_at peer (set_value (same_call peer) es w) ≡ is_down (held_of w.link).phase
  down_set es e w q = ap down_by (lookup_set es e w q)

  pub drained_set : (es : List (Callsign × LinkEntry)) (w : LinkEntry) → AllDrained es → IsDrained (held_of w.link) → AllDrained (set_value (same_call peer) es w)
  drained_set [] w a d = tt
  drained_set (x ∷ es) w a d = by (same_call peer x.0) (drained_set es w a.1 d)
    where
      by : (b : Bool) → AllDrained (set_value (same_call peer) es w) → AllDrained (cond b ((x.0, w) ∷ es) (x ∷ set_value (same_call peer) es w))
      by true rest = (d, a.1)
      by false rest = (a.0, rest)

  pub drained_removed : (es : List (Callsign × LinkEntry)) → AllDrained es → AllDrained (remove_entry (same_call peer) es)
  drained_removed [] a = tt
  drained_removed (x ∷ es) a = by (same_call peer x.0) (drained_removed es a.1)
    where
      by : (b : Bool) → AllDrained (remove_entry (same_call peer) es) → AllDrained (cond b es (x ∷ remove_entry (same_call peer) es))
      by true rest = a.1
      by false rest = (a.0, rest)

  pub drained_at : (es : List (Callsign × LinkEntry)) (e : LinkEntry) → AllDrained es → lookup (same_call peer) es ≡ Some e → IsDrained (held_of e.link)
  drained_at [] e a q = absurd (cc q)
  drained_at (x ∷ es) e a q = by (same_call peer x.0) q (λ r. drained_at es e a.1 r)
    where
      by : (b : Bool) → cond b (Some x.1) (lookup (same_call peer) es) ≡ Some e → (lookup (same_call peer) es ≡ Some e → IsDrained (held_of e.link)) → IsDrained (held_of e.link)
      by true r rest = let same : x.1 ≡ e = cc r in subst (λ (y : LinkEntry). IsDrained (held_of y.link)) same a.0
      by false r rest = rest r

  pub few_set : (es : List (Callsign × LinkEntry)) (w : LinkEntry) → length (set_value (same_call peer) es w) ≡ length es
  few_set [] w = refl
  few_set (x ∷ es) w = by (same_call peer x.0) (few_set es w)
    where
      by : (b : Bool) → length (set_value (same_call peer) es w) ≡ length es → length (cond b ((x.0, w) ∷ es) (x ∷ set_value (same_call peer) es w)) ≡ suc (length es)
      by true rest = refl
      by false rest = ap suc rest

  pub few_removed : (es : List (Callsign × LinkEntry)) → length (remove_entry (same_call peer) es) ≤ length es
  few_removed [] = omega arith
  few_removed (x ∷ es) = by (same_call peer x.0) (few_removed es)
    where
      by : (b : Bool) → length (remove_entry (same_call peer) es) ≤ length es → length (cond b es (x ∷ remove_entry (same_call peer) es)) ≤ suc (length es)
      by true rest = omega arith
      by false rest = omega (arith, rest)

-- what stays of the node
pub record SameNode (c c2 : HeldLinks) : Type 0 where
  pub own : c2.own ≡ c.own
  pub by_links : c2.by_links ≡ c.by_links
  pub modulus : c2.modulus ≡ c.modulus
  pub config : c2.config ≡ c.config
  pub paths : c2.paths.entries ≡ c.paths.entries

-- nothing has changed, as no link stands
pub at_no_link : (c c2 : HeldLinks) (peer : Callsign) (part : Callsign → Work → Work) → lookup (same_call peer) c.links.entries ≡ None →
    SameNode c c2 → c2.links.entries ≡ c.links.entries → c2.pending ≡ c.pending →
    (t : Table) → CoreStands c t → CoreStands c2 (at_link peer (part t.own) t)
at_no_link c c2 peer part none n entries pending t s =
    subst (CoreStands c2)
    (sym (ap (λ x. elim x as (λ y. Table) [ None ↦ t | Some l ↦ keep peer (part t.own (record { linked = l; pending = t.pending })) t ]) (none_found c.own peer c.links.entries t.links s.links none)))
    (record {
      own = s.own ∙ sym n.own;
      by_links = s.by_links ∙ sym n.by_links;
      size = s.size ∙ ap kept_size (sym n.modulus);
      config = s.config ∙ sym n.config;
      links = rw (n.own, entries) s.links;
      paths = s.paths ∙ sym n.paths;
      pending = rw pending s.pending;
    })

-- a link that has gone on, in the table
pub at_link_stands : (c c2 : HeldLinks) (peer : Callsign) (e e2 : LinkEntry) (kept2 : Pending) (part : Callsign → Work → Work) →
    lookup (same_call peer) c.links.entries ≡ Some e → EntryGoes (part e.route.own) e e2 c.pending kept2 → c2.pending ≡ kept2 →
    SameNode c c2 →
    c2.links.entries ≡ drop_if_down peer (set_value (same_call peer) c.links.entries e2) →
    (t : Table) → CoreStands c t → CoreStands c2 (at_link peer (part t.own) t)
at_link_stands c c2 peer e e2 kept2 part there goes same_pending n entries t s =
    let f : Found c.own peer e t.links = found c.own peer c.links.entries t.links e s.links there in
    let w : Work = record { linked = f.link; pending = t.pending } in
    let w2 : Work = part t.own w in
    let stands : EntryStands e c.pending w = record { peer = f.stands.is ∙ sym f.stands.peer; path = f.stands.path; link = f.stands.link; joiner = f.stands.joiner; called = f.stands.called; within = f.stands.within; pending = s.pending } in
    let after : EntryStands e2 kept2 w2 = subst (λ o. EntryStands e2 kept2 (part o w)) (f.stands.own ∙ sym s.own) (goes.goes w stands) in
    let same_peer : e2.route.peer ≡ e.route.peer = ap (λ (r : LinkRoute). r.peer) goes.route in
    let one : (k : Callsign) → e.route.peer ≡ k → LinkStands c.own k e2 w2.linked = λ k q.
    record {
      own = ap (λ (r : LinkRoute). r.own) goes.route ∙ f.stands.own;
      peer = same_peer ∙ q;
      is = after.peer ∙ same_peer ∙ q;
      path = after.path;
      link = after.link;
      joiner = after.joiner;
      called = after.called;
      within = after.within;
    } in
    let links : LinksStand c.own (set_value (same_call peer) c.links.entries e2) (with_link peer w2.linked t.links) =
    set c.own peer c.links.entries t.links e2 w2.linked s.links (λ e3 q g. let same : e3 ≡ e = cc (sym q ∙ there) in one g.key (subst (λ (y : LinkEntry). y.route.peer ≡ g.key) same g.stands.peer)) in
    let phase : is_down w2.linked.link.phase ≡ is_down (held_of e2.link).phase = ap (λ (x : State). is_down x.phase) after.link.keeps.is in
    subst (CoreStands c2)
    (sym (ap (λ x. elim x as (λ y. Table) [ None ↦ t | Some l ↦ keep peer (part t.own (record { linked = l; pending = t.pending })) t ]) f.with))
    (record {
      own = s.own ∙ sym n.own;
      by_links = s.by_links ∙ sym n.by_links;
      size = s.size ∙ ap kept_size (sym n.modulus);
      config = s.config ∙ sym n.config;
      links = rw (n.own, entries, down_set peer c.links.entries e e2 there, phase) (by w2 links (is_down (held_of e2.link).phase));
      paths = s.paths ∙ sym n.paths;
      pending = subst (λ (k : Pending). PendingStands k w2.pending) (sym same_pending) after.pending;
    })
  where
    by : (w2 : Work) → LinksStand c.own (set_value (same_call peer) c.links.entries e2) (with_link peer w2.linked t.links) → (b : Bool) →
        LinksStand c.own (if b then remove_entry (same_call peer) (set_value (same_call peer) c.links.entries e2) else set_value (same_call peer) c.links.entries e2)
        (if b then without peer t.links else with_link peer w2.linked t.links)
    by w2 links true = rw (removed_set peer c.links.entries e2) (removed c.own peer c.links.entries t.links s.links)
    by w2 links false = links

-- and nothing waits at any link
pub rests_at : (c c2 : HeldLinks) (peer : Callsign) (e2 : LinkEntry) → Rests c → IsDrained (held_of e2.link) →
    c2.links.entries ≡ drop_if_down peer (set_value (same_call peer) c.links.entries e2) → Rests c2
rests_at c c2 peer e2 r d entries =
    let es : List (Callsign × LinkEntry) = set_value (same_call peer) c.links.entries e2 in
    let x = left_rests es (down_at peer es) (drained_set peer c.links.entries e2 r.drained d) (subst (λ n. n ≤ most_links) (sym (few_set peer c.links.entries e2)) r.few) in
    record { drained = subst AllDrained (sym entries) x.0; few = subst (λ ys. length ys ≤ most_links) (sym entries) x.1 }
  where
    left_rests : (es : List (Callsign × LinkEntry)) (b : Bool) → AllDrained es → length es ≤ most_links →
        AllDrained (if b then remove_entry (same_call peer) es else es) × (length (if b then remove_entry (same_call peer) es else es) ≤ most_links)
    left_rests es true a l = (drained_removed peer es a, omega (arith, l, few_removed peer es))
    left_rests es false a l = (a, l)

-- ---- each link in its turn

pub keys_stand : (own : Callsign) (es : List (Callsign × LinkEntry)) (ls : List Linked) → LinksStand own es ls → keys_of es ≡ map (λ l. l.peer) ls
keys_stand own [] [] s = refl
keys_stand own [] (l ∷ ls) s = absurd s
keys_stand own (e ∷ es) [] s = absurd s
keys_stand own (e ∷ es) (l ∷ ls) s = ap (λ (k : Callsign). k ∷ keys_of es) (sym s.0.is) ∙ ap (λ ks. l.peer ∷ ks) (keys_stand own es ls s.1)

-- the links with these peers are still to be ticked
abbrev pub TicksLeft : List Callsign → ℕ → HeldLinks → HeldLinks → Type 0
TicksLeft ps now old new = (t : Table) → CoreStands old t → (t2 : Table) × CoreStands new t2 × (tick_each ps now t2 ≡ tick now t)

pub ticks_first : (ps : List Callsign) (now : ℕ) (c : HeldLinks) → ps ≡ keys_of c.links.entries → TicksLeft ps now c c
ticks_first ps now c e t s = (t, s, ap (λ qs. tick_each qs now t) (e ∙ keys_stand c.own c.links.entries t.links s.links))

pub ticks_one : (ps qs : List Callsign) (p : Callsign) (now : ℕ) (old new new2 : HeldLinks) → ps ≡ p ∷ qs → TicksLeft ps now old new →
    CoreGoes (λ t. at_link p (step_link t.own Tick now) t) new new2 → TicksLeft qs now old new2
ticks_one ps qs p now old new new2 e left goes t s =
    let r = left t s in
    (at_link p (step_link r.0.own Tick now) r.0, goes r.0 r.1, subst (λ xs. tick_each xs now r.0 ≡ tick now t) e r.2)

pub ticks_end : (ps : List Callsign) (now : ℕ) (old new : HeldLinks) → ps ≡ [] → TicksLeft ps now old new → CoreGoes (tick now) old new
ticks_end ps now old new e left t s =
    let r = left t s in subst (CoreStands new) (subst (λ xs. tick_each xs now r.0 ≡ tick now t) e r.2) r.1

-- ---- one link more

pub appended : (own : Callsign) (es : List (Callsign × LinkEntry)) (ls : List Linked) (k : Callsign) (e : LinkEntry) (l : Linked) → LinksStand own es ls → LinkStands own k e l →
    LinksStand own (es ++ (k, e) ∷ []) (ls ++ l ∷ [])
appended own [] [] k e l s x = (x, tt)
appended own [] (m ∷ ls) k e l s x = absurd s
appended own (y ∷ es) [] k e l s x = absurd s
appended own (y ∷ es) (m ∷ ls) k e l s x = (s.0, appended own es ls k e l s.1 x)

pub drained_appended : (es : List (Callsign × LinkEntry)) (k : Callsign) (e : LinkEntry) → AllDrained es → IsDrained (held_of e.link) → AllDrained (es ++ (k, e) ∷ [])
drained_appended [] k e a d = (d, tt)
drained_appended (y ∷ es) k e a d = (a.0, drained_appended es k e a.1 d)

length_appended : (es : List (Callsign × LinkEntry)) (x : Callsign × LinkEntry) → length (es ++ x ∷ []) ≡ suc (length es)
length_appended [] x = refl
length_appended (y ∷ es) x = ap suc (length_appended es x)

pub rests_more : (c c2 : HeldLinks) (k : Callsign) (e : LinkEntry) → Rests c → length c.links.entries < most_links → IsDrained (held_of e.link) →
    c2.links.entries ≡ c.links.entries ++ (k, e) ∷ [] → Rests c2
rests_more c c2 k e r l d q =
    record {
      drained = subst AllDrained (sym q) (drained_appended c.links.entries k e r.drained d);
      few = subst (λ xs. length xs ≤ most_links) (sym q) (subst (λ n. n ≤ most_links) (sym (length_appended c.links.entries (k, e))) l);
    }

pub made_stands : (c c2 : HeldLinks) (size : ℕ) (e : LinkEntry) (route : LinkRoute) → SameNode c c2 → c2.pending ≡ c.pending →
    c2.links.entries ≡ c.links.entries ++ (route.peer, e) ∷ [] → route.own ≡ c.own → e.route ≡ route → e.joiner ≡ Nothing → e.called ≡ false → size_of e.link ≡ size →
    StandsFor size (held_of e.link) (opening (rules_new size c.config)) → CoreGoes (made route.peer size route.path) c c2
made_stands c c2 size e route n pending entries own same joiner called size_is link t s =
    record {
      own = s.own ∙ sym n.own;
      by_links = s.by_links ∙ sym n.by_links;
      size = s.size ∙ ap kept_size (sym n.modulus);
      config = s.config ∙ sym n.config;
      links = rw (n.own, entries) (appended c.own c.links.entries t.links route.peer e _ s.links (record {
        own = ap (λ (r : LinkRoute). r.own) same ∙ own;
        peer = ap (λ (r : LinkRoute). r.peer) same;
        is = refl;
        path = sym (ap (λ (r : LinkRoute). r.path) same);
        link = rw (s.config, size_is) link;
        joiner = sym joiner;
        called = sym called;
        within = subst IsWithin (sym joiner) tt;
      }));
      paths = s.paths ∙ sym n.paths;
      pending = rw pending s.pending;
    }
