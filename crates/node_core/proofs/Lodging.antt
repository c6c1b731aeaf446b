-- A user at a link is served while the link stands, by one session; and where no users are served there is no session.
use Rattle.std.proofs.Common.{◌≡◌, ◌≤◌, ◌<◌, ◌+◌, ◌∙◌, ℕ, refl, sym, ap, subst, arith, List, [], ◌∷◌, ◌++◌, map, slice_get}
use Rattle.std.specs.Prelude.{Bool, true, false, not, ◌&&◌, ◌||◌, filter, if◌then◌else◌, Some, None}
use Rattle.std.specs.List.{AllByRecursion}
use Rattle.std.proofs.lemmas.Bool.{and_parts}
use Rattle.arrayvec.specs.ArrayVec.{ArrayVec}
use Rattle.ax_address.specs.declared.address.Address.{Address}
use Rattle.ax_address.specs.Callsign.{Callsign, same_call}
use Rattle.ax_address.proofs.SameCalls.{same_call-true}
use Rattle.ax_link.specs.declared.notice.LinkNotice.{LinkNotice}
use Rattle.ax_link.specs.declared.notice.LinkNotice.TheVariants as link
use Rattle.circuit_l4.specs.declared.notice.EndNotice.{EndNotice}
use Rattle.circuit_table.specs.Pumps.{Of}
use Rattle.circuit_table.specs.Sets.{CircuitTold, Made, Sent, Heeded, Notice, Gone, Restarted, Lost}
use Rattle.l3_datagram.specs.Datagrams.{Datagram}
use Rattle.link_table.specs.Ending.{EndsAreTold, IsInOrder, Leaves, LeavesTold, TextsAreOfLinks, has_link, is_end, stands_or_told, tells_end}
use Rattle.link_table.specs.Table.{Table}
use Rattle.node_model.specs.declared.user.User.TheVariants.{AtEnd, AtLink}
use Rattle.node_model.specs.Links as links
use Rattle.node_model.specs.Pumping.{pump}
use Rattle.node_model.specs.Serving as serving
use Rattle.node_model.specs.Sessions as s
use Rattle.node_model.specs.Sessions.{Session}
use Rattle.node_model.specs.States.{State}
use Rattle.node_model.specs.Users.{change_if}
use Rattle.node_core.proofs.Owning.{changed_less, filter_less, map_less, one, push_one, total}
use Rattle.node_core.proofs.Pumped.{pump_keeps, pump_links}
use Rattle.node_core.proofs.Served.{KeepsUser}
use Rattle.node_core.proofs.Soundness.{same_hears, same_itself}

-- whether a session serves the link with a peer
abbrev pub at_link : Callsign → Session → ℕ
at_link peer x = one (serving.serves_link peer x)

-- each link has one session at most, and where it has one it stands, or it is told that it has ended
pub record Lodged (t : Table) (ss : List Session) : Type 0 where
  pub order : IsInOrder t
  pub once : (peer : Callsign) → total (at_link peer) ss ≤ 1
  pub lodged : (peer : Callsign) → 0 < total (at_link peer) ss → stands_or_told peer t ≡ true

-- ---- fewer sessions, and other tables

abbrev pub NoMore : List Session → List Session → Type 0
NoMore ss xs = (peer : Callsign) → total (at_link peer) xs ≤ total (at_link peer) ss

pub fewer : (t : Table) (ss xs : List Session) → NoMore ss xs → Lodged t ss → Lodged t xs
fewer t ss xs less l = record {
  order = l.order;
  once = λ peer. omega (arith, less peer, l.once peer);
  lodged = λ peer some. l.lodged peer (omega (arith, some, less peer));
}

pub moved : (t u : Table) (ss : List Session) → LeavesTold t u → Lodged t ss → Lodged u ss
moved t u ss leaves l =
    let x = leaves l.order in
    record { order = x.order; once = l.once; lodged = λ peer some. x.told peer (l.lodged peer some) }

-- ---- a session

same_at : (peer : Callsign) (x y : Session) → y.user ≡ x.user → y.left ≡ x.left → at_link peer y ≤ at_link peer x
same_at peer x y e f = let same : at_link peer y ≡ at_link peer x = rw (e, f) refl in omega (arith, same)

pub stepped : (nth : ℕ) (step : Session → Session) (ss : List Session) → KeepsUser step → NoMore ss (change_if (slice_get ss nth) nth step ss)
stepped nth step ss keeps peer = changed_less (at_link peer) step ss nth (slice_get ss nth) refl (λ x. same_at peer x (step x) (keeps x).0 (keeps x).1)

noticed : (peer : Callsign) (id : ℕ) (notice : EndNotice) (x : Session) → at_link peer (s.hear_notice id notice x) ≤ at_link peer x
noticed peer id notice x = let same = (same_hears x).notice id notice x (same_itself x) in same_at peer x (s.hear_notice id notice x) same.user same.left

gone : (peer : Callsign) (id : ℕ) (x : Session) → at_link peer (s.hear_gone id x) ≤ at_link peer x
gone peer id x = let same = (same_hears x).gone id x (same_itself x) in same_at peer x (s.hear_gone id x) same.user same.left

greeted_end : (prompt : Bool) (id : ℕ) (ss : List Session) → NoMore ss (s.greet prompt (AtEnd id) ss)
greeted_end true id ss peer = omega (arith, push_one (at_link peer) ss (s.new_session (AtEnd id)))
greeted_end false id ss peer = omega arith

pub heard : (prompt : Bool) (t : CircuitTold) (ss : List Session) → NoMore ss (s.hear_circuits prompt (Of t) ss)
heard prompt (Made id pair partner None) ss peer = omega arith
heard prompt (Made id pair partner (Some d)) ss peer = greeted_end prompt id ss peer
heard prompt (Notice id notice) ss peer = map_less (at_link peer) (s.hear_notice id notice) (noticed peer id notice) ss
heard prompt (Gone id facts) ss peer = map_less (at_link peer) (s.hear_gone id) (gone peer id) ss
heard prompt (Sent id number d) ss peer = omega arith
heard prompt (Heeded id d) ss peer = omega arith
heard prompt (Restarted pair) ss peer = omega arith
heard prompt (Lost id facts) ss peer = omega arith

-- ---- what is heard of links

no_more : (a b : Bool) → one (a && (not true)) ≤ one (a && not b)
no_more true b = omega arith
no_more false b = omega arith

left_less : (q peer : Callsign) (x : Session) → at_link q (s.leave peer x) ≤ at_link q x
left_less q peer x = by (s.is_at_link peer x.user)
  where
    by : (b : Bool) → at_link q (if b then s.leaves x else x) ≤ at_link q x
    by true = no_more (s.is_at_link q x.user) x.left
    by false = omega arith

left_all : (b : Bool) (peer : Callsign) (ss : List Session) → NoMore ss (if b then map (s.leave peer) ss else ss)
left_all true peer ss q = map_less (at_link q) (s.leave peer) (left_less q peer) ss
left_all false peer ss q = omega arith

links_less : (ns : List (Callsign × LinkNotice)) (ss : List Session) → NoMore ss (s.hear_links ns ss)
links_less [] ss q = omega arith
links_less (x ∷ ns) ss q = omega (arith, left_all (s.ends_link x.1) x.0 ss q, links_less ns (s.hear_link x.0 x.1 ss) q)

is_end_is : (n : LinkNotice) → s.ends_link n ≡ is_end n
is_end_is link.Opened = refl
is_end_is link.Reset = refl
is_end_is link.Closed = refl
is_end_is link.Failed = refl
is_end_is link.Refused = refl

-- a session at a link has left once it has heard that this has ended
none_at : (q peer : Callsign) (x : Session) → q ≡ peer → at_link q (s.leave peer x) ≡ 0
none_at q peer x e = subst (λ (c : Callsign). at_link c (s.leave peer x) ≡ 0) (sym e) (by (s.is_at_link peer x.user) refl)
  where
    by : (b : Bool) → s.is_at_link peer x.user ≡ b → at_link peer (if b then s.leaves x else x) ≡ 0
    by true f = ap (λ c. one (c && false)) f
    by false f = ap (λ c. one (c && not x.left)) f

none_left : (q peer : Callsign) (ss : List Session) → q ≡ peer → total (at_link q) (map (s.leave peer) ss) ≡ 0
none_left q peer [] e = refl
none_left q peer (x ∷ ss) e = omega (arith, none_at q peer x e, none_left q peer ss e)

ended : (q : Callsign) (ns : List (Callsign × LinkNotice)) (ss : List Session) → tells_end q ns ≡ true → total (at_link q) (s.hear_links ns ss) ≡ 0
ended q [] ss e = absurd (cc e)
ended q (x ∷ ns) ss e = by (same_call q x.0 && is_end x.1) refl e (λ f. ended q ns (s.hear_link x.0 x.1 ss) f)
  where
    by : (b : Bool) → (same_call q x.0 && is_end x.1) ≡ b → (b || tells_end q ns) ≡ true → (tells_end q ns ≡ true → total (at_link q) (s.hear_links ns (s.hear_link x.0 x.1 ss)) ≡ 0)
        → total (at_link q) (s.hear_links ns (s.hear_link x.0 x.1 ss)) ≡ 0
    by false f g rest = rest g
    by true f g rest =
        let both = and_parts (same_call q x.0) (is_end x.1) f in
        let ends : s.ends_link x.1 ≡ true = is_end_is x.1 ∙ both.1 in
        let here : total (at_link q) (s.hear_link x.0 x.1 ss) ≡ 0 =
        ap (λ b. total (at_link q) (if b then map (s.leave x.0) ss else ss)) ends ∙ none_left q x.0 ss (same_call-true q x.0 both.0) in
        omega (arith, here, links_less ns (s.hear_link x.0 x.1 ss) q)

or_first : (a b : Bool) → (a || b) ≡ true → (b ≡ true → ⊥) → a ≡ true
or_first true b e f = refl
or_first false b e f = absurd (f e)

or_none : (a : Bool) → a ≡ true → (a || false) ≡ true
or_none a e = ap (λ b. b || false) e

-- all notices are heard, and none waits any more
pub noticed_all : (t : Table) (ss : List Session) → Lodged t ss → Lodged (links.all_noticed t) (s.hear_links t.pending.notices ss)
noticed_all t ss l = record {
  order = record { on = l.order.on; once = l.order.once; few = l.order.few };
  once = λ peer. omega (arith, links_less t.pending.notices ss peer, l.once peer);
  lodged = λ peer some.
      or_none (has_link peer t)
      (or_first (has_link peer t) (tells_end peer t.pending.notices) (l.lodged peer (omega (arith, some, links_less t.pending.notices ss peer)))
      (λ e. let none = ended peer t.pending.notices ss e in absurd (omega (arith, some, none))));
}

-- ---- links with a first text

unserved : (peer : Callsign) (ss : List Session) → serving.is_served_link peer ss ≡ false → total (at_link peer) ss ≡ 0
unserved peer [] e = refl
unserved peer (x ∷ ss) e = by (serving.serves_link peer x) refl e (λ f. unserved peer ss f)
  where
    by : (b : Bool) → serving.serves_link peer x ≡ b → (b || serving.is_served_link peer ss) ≡ false → (serving.is_served_link peer ss ≡ false → total (at_link peer) ss ≡ 0)
        → total (at_link peer) (x ∷ ss) ≡ 0
    by true g f rest = absurd (cc f)
    by false g f rest = let none = rest f in let here = ap one g in omega (arith, none, here)

and_true : (a : Bool) → one (a && true) ≡ one a
and_true true = refl
and_true false = refl

most_one : (b : Bool) → one b ≤ 1
most_one true = omega arith
most_one false = omega arith

one_more : (t : Table) (peer : Callsign) (ss : List Session) → has_link peer t ≡ true → serving.is_served_link peer ss ≡ false → Lodged t ss → Lodged t (ss ++ s.new_session (AtLink peer) ∷ [])
one_more t peer ss here none l = record { order = l.order; once = λ q. once q (same_call peer q) refl; lodged = λ q some. stands q (same_call peer q) refl some }
  where
    new : Session
    new = s.new_session (AtLink peer)

    sum : (q : Callsign) → total (at_link q) (ss ++ new ∷ []) ≡ total (at_link q) ss + one (same_call peer q)
    sum q = omega (arith, push_one (at_link q) ss new, and_true (same_call peer q))

    once : (q : Callsign) (b : Bool) → same_call peer q ≡ b → total (at_link q) (ss ++ new ∷ []) ≤ 1
    once q true e =
        let free : total (at_link q) ss ≡ 0 = subst (λ (c : Callsign). total (at_link c) ss ≡ 0) (same_call-true peer q e) (unserved peer ss none) in
        omega (arith, sum q, free, most_one (same_call peer q))
    once q false e = let zeroed = ap one e in omega (arith, sum q, zeroed, l.once q)

    stands : (q : Callsign) (b : Bool) → same_call peer q ≡ b → 0 < total (at_link q) (ss ++ new ∷ []) → stands_or_told q t ≡ true
    stands q true e some =
        let linked : has_link q t ≡ true = subst (λ (c : Callsign). has_link c t ≡ true) (same_call-true peer q e) here in
        ap (λ b. b || tells_end q t.pending.notices) linked
    stands q false e some = let zeroed = ap one e in l.lodged q (omega (arith, some, sum q, zeroed))

greeted_one : (t : Table) (prompt : Bool) (peer : Callsign) (ss : List Session) → has_link peer t ≡ true → Lodged t ss → Lodged t (serving.greet_link prompt peer ss)
greeted_one t prompt peer ss here l = by (serving.is_served_link peer ss) prompt refl
  where
    by : (b c : Bool) → serving.is_served_link peer ss ≡ b → Lodged t (if b then ss else s.greet c (AtLink peer) ss)
    by true c e = l
    by false false e = l
    by false true e = one_more t peer ss here e l

greeted_all : (t : Table) (prompt : Bool) (peers : List Callsign) (ss : List Session) → AllByRecursion (λ peer. has_link peer t ≡ true) peers → Lodged t ss → Lodged t (serving.greet_each prompt peers ss)
greeted_all t prompt [] ss a l = l
greeted_all t prompt (peer ∷ peers) ss a l = greeted_all t prompt peers (serving.greet_link prompt peer ss) a.1 (greeted_one t prompt peer ss a.0 l)

-- ---- as a node goes on

abbrev pub Housed : State → Type 0
Housed n = Lodged n.links n.sessions

module _ (told : EndsAreTold) where
  offered : (old : Table) (to : Callsign) (d : Datagram) (now : ℕ) (t : Table) → Leaves old t → Leaves old (links.offer to d now t)
  unfolding links.offer
  offered old to d now t x = let y = told.offers t to d now x.order in record { order = y.order; told = λ peer e. y.told peer (x.told peer e) }

  pub pumped : (now : ℕ) (n : State) → Housed n → Housed (pump now n)
  pumped now n h =
      let same : IsInOrder n.links → Leaves n.links n.links = λ o. record { order = o; told = λ peer e. e } in
      let less = pump_keeps (λ set ts ss. NoMore n.sessions ss) (λ prompt set t ts ss a peer. omega (arith, a peer, heard prompt t ss peer)) (λ set ts ss d now a. a) now n (λ peer. omega arith) in
      let on = λ (o : IsInOrder n.links). pump_links (λ t. Leaves n.links t) (offered n.links)
      (λ t x. record { order = record { on = x.order.on; once = x.order.once; few = x.order.few }; told = x.told })
      (λ t x. record { order = record { on = x.order.on; once = x.order.once; few = x.order.few }; told = x.told }) now n (same o) in
      moved n.links (pump now n).links (pump now n).sessions on (fewer n.links n.sessions (pump now n).sessions less h)

  pub takes : (peer : Callsign) (now : ℕ) (t : Table) → LeavesTold t (links.take_text peer now t)
  unfolding links.take_text
  takes peer now t = told.takes t peer now

  pub sends : (peer : Callsign) (text : List ℕ) (now : ℕ) (t : Table) → LeavesTold t (links.send_text peer text now t)
  unfolding links.send_text
  sends peer text now t = told.sends t peer text now

  pub opens : (peer : Callsign) (path : ArrayVec Address) (now : ℕ) (t : Table) → LeavesTold t (links.open_link peer path now t)
  unfolding links.open_link
  opens peer path now t = told.opens t peer path now

  pub closes : (peer : Callsign) (now : ℕ) (t : Table) → LeavesTold t (links.close peer now t)
  unfolding links.close
  closes peer now t = told.closes t peer now

  pub ticks : (now : ℕ) (t : Table) → LeavesTold t (links.tick_links now t)
  unfolding links.tick_links
  ticks now t = told.ticks t now

  pub breaks : (peer : Callsign) (t : Table) → LeavesTold t (links.break_link peer t)
  unfolding links.break_link
  breaks peer t = told.breaks t peer

pub greeted : TextsAreOfLinks → (n : State) → Housed n → Housed (serving.greet_links n)
unfolding links.text_peers
greeted texts n h = greeted_all n.links n.settings.prompt (links.text_peers n.links) n.sessions (texts n.links) h

pub dropped : (n : State) → Housed n → Housed (serving.drop_over n)
dropped n h = let test = λ (x : Session). not (serving.is_over n x) in fewer n.links n.sessions (filter test n.sessions) (λ peer. filter_less (at_link peer) test n.sessions) h
