-- Which link of a table is found with a peer, and what stays in order of its links.
use Rattle.std.proofs.Common.{◌≡◌, ◌≤◌, suc, Bool, true, false, List, [], ◌∷◌, ◌++◌, length, Option, Some, None, refl, ap, sym, ◌∙◌, subst, if◌then◌else◌, arith, is_some}
use Rattle.std.specs.List.{AllByRecursion}
use Rattle.ax_address.specs.Callsign.{Callsign, same_call}
use Rattle.ax_address.proofs.SameCalls.{same_call-true, apart_sym}
use Rattle.link_table.specs.Ending.{IsOn, OneEach}
use Rattle.link_table.specs.Table.{Linked, link_with, with_link, without}

-- ---- the links

-- which link is found
pub found_peer : (peer : Callsign) (ls : List Linked) (l : Linked) → link_with peer ls ≡ Some l → peer ≡ l.peer
found_peer peer [] l e = absurd (cc e)
found_peer peer (m ∷ ls) l e = by (same_call peer m.peer) refl e (λ r. found_peer peer ls l r)
  where
    by : (b : Bool) → same_call peer m.peer ≡ b → (if b then Some m else link_with peer ls) ≡ Some l → (link_with peer ls ≡ Some l → peer ≡ l.peer) → peer ≡ l.peer
    by true q r rest = let same : m ≡ l = cc r in same_call-true peer m.peer q ∙ ap (λ (x : Linked). x.peer) same
    by false q r rest = rest r

pub found_on : (peer : Callsign) (ls : List Linked) (l : Linked) → AllByRecursion IsOn ls → link_with peer ls ≡ Some l → IsOn l
found_on peer [] l a e = absurd (cc e)
found_on peer (m ∷ ls) l a e = by (same_call peer m.peer) e (λ r. found_on peer ls l a.1 r)
  where
    by : (b : Bool) → (if b then Some m else link_with peer ls) ≡ Some l → (link_with peer ls ≡ Some l → IsOn l) → IsOn l
    by true r rest = let same : m ≡ l = cc r in subst IsOn same a.0
    by false r rest = rest r

-- another link with the same peer in its place
pub with_found : (q peer : Callsign) (ls : List Linked) (l w : Linked) → link_with peer ls ≡ Some l → w.peer ≡ l.peer → is_some (link_with q (with_link peer w ls)) ≡ is_some (link_with q ls)
with_found q peer [] l w e s = refl
with_found q peer (m ∷ ls) l w e s = by (same_call peer m.peer) e (λ r. with_found q peer ls l w r s)
  where
    either : (b : Bool) (x y : Linked) → is_some (if b then Some x else link_with q ls) ≡ is_some (if b then Some y else link_with q ls)
    either true x y = refl
    either false x y = refl

    behind : (b : Bool) (x y : Option Linked) → is_some x ≡ is_some y → is_some (if b then Some m else x) ≡ is_some (if b then Some m else y)
    behind true x y f = refl
    behind false x y f = f

    by : (b : Bool) → (if b then Some m else link_with peer ls) ≡ Some l → (link_with peer ls ≡ Some l → is_some (link_with q (with_link peer w ls)) ≡ is_some (link_with q ls))
        → is_some (link_with q (if b then w ∷ ls else m ∷ with_link peer w ls)) ≡ is_some (link_with q (m ∷ ls))
    by true r rest =
        let same : m ≡ l = cc r in
        let peers : w.peer ≡ m.peer = s ∙ ap (λ (x : Linked). x.peer) (sym same) in
        ap (λ (k : Callsign). is_some (if same_call q k then Some w else link_with q ls)) peers ∙ either (same_call q m.peer) w m
    by false r rest = behind (same_call q m.peer) (link_with q (with_link peer w ls)) (link_with q ls) (rest r)

with_none : (q peer : Callsign) (ls : List Linked) (l w : Linked) → link_with peer ls ≡ Some l → w.peer ≡ l.peer → link_with q ls ≡ None → link_with q (with_link peer w ls) ≡ None
with_none q peer ls l w e s none = by (link_with q (with_link peer w ls)) (with_found q peer ls l w e s ∙ ap (λ (o : Option Linked). is_some o) none)
  where
    by : (o : Option Linked) → is_some o ≡ false → o ≡ None
    by None f = refl
    by (Some x) f = absurd (cc f)

-- without it, one with another peer is found as before
pub without_found : (q peer : Callsign) (ls : List Linked) (l : Linked) → link_with peer ls ≡ Some l → same_call q l.peer ≡ false → link_with q (without peer ls) ≡ link_with q ls
without_found q peer [] l e f = refl
without_found q peer (m ∷ ls) l e f = by (same_call peer m.peer) e (λ r. without_found q peer ls l r f)
  where
    by : (b : Bool) → (if b then Some m else link_with peer ls) ≡ Some l → (link_with peer ls ≡ Some l → link_with q (without peer ls) ≡ link_with q ls)
        → link_with q (if b then ls else m ∷ without peer ls) ≡ link_with q (m ∷ ls)
    by true r rest =
        let same : m ≡ l = cc r in
        let other : same_call q m.peer ≡ false = subst (λ (x : Linked). same_call q x.peer ≡ false) (sym same) f in
        sym (ap (λ b. if b then Some m else link_with q ls) other)
    by false r rest = ap (λ (o : Option Linked). if same_call q m.peer then Some m else o) (rest r)

without_none : (q peer : Callsign) (ls : List Linked) → link_with q ls ≡ None → link_with q (without peer ls) ≡ None
without_none q peer [] none = refl
without_none q peer (m ∷ ls) none = by (same_call peer m.peer) (same_call q m.peer) refl none (λ n. without_none q peer ls n)
  where
    by : (a b : Bool) → same_call q m.peer ≡ b → (if b then Some m else link_with q ls) ≡ None → (link_with q ls ≡ None → link_with q (without peer ls) ≡ None)
        → link_with q (if a then ls else m ∷ without peer ls) ≡ None
    by true true h n rest = absurd (cc n)
    by false true h n rest = absurd (cc n)
    by true false h n rest = n
    by false false h n rest = ap (λ b. if b then Some m else link_with q (without peer ls)) h ∙ rest n

-- none is left with its peer, where each peer has one
pub without_here : (peer : Callsign) (ls : List Linked) → OneEach ls → link_with peer (without peer ls) ≡ None
without_here peer [] o = refl
without_here peer (m ∷ ls) o = by (same_call peer m.peer) refl (without_here peer ls o.1)
  where
    by : (b : Bool) → same_call peer m.peer ≡ b → link_with peer (without peer ls) ≡ None → link_with peer (if b then ls else m ∷ without peer ls) ≡ None
    by true e rest = subst (λ (k : Callsign). link_with k ls ≡ None) (sym (same_call-true peer m.peer e)) o.0
    by false e rest = ap (λ b. if b then Some m else link_with peer (without peer ls)) e ∙ rest

-- behind the others it is found where none of them has the peer
pub before : (q : Callsign) (ls : List Linked) (x : Linked) → is_some (link_with q ls) ≡ true → is_some (link_with q (ls ++ x ∷ [])) ≡ true
before q [] x e = absurd (cc e)
before q (m ∷ ls) x e = by (same_call q m.peer) e (λ f. before q ls x f)
  where
    by : (b : Bool) → is_some (if b then Some m else link_with q ls) ≡ true → (is_some (link_with q ls) ≡ true → is_some (link_with q (ls ++ x ∷ [])) ≡ true)
        → is_some (if b then Some m else link_with q (ls ++ x ∷ [])) ≡ true
    by true f rest = refl
    by false f rest = rest f

-- ---- what is in order

pub on_with : (peer : Callsign) (ls : List Linked) (w : Linked) → AllByRecursion IsOn ls → IsOn w → AllByRecursion IsOn (with_link peer w ls)
on_with peer [] w a b = tt
on_with peer (m ∷ ls) w a b = by (same_call peer m.peer) (on_with peer ls w a.1 b)
  where
    by : (c : Bool) → AllByRecursion IsOn (with_link peer w ls) → AllByRecursion IsOn (if c then w ∷ ls else m ∷ with_link peer w ls)
    by true rest = (b, a.1)
    by false rest = (a.0, rest)

pub on_without : (peer : Callsign) (ls : List Linked) → AllByRecursion IsOn ls → AllByRecursion IsOn (without peer ls)
on_without peer [] a = tt
on_without peer (m ∷ ls) a = by (same_call peer m.peer) (on_without peer ls a.1)
  where
    by : (c : Bool) → AllByRecursion IsOn (without peer ls) → AllByRecursion IsOn (if c then ls else m ∷ without peer ls)
    by true rest = a.1
    by false rest = (a.0, rest)

pub once_with : (peer : Callsign) (ls : List Linked) (l w : Linked) → link_with peer ls ≡ Some l → w.peer ≡ l.peer → OneEach ls → OneEach (with_link peer w ls)
once_with peer [] l w e s o = tt
once_with peer (m ∷ ls) l w e s o = by (same_call peer m.peer) e (λ r. once_with peer ls l w r s o.1)
  where
    by : (b : Bool) → (if b then Some m else link_with peer ls) ≡ Some l → (link_with peer ls ≡ Some l → OneEach (with_link peer w ls)) → OneEach (if b then w ∷ ls else m ∷ with_link peer w ls)
    by true r rest =
        let same : m ≡ l = cc r in
        let peers : m.peer ≡ w.peer = ap (λ (x : Linked). x.peer) same ∙ sym s in
        (subst (λ (k : Callsign). link_with k ls ≡ None) peers o.0, o.1)
    by false r rest = (with_none m.peer peer ls l w r s o.0, rest r)

pub once_without : (peer : Callsign) (ls : List Linked) → OneEach ls → OneEach (without peer ls)
once_without peer [] o = tt
once_without peer (m ∷ ls) o = by (same_call peer m.peer) (once_without peer ls o.1)
  where
    by : (b : Bool) → OneEach (without peer ls) → OneEach (if b then ls else m ∷ without peer ls)
    by true rest = o.1
    by false rest = (without_none m.peer peer ls o.0, rest)

none_behind : (q : Callsign) (ls : List Linked) (x : Linked) → link_with q ls ≡ None → same_call q x.peer ≡ false → link_with q (ls ++ x ∷ []) ≡ None
none_behind q [] x none other = ap (λ b. if b then Some x else None) other
none_behind q (m ∷ ls) x none other = by (same_call q m.peer) none (λ f. none_behind q ls x f other)
  where
    by : (b : Bool) → (if b then Some m else link_with q ls) ≡ None → (link_with q ls ≡ None → link_with q (ls ++ x ∷ []) ≡ None) → (if b then Some m else link_with q (ls ++ x ∷ [])) ≡ None
    by true f rest = absurd (cc f)
    by false f rest = rest f

pub once_behind : (ls : List Linked) (x : Linked) → link_with x.peer ls ≡ None → OneEach ls → OneEach (ls ++ x ∷ [])
once_behind [] x none o = (refl, tt)
once_behind (m ∷ ls) x none o = by (same_call x.peer m.peer) refl none (λ f. once_behind ls x f o.1)
  where
    by : (b : Bool) → same_call x.peer m.peer ≡ b → (if b then Some m else link_with x.peer ls) ≡ None → (link_with x.peer ls ≡ None → OneEach (ls ++ x ∷ [])) → OneEach ((m ∷ ls) ++ x ∷ [])
    by true h f rest = absurd (cc f)
    by false h f rest = (none_behind m.peer ls x o.0 (apart_sym x.peer m.peer h), rest f)

pub on_behind : (ls : List Linked) (x : Linked) → AllByRecursion IsOn ls → IsOn x → AllByRecursion IsOn (ls ++ x ∷ [])
on_behind [] x a b = (b, tt)
on_behind (m ∷ ls) x a b = (a.0, on_behind ls x a.1 b)

pub few_with : (peer : Callsign) (ls : List Linked) (w : Linked) → length (with_link peer w ls) ≡ length ls
few_with peer [] w = refl
few_with peer (m ∷ ls) w = by (same_call peer m.peer) (few_with peer ls w)
  where
    by : (c : Bool) → length (with_link peer w ls) ≡ length ls → length (if c then w ∷ ls else m ∷ with_link peer w ls) ≡ length (m ∷ ls)
    by true rest = refl
    by false rest = ap suc rest

pub few_without : (peer : Callsign) (ls : List Linked) → length (without peer ls) ≤ length ls
few_without peer [] = omega arith
few_without peer (m ∷ ls) = by (same_call peer m.peer) (few_without peer ls)
  where
    by : (c : Bool) → length (without peer ls) ≤ length ls → length (if c then ls else m ∷ without peer ls) ≤ length (m ∷ ls)
    by true rest = omega arith
    by false rest = omega (arith, rest)

-- a new one, in the place of which another one with its peer comes, or none
pub with_last : (peer : Callsign) (ls : List Linked) (x w : Linked) → link_with peer ls ≡ None → same_call peer x.peer ≡ true → with_link peer w (ls ++ x ∷ []) ≡ ls ++ w ∷ []
with_last peer [] x w none e = ap (λ b. if b then w ∷ [] else x ∷ []) e
with_last peer (m ∷ ls) x w none e = by (same_call peer m.peer) none (λ f. with_last peer ls x w f e)
  where
    by : (b : Bool) → (if b then Some m else link_with peer ls) ≡ None → (link_with peer ls ≡ None → with_link peer w (ls ++ x ∷ []) ≡ ls ++ w ∷ []) → (if b then w ∷ (ls ++ x ∷ []) else m ∷ with_link peer w (ls ++ x ∷ [])) ≡ (m ∷ ls) ++ w ∷ []
    by true f rest = absurd (cc f)
    by false f rest = ap (λ (ms : List Linked). m ∷ ms) (rest f)

pub without_last : (peer : Callsign) (ls : List Linked) (x : Linked) → link_with peer ls ≡ None → same_call peer x.peer ≡ true → without peer (ls ++ x ∷ []) ≡ ls
without_last peer [] x none e = ap (λ b. if b then [] else x ∷ []) e
without_last peer (m ∷ ls) x none e = by (same_call peer m.peer) none (λ f. without_last peer ls x f e)
  where
    by : (b : Bool) → (if b then Some m else link_with peer ls) ≡ None → (link_with peer ls ≡ None → without peer (ls ++ x ∷ []) ≡ ls) → (if b then ls ++ x ∷ [] else m ∷ without peer (ls ++ x ∷ [])) ≡ m ∷ ls
    by true f rest = absurd (cc f)
    by false f rest = ap (λ (ms : List Linked). m ∷ ms) (rest f)

pub last_found : (peer : Callsign) (ls : List Linked) (x : Linked) → link_with peer ls ≡ None → same_call peer x.peer ≡ true → link_with peer (ls ++ x ∷ []) ≡ Some x
last_found peer [] x none e = ap (λ b. if b then Some x else None) e
last_found peer (m ∷ ls) x none e = by (same_call peer m.peer) none (λ f. last_found peer ls x f e)
  where
    by : (b : Bool) → (if b then Some m else link_with peer ls) ≡ None → (link_with peer ls ≡ None → link_with peer (ls ++ x ∷ []) ≡ Some x) → (if b then Some m else link_with peer (ls ++ x ∷ [])) ≡ Some x
    by true f rest = absurd (cc f)
    by false f rest = rest f
