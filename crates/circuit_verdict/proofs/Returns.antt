-- A pair is faced exactly where the node that gives it breaks the rule that its pair names no other open end.
use Rattle.std.proofs.Common.{◌≡◌, ◌≢◌, ◌<◌, ◌∙◌, ℕ, zero, suc, refl, sym, ap, arith, length, List, [], ◌∷◌, ◌++◌, inl, inr}
use Rattle.std.specs.Prelude.{Bool, true, false, not, ◌&&◌, ◌||◌, if◌then◌else◌, nat_eq, Option, Some, None, Contains, slice_index_or}
use Rattle.std.specs.List.{list_any}
use Rattle.std.proofs.lemmas.Bool.Decides.{nat_tests}
use Rattle.std.proofs.lemmas.List.Folds.{list_any-append}
use Rattle.std.proofs.lemmas.Bool.{not-true, eqb-true, and_parts, or_cases, or_left, or_right}
use Rattle.ax_address.proofs.SameNumbers.{nat_refl}
use Rattle.circuit_l4.specs.declared.pair.Pair.{Pair}
use Rattle.circuit_table.specs.Sets.{same_pair}
use Rattle.circuit_set.specs.Books.{Book, MadeNote, NoOther, any_ends, first_name, is_lost, is_some_name, partner_in}
use Rattle.circuit_table.specs.Events.{Name, same_name}
use Rattle.circuit_set.proofs.Askers.{pair_itself}
use Rattle.circuit_set.proofs.Bridge.{same_names, name_itself}
use Rattle.circuit_set.proofs.NewName.{some_is}
use Rattle.circuit_set.proofs.Noted.{pairs_same}
use Rattle.circuit_verdict.specs.Ends.{faces, facing_in, given_in, has_open_partner, is_faced, is_going, is_open, with_facing}
use Rattle.circuit_verdict.proofs.Tests.{or_false}

-- ---- tests ----
unequal : (a b : ℕ) → a ≢ b → nat_eq a b ≡ false
unequal a b e = grind (arith, nat_tests, e)

apart : (a b : ℕ) → nat_eq a b ≡ false → a ≢ b
apart a b e = λ same. absurd (grind (arith, nat_tests, e, same))

-- ---- the notes that a list contains ----
at_later : {X : Type 0} (y x : X) (xs : List X) → Contains xs x → Contains (y ∷ xs) x
at_later y x xs c = (suc c.0, omega (arith, c.1), c.2)

going_at : (ms : List MadeNote) (m : MadeNote) (k : ℕ) → k < length ms → slice_index_or ms k m ≡ m → any_ends m.told ≡ false → is_going ms m.who ≡ true
going_at [] m k p e f = absurd (omega (arith, p))
going_at (n ∷ ms) m zero p e f = rw (e, name_itself m.who, f) refl
going_at (n ∷ ms) m (suc k) p e f = or_right (same_name n.who m.who && not (any_ends n.told)) (is_going ms m.who) (going_at ms m k (omega (arith, p)) e f)

pub record Going (ms : List MadeNote) (x : Name) : Type 0 where
  pub note : MadeNote
  pub held : Contains ms note
  pub who : note.who ≡ x
  pub going : any_ends note.told ≡ false

going_later : (n : MadeNote) (ms : List MadeNote) (x : Name) → Going ms x → Going (n ∷ ms) x
going_later n ms x g = record { note = g.note; held = at_later n g.note ms g.held; who = g.who; going = g.going }

going_from : (ms : List MadeNote) (x : Name) → is_going ms x ≡ true → Going ms x
going_from [] x e = absurd (cc e)
going_from (n ∷ ms) x e =
    elim (or_cases (same_name n.who x && not (any_ends n.told)) (is_going ms x) e) [
      | inl f ↦
          let both = and_parts (same_name n.who x) (not (any_ends n.told)) f in
          record { note = n; held = (0, omega arith, refl); who = same_names n.who x both.0; going = not-true (any_ends n.told) both.1 }
      | inr f ↦ going_later n ms x (going_from ms x f)
    ]

-- ---- the ends to which a node gave a pair ----
push_any : (f : Name → Bool) (xs : List Name) (x : Name) → list_any f (xs ++ x ∷ []) ≡ list_any f xs || (f x || false)
push_any f xs x = list_any-append f xs (x ∷ [])

pushed_old : (f : Name → Bool) (b : Bool) (xs : List Name) (x : Name) → list_any f xs ≡ true → list_any f (if b then xs ++ x ∷ [] else xs) ≡ true
pushed_old f true xs x e = push_any f xs x ∙ or_left (list_any f xs) (f x || false) e
pushed_old f false xs x e = e

pushed_new : (f : Name → Bool) (xs : List Name) (x : Name) → f x ≡ true → list_any f (xs ++ x ∷ []) ≡ true
pushed_new f xs x e = push_any f xs x ∙ or_right (list_any f xs) (f x || false) (or_left (f x) false e)

given_at : (f : Name → Bool) (ms : List MadeNote) (q : MadeNote) (k : ℕ) → k < length ms → slice_index_or ms k q ≡ q → f q.who ≡ true
    → list_any f (given_in ms q.who.node q.pair) ≡ true
given_at f [] q k p e g = absurd (omega (arith, p))
given_at f (n ∷ ms) q zero p e g = rw (e, nat_refl q.who.node, pair_itself q.pair) (pushed_new f (given_in ms q.who.node q.pair) q.who g)
given_at f (n ∷ ms) q (suc k) p e g =
    pushed_old f (nat_eq n.who.node q.who.node && same_pair n.pair q.pair) (given_in ms q.who.node q.pair) n.who (given_at f ms q k (omega (arith, p)) e g)

pub record Given (f : Name → Bool) (ms : List MadeNote) (node : ℕ) (pair : Pair) : Type 0 where
  pub note : MadeNote
  pub held : Contains ms note
  pub passes : f note.who ≡ true
  pub at : note.who.node ≡ node
  pub by : note.pair ≡ pair

given_later : (f : Name → Bool) (n : MadeNote) (ms : List MadeNote) (node : ℕ) (pair : Pair) → Given f ms node pair → Given f (n ∷ ms) node pair
given_later f n ms node pair g = record { note = g.note; held = at_later n g.note ms g.held; passes = g.passes; at = g.at; by = g.by }

given_by : (c : Bool) (f : Name → Bool) (n : MadeNote) (ms : List MadeNote) (node : ℕ) (pair : Pair) → nat_eq n.who.node node && same_pair n.pair pair ≡ c
    → (list_any f (given_in ms node pair) ≡ true → Given f ms node pair)
    → list_any f (if c then given_in ms node pair ++ n.who ∷ [] else given_in ms node pair) ≡ true → Given f (n ∷ ms) node pair
given_by true f n ms node pair c old e =
    elim (or_cases (list_any f (given_in ms node pair)) (f n.who || false) (sym (push_any f (given_in ms node pair) n.who) ∙ e)) [
      | inl g ↦ given_later f n ms node pair (old g)
      | inr g ↦
          let both = and_parts (nat_eq n.who.node node) (same_pair n.pair pair) c in
          record { note = n; held = (0, omega arith, refl); passes = sym (or_false (f n.who)) ∙ g; at = eqb-true n.who.node node both.0; by = pairs_same n.pair pair both.1 }
    ]
given_by false f n ms node pair c old e = given_later f n ms node pair (old e)

given_from : (f : Name → Bool) (ms : List MadeNote) (node : ℕ) (pair : Pair) → list_any f (given_in ms node pair) ≡ true → Given f ms node pair
given_from f [] node pair e = absurd (cc e)
given_from f (n ∷ ms) node pair e = given_by (nat_eq n.who.node node && same_pair n.pair pair) f n ms node pair refl (given_from f ms node pair) e

-- ---- the ends whose partner an end has become ----
abbrev pub partner_by : Name → Option Name → Name → Option Name → Option Name
partner_by who r u rest = if is_some_name r u then Some who else first_name (if same_name who u then r else None) rest

facing_some : (b c : Bool) (f : Name → Bool) (who y u v : Name) (rest : Option Name) (xs : List Name) → same_name y u ≡ b → same_name who u ≡ c → f u ≡ true
    → (rest ≡ Some v → list_any f xs ≡ true)
    → (if b then Some who else first_name (if c then Some y else None) rest) ≡ Some v → list_any f (with_facing who (Some y) v xs) ≡ true
facing_some true c f who y u v rest xs b_is c_is g old e =
    let is : who ≡ v = cc e in
    let here : list_any f (if same_name who v then xs ++ y ∷ [] else xs) ≡ true = rw (is, name_itself v, same_names y u b_is) (pushed_new f xs u g) in
    pushed_old f (same_name y v) (if same_name who v then xs ++ y ∷ [] else xs) who here
facing_some false true f who y u v rest xs b_is c_is g old e =
    let is : y ≡ v = cc e in
    rw (is, name_itself v, same_names who u c_is) (pushed_new f (if same_name u v then xs ++ v ∷ [] else xs) u g)
facing_some false false f who y u v rest xs b_is c_is g old e =
    pushed_old f (same_name y v) (if same_name who v then xs ++ y ∷ [] else xs) who (pushed_old f (same_name who v) xs y (old e))

none_by : (c : Bool) (rest : Option Name) → first_name (if c then None else None) rest ≡ rest
none_by true rest = refl
none_by false rest = refl

facing_by : (r : Option Name) (f : Name → Bool) (who u v : Name) (rest : Option Name) (xs : List Name) → f u ≡ true → (rest ≡ Some v → list_any f xs ≡ true)
    → partner_by who r u rest ≡ Some v → list_any f (with_facing who r v xs) ≡ true
facing_by None f who u v rest xs g old e = old (sym (none_by (same_name who u) rest) ∙ e)
facing_by (Some y) f who u v rest xs g old e = facing_some (same_name y u) (same_name who u) f who y u v rest xs refl refl g old e

facing_at : (f : Name → Bool) (ms : List MadeNote) (u v : Name) → f u ≡ true → partner_in ms u ≡ Some v → list_any f (facing_in ms v) ≡ true
facing_at f [] u v g e = absurd (cc e)
facing_at f (m ∷ ms) u v g e = facing_by m.partner f m.who u v (partner_in ms u) (facing_in ms v) g (facing_at f ms u v g) e

any_from : (f : Name → Bool) (xs : List Name) → list_any f xs ≡ true → (x : Name) × (f x ≡ true)
any_from f [] e = absurd (cc e)
any_from f (x ∷ xs) e = elim (or_cases (f x) (list_any f xs) e) [ inl g ↦ (x, g) | inr g ↦ any_from f xs g ]

-- ---- the rule ----
pub unfaced : (b : Book) (lost : List Name) (node : ℕ) (pair : Pair) → is_faced b.made lost node pair ≡ false → NoOther b lost node pair
unfaced b lost node pair e m q held_m held_q going kept elsewhere partner at by =
    let u = m.who in
    let v = q.who in
    let going_u : is_going b.made u ≡ true = going_at b.made m held_m.0 held_m.1 held_m.2 going in
    let other : nat_eq u.node v.node ≡ false = rw at (unequal u.node node elsewhere) in
    let known : is_some_name (partner_in b.made u) v ≡ true = rw partner (name_itself v) in
    let faces_v : faces b.made lost v u ≡ true = rw (other, going_u, kept, known) refl in
    let opened : has_open_partner b.made lost v ≡ true = facing_at (faces b.made lost v) b.made u v faces_v partner in
    let faced : is_faced b.made lost v.node q.pair ≡ true = given_at (has_open_partner b.made lost) b.made q held_q.0 held_q.1 held_q.2 opened in
    let both : is_faced b.made lost node pair ≡ true = rw (← at, ← by) faced in
    absurd (cc (both, e))

-- ---- the notes of an open end and of its partner, to which the node gave the pair ----
pub record Facing (b : Book) (lost : List Name) (node : ℕ) (pair : Pair) (u : Name) : Type 0 where
  pub holder : MadeNote
  pub partner : MadeNote
  pub in_holder : Contains b.made holder
  pub in_partner : Contains b.made partner
  pub who : holder.who ≡ u
  pub going : any_ends holder.told ≡ false
  pub kept : is_lost lost holder.who ≡ false
  pub elsewhere : holder.who.node ≢ node
  pub met : partner_in b.made holder.who ≡ Some partner.who
  pub at : partner.who.node ≡ node
  pub by : partner.pair ≡ pair

notes_of : (b : Book) (lost : List Name) (node : ℕ) (pair : Pair) (f : Name → Bool) (given : Given f b.made node pair) (u : Name) → faces b.made lost given.note.who u ≡ true → Facing b lost node pair u
notes_of b lost node pair f given u facing =
    let q = given.note in
    let first = and_parts (not (nat_eq u.node q.who.node) && is_open b.made lost u) (is_some_name (partner_in b.made u) q.who) facing in
    let second = and_parts (not (nat_eq u.node q.who.node)) (is_open b.made lost u) first.0 in
    let third = and_parts (is_going b.made u) (not (is_lost lost u)) second.1 in
    let going = going_from b.made u third.0 in
    let m = going.note in
    let kept : is_lost lost m.who ≡ false = rw going.who (not-true (is_lost lost u) third.1) in
    let other : u.node ≢ q.who.node = apart u.node q.who.node (not-true (nat_eq u.node q.who.node) second.0) in
    let node_of : Name → ℕ = λ x. x.node in
    let elsewhere : m.who.node ≢ node = λ same. other (sym (ap node_of going.who) ∙ same ∙ sym given.at) in
    let partner : partner_in b.made m.who ≡ Some q.who = rw going.who (some_is (partner_in b.made u) q.who first.1) in
    record {
      holder = m;
      partner = q;
      in_holder = going.held;
      in_partner = given.held;
      who = going.who;
      going = going.going;
      kept = kept;
      elsewhere = elsewhere;
      met = partner;
      at = given.at;
      by = given.by;
    }

-- of an end that faces one of those to which the node gave the pair
pub faced_notes : (b : Book) (lost : List Name) (node : ℕ) (pair : Pair) (u : Name) → list_any (λ (x : Name). faces b.made lost x u) (given_in b.made node pair) ≡ true → Facing b lost node pair u
faced_notes b lost node pair u e =
    let given = given_from (λ (x : Name). faces b.made lost x u) b.made node pair e in
    notes_of b lost node pair (λ (x : Name). faces b.made lost x u) given u given.passes

pub faced_fails : (b : Book) (lost : List Name) (node : ℕ) (pair : Pair) → is_faced b.made lost node pair ≡ true → NoOther b lost node pair → ⊥
faced_fails b lost node pair e rule =
    let given = given_from (has_open_partner b.made lost) b.made node pair e in
    let found = any_from (faces b.made lost given.note.who) (facing_in b.made given.note.who) given.passes in
    let f = notes_of b lost node pair (has_open_partner b.made lost) given found.0 found.1 in
    rule f.holder f.partner f.in_holder f.in_partner f.going f.kept f.elsewhere f.met f.at f.by
