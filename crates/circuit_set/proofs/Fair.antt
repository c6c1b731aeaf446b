-- What is kept of a fresh run, and how it is kept while no end is made.
use Rattle.std.specs.Prelude.{◌≡◌, ◌≢◌, ℕ, suc, ◌<◌, ◌⊎◌, Bool, true, false, not, ◌&&◌, ◌||◌, if◌then◌else◌, List, [], ◌∷◌, ◌++◌, length, slice_get, Contains, Some, refl}
use Rattle.std.proofs.Common.{sym, ◌∙◌, ap, subst, inl, inr, arith}
use Rattle.std.proofs.lemmas.Bool.{and_parts, not-true}
use Rattle.circuit_l4.specs.declared.notice.EndNotice.{EndNotice}
use Rattle.circuit_table.specs.Pairs.{IsPair}
use Rattle.circuit_table.specs.Sets.{Holder, SetState, has_ended, is_open}
use Rattle.circuit_set.specs.Books.{MadeNote, any_ends, is_lost, partner_in, with_notice}
use Rattle.circuit_table.specs.Events.{Name, same_name}
use Rattle.circuit_set.specs.NotedRuns.{Net, end_at, told_to}
use Rattle.circuit_set.proofs.Bridge.{same_names}
use Rattle.circuit_set.proofs.Ended.{any_append}
use Rattle.circuit_set.proofs.Given.{Numbers}
use Rattle.circuit_set.proofs.Lookups.{has_note}
use Rattle.circuit_set.proofs.Moved.{same_or}
use Rattle.circuit_set.proofs.Noting.{all_noticed, none_noticed, with_notices}
use Rattle.circuit_set.proofs.Stepped.{Onto}

-- ---- notes ----
abbrev pub InMade : MadeNote → List MadeNote → Type 0
InMade m [] = ⊥
InMade m (x ∷ xs) = (m ≡ x) ⊎ InMade m xs

pub in_contains : (m : MadeNote) (ms : List MadeNote) → InMade m ms → Contains ms m
in_contains m [] i = absurd i
in_contains m (x ∷ xs) (inl e) = (0, omega arith, sym e)
in_contains m (x ∷ xs) (inr i) = let r = in_contains m xs i in let l : r.0 < length xs = r.1 in (suc r.0, omega arith, r.2)

-- the note of a name
pub record NoteOf (ms : List MadeNote) (x : Name) : Type 0 where
  pub note : MadeNote
  pub inside : InMade note ms
  pub who : note.who ≡ x
  pub told : note.told ≡ told_to ms x

note_case : (m : MadeNote) (ms : List MadeNote) (x : Name) (b : Bool) → same_name m.who x ≡ b → (b || has_note ms x) ≡ true → (has_note ms x ≡ true → NoteOf ms x) → NoteOf (m ∷ ms) x
note_case m ms x true e h later = record { note = m; inside = inl refl; who = same_names m.who x e; told = sym (ap (λ b. if b then m.told else told_to ms x) e) }
note_case m ms x false e h later =
    let r : NoteOf ms x = later h in
    record { note = r.note; inside = inr r.inside; who = r.who; told = r.told ∙ sym (ap (λ b. if b then m.told else told_to ms x) e) }

pub note_of_name : (ms : List MadeNote) (x : Name) → has_note ms x ≡ true → NoteOf ms x
note_of_name [] x h = cc
note_of_name (m ∷ ms) x h = note_case m ms x (same_name m.who x) refl h (note_of_name ms x)

-- ---- what is kept ----
pub record NoteOk (net : Net) (m : MadeNote) : Type 0 where
  pub end : Holder
  pub there : end_at net m.who ≡ Some end
  pub pair : end.end.pair ≡ m.pair
  pub set : SetState
  pub here : slice_get net.sets m.who.node ≡ Some set
  pub own : set.own ≡ m.own

-- an end that is still held had another index than one that its node has made later
abbrev pub IsPassed : Net → MadeNote → MadeNote → Type 0
IsPassed net q m = q.who.node ≡ m.who.node → (k : Holder) → end_at net q.who ≡ Some k → k.gone ≡ false → q.pair.index ≢ m.pair.index

abbrev pub Passed : Net → List MadeNote → Type 0
Passed net [] = Unit {0}
Passed net (m ∷ ms) = ((q : MadeNote) → InMade q ms → IsPassed net q m) × Passed net ms

pub record Partners (net : Net) (x y : Name) : Type 0 where
  pub mine : has_note net.book.made x ≡ true
  pub theirs : has_note net.book.made y ≡ true
  pub apart : x.node ≢ y.node

abbrev pub One : Net → Type 0
One net =
    (x y z : Name) (h j k : Holder) → end_at net x ≡ Some h → is_open h ≡ true → partner_in net.book.made x ≡ Some y → end_at net y ≡ Some j
    → end_at net z ≡ Some k → k.gone ≡ false → z.node ≡ y.node → k.end.pair ≡ j.end.pair → z ≡ y

abbrev pub SetsOk : Net → Type 0
SetsOk net = (n : ℕ) (s : SetState) → slice_get net.sets n ≡ Some s → Numbers s × IsPair s.next

abbrev pub OversOk : Net → Type 0
OversOk net = (x : Name) (h : Holder) → end_at net x ≡ Some h → any_ends (told_to net.book.made x) ≡ true → has_ended h.end.phase ≡ true

abbrev pub LostOk : Net → List Name → Type 0
LostOk net lost = (x : Name) → is_lost lost x ≡ true → (h : Holder) × (end_at net x ≡ Some h) × (h.gone ≡ true)

pub record Fair (net : Net) (lost : List Name) : Type 0 where
  pub sets : SetsOk net
  pub notes : (m : MadeNote) → InMade m net.book.made → NoteOk net m
  pub ends : (x : Name) (h : Holder) → end_at net x ≡ Some h → has_note net.book.made x ≡ true
  pub passed : Passed net net.book.made
  pub overs : OversOk net
  pub losts : LostOk net lost
  pub partners : (x y : Name) → partner_in net.book.made x ≡ Some y → Partners net x y
  pub one : One net

-- ---- a step by which no end is made ----
-- but for what was told since the notes are the same
abbrev pub SameNotes : List MadeNote → List MadeNote → Type 0
SameNotes [] [] = Unit {0}
SameNotes [] (q ∷ qs) = ⊥
SameNotes (m ∷ ms) [] = ⊥
SameNotes (m ∷ ms) (q ∷ qs) = ((q.who ≡ m.who) × (q.own ≡ m.own) × (q.pair ≡ m.pair)) × SameNotes ms qs

pub same_itself : (ms : List MadeNote) → SameNotes ms ms
same_itself [] = tt
same_itself (m ∷ ms) = ((refl, refl, refl), same_itself ms)

pub same_then : (ls ms qs : List MadeNote) → SameNotes ls ms → SameNotes ms qs → SameNotes ls qs
same_then [] [] [] a b = tt
same_then [] [] (q ∷ qs) a b = b
same_then [] (m ∷ ms) qs a b = absurd a
same_then (l ∷ ls) [] qs a b = absurd a
same_then (l ∷ ls) (m ∷ ms) [] a b = absurd b
same_then (l ∷ ls) (m ∷ ms) (q ∷ qs) a b = ((b.0.0 ∙ a.0.0, b.0.1 ∙ a.0.1, b.0.2 ∙ a.0.2), same_then ls ms qs a.1 b.1)

head_same : (m : MadeNote) (n : EndNotice) (b : Bool) → (let q : MadeNote = if b then record m { told = m.told ++ n ∷ [] } else m in (q.who ≡ m.who) × (q.own ≡ m.own) × (q.pair ≡ m.pair))
head_same m n true = (refl, refl, refl)
head_same m n false = (refl, refl, refl)

same_noticed : (x : Name) (n : EndNotice) (ms : List MadeNote) → SameNotes ms (with_notice x n ms)
same_noticed x n [] = tt
same_noticed x n (m ∷ ms) = (head_same m n (same_name m.who x), same_noticed x n ms)

pub same_all_noticed : (x : Name) (ns : List EndNotice) (ms : List MadeNote) → SameNotes ms (with_notices x ns ms)
same_all_noticed x [] ms = same_itself ms
same_all_noticed x (n ∷ ns) ms = same_then ms (with_notice x n ms) (with_notices x ns (with_notice x n ms)) (same_noticed x n ms) (same_all_noticed x ns (with_notice x n ms))

record WasNote (ms : List MadeNote) (q : MadeNote) : Type 0 where
  note : MadeNote
  inside : InMade note ms
  who : q.who ≡ note.who
  own : q.own ≡ note.own
  pair : q.pair ≡ note.pair

was_note : (ms qs : List MadeNote) (q : MadeNote) → SameNotes ms qs → InMade q qs → WasNote ms q
was_note [] [] q a i = absurd i
was_note [] (p ∷ qs) q a i = absurd a
was_note (m ∷ ms) [] q a i = absurd i
was_note (m ∷ ms) (p ∷ qs) q a (inl e) =
    record { note = m; inside = inl refl; who = ap (λ (r : MadeNote). r.who) e ∙ a.0.0; own = ap (λ (r : MadeNote). r.own) e ∙ a.0.1; pair = ap (λ (r : MadeNote). r.pair) e ∙ a.0.2 }
was_note (m ∷ ms) (p ∷ qs) q a (inr i) = let r : WasNote ms q = was_note ms qs q a.1 i in record { note = r.note; inside = inr r.inside; who = r.who; own = r.own; pair = r.pair }

pub record Grown (net new : Net) : Type 0 where
  pub shape : SameNotes net.book.made new.book.made
  pub noted : (x : Name) → has_note new.book.made x ≡ has_note net.book.made x
  pub partners : (x : Name) → partner_in new.book.made x ≡ partner_in net.book.made x
  pub was : (x : Name) (to : Holder) → end_at new x ≡ Some to → (h : Holder) × (end_at net x ≡ Some h) × Onto h to
  pub is : (x : Name) (h : Holder) → end_at net x ≡ Some h → (to : Holder) × (end_at new x ≡ Some to) × Onto h to
  pub owns : (n : ℕ) (s : SetState) → slice_get net.sets n ≡ Some s → (t : SetState) × (slice_get new.sets n ≡ Some t) × (t.own ≡ s.own)

pub back_false : (a b : Bool) → (a ≡ true → b ≡ true) → b ≡ false → a ≡ false
back_false true b h e = let bad : true ≡ false = sym (h refl) ∙ e in cc
back_false false b h e = refl

-- an open end is held, and hasn't ended
pub open_parts : (h : Holder) → is_open h ≡ true → (h.gone ≡ false) × (has_ended h.end.phase ≡ false)
open_parts h e = let r = and_parts (not h.gone) (not (has_ended h.end.phase)) e in (not-true h.gone r.0, not-true (has_ended h.end.phase) r.1)

open_of : (h : Holder) → h.gone ≡ false → has_ended h.end.phase ≡ false → is_open h ≡ true
open_of h e f = ap (λ b. not b && not (has_ended h.end.phase)) e ∙ ap (λ b. not b) f

was_open : (h to : Holder) → Onto h to → is_open to ≡ true → is_open h ≡ true
was_open h to o e =
    let r = open_parts to e in open_of h (back_false h.gone to.gone o.gone r.0) (back_false (has_ended h.end.phase) (has_ended to.end.phase) o.ended r.1)

module _ (net new : Net) (lost : List Name) (f : Fair net lost) (g : Grown net new) where
  note_now : (q : MadeNote) → InMade q new.book.made → NoteOk new q
  note_now q i =
      let w : WasNote net.book.made q = was_note net.book.made new.book.made q g.shape i in
      let o : NoteOk net w.note = f.notes w.note w.inside in
      let e = g.is w.note.who o.end o.there in
      let s = g.owns w.note.who.node o.set o.here in
      record {
        end = e.0;
        there = subst (λ x. end_at new x ≡ Some e.0) (sym w.who) e.1;
        pair = e.2.pair ∙ o.pair ∙ sym w.pair;
        set = s.0;
        here = subst (λ (x : Name). slice_get new.sets x.node ≡ Some s.0) (sym w.who) s.1;
        own = s.2 ∙ o.own ∙ sym w.own;
      }

  passed_one : (q p m r : MadeNote) → q.who ≡ p.who → q.pair ≡ p.pair → r.who ≡ m.who → r.pair ≡ m.pair → IsPassed net p m → IsPassed new q r
  passed_one q p m r qw qp rwho rp old node k e held same =
      let w = g.was q.who k e in
      let was : end_at net p.who ≡ Some w.0 = subst (λ x. end_at net x ≡ Some w.0) qw w.1 in
      let at : p.who.node ≡ m.who.node = sym (ap (λ (x : Name). x.node) qw) ∙ node ∙ ap (λ (x : Name). x.node) rwho in
      old at w.0 was (back_false w.0.gone k.gone w.2.gone held) (sym (ap (λ p. p.index) qp) ∙ same ∙ ap (λ p. p.index) rp)

  passed_now : (ms qs : List MadeNote) → SameNotes ms qs → Passed net ms → Passed new qs
  passed_now [] [] a p = tt
  passed_now [] (q ∷ qs) a p = absurd a
  passed_now (m ∷ ms) [] a p = absurd a
  passed_now (m ∷ ms) (q ∷ qs) a p = (
    λ r i. let w : WasNote ms r = was_note ms qs r a.1 i in passed_one r w.note m q w.who w.pair a.0.0 a.0.2 (p.0 w.note w.inside),
    passed_now ms qs a.1 p.1,
  )

  one_now : One new
  one_now x y z h j k ex lasts p ey ez held node same =
      let a = g.was x h ex in
      let b = g.was y j ey in
      let c = g.was z k ez in
      f.one x y z a.0 b.0 c.0 a.1 (was_open a.0 h a.2 lasts) (sym (g.partners x) ∙ p) b.1 c.1 (back_false c.0.gone k.gone c.2.gone held) node (sym c.2.pair ∙ same ∙ b.2.pair)

  pub fair_grown : (gone : List Name) → SetsOk new → OversOk new → LostOk new gone → Fair new gone
  fair_grown gone sets overs losts = record {
    sets = sets;
    notes = note_now;
    ends = λ x h e. let w = g.was x h e in g.noted x ∙ f.ends x w.0 w.1;
    passed = passed_now net.book.made new.book.made g.shape f.passed;
    overs = overs;
    losts = losts;
    partners = λ x y e. let p : Partners net x y = f.partners x y (sym (g.partners x) ∙ e) in record { mine = g.noted x ∙ p.mine; theirs = g.noted y ∙ p.theirs; apart = p.apart };
    one = one_now;
  }

  -- who was lost stays so
  pub losts_now : LostOk new lost
  losts_now x e = let r = f.losts x e in let w = g.is x r.0 r.1 in (w.0, w.1, w.2.gone r.2)

-- ---- what an end tells ----
or_either : (a b : Bool) (P : Type 0) → (a || b) ≡ true → (a ≡ true → P) → (b ≡ true → P) → P
or_either true b P e p q = p refl
or_either false b P e p q = q e

module _ (net new : Net) (lost : List Name) (f : Fair net lost) (g : Grown net new) (x : Name) (to : Holder) (notes : List EndNotice) (there : end_at new x ≡ Some to)
    (made : new.book.made ≡ with_notices x notes net.book.made) (noted : has_note net.book.made x ≡ true) (told : any_ends notes ≡ true → has_ended to.end.phase ≡ true) where
  over_case : (z : Name) (h : Holder) → end_at new z ≡ Some h → any_ends (told_to new.book.made z) ≡ true → (x ≡ z) ⊎ (x ≡ z → ⊥) → has_ended h.end.phase ≡ true
  over_case z h e t (inl same) =
      let there_z : end_at new z ≡ Some to = subst (λ w. end_at new w ≡ Some to) same there in
      let two : Some to ≡ Some h = sym there_z ∙ e in
      let is : to ≡ h = cc in
      let w = g.was x to there in
      let at : told_to new.book.made z ≡ told_to net.book.made x ++ notes = ap (λ v. told_to new.book.made v) (sym same) ∙ ap (λ ms. told_to ms x) made ∙ all_noticed x notes net.book.made noted in
      let both : (any_ends (told_to net.book.made x) || any_ends notes) ≡ true = sym (any_append (told_to net.book.made x) notes) ∙ ap any_ends (sym at) ∙ t in
      subst (λ (k : Holder). has_ended k.end.phase ≡ true) is
      (or_either (any_ends (told_to net.book.made x)) (any_ends notes) (has_ended to.end.phase ≡ true) both (λ o. w.2.ended (f.overs x w.0 w.1 o)) told)
  over_case z h e t (inr apart) =
      let w = g.was z h e in
      let at : told_to new.book.made z ≡ told_to net.book.made z = ap (λ ms. told_to ms z) made ∙ none_noticed x z notes net.book.made apart in
      w.2.ended (f.overs z w.0 w.1 (sym (ap any_ends at) ∙ t))

  pub overs_noticed : OversOk new
  overs_noticed z h e t = over_case z h e t (same_or x z)
