-- How many fragments have overtaken a sending: as many as there are different ones.
use Rattle.std.specs.Prelude.{◌≡◌, ℕ, suc, ◌+◌, ◌≤◌, ◌<◌, Bool, true, false, ◌&&◌, nat_eq, nat_lt, if◌then◌else◌, List, [], ◌∷◌, ◌++◌, length, Contains, Option, Some, None, refl}
use Rattle.std.specs.List.{AllByRecursion, IsDistinct, list_any}
use Rattle.std.specs.Cmp.{IsEquivalence}
use Rattle.std.proofs.Common.{sym, ◌∙◌, ap, subst, inl, inr, arith}
use Rattle.std.proofs.lemmas.Map.Made.{length-le_from_is_member}
use Rattle.std.proofs.lemmas.Bool.{and_parts, or_parts, or_right, and_from, or_left, eqb-true, or_cases, both_ways}
use Rattle.ax_address.proofs.SameNumbers.{nat_refl}
use Rattle.circuit_set.specs.Books.{Book, Fresh, HeardNote, SentNote, empty, first_place, heard_number, heard_sending, is_heard, latest_to, with_event, overtakers, overtakes}
use Rattle.circuit_table.specs.Events.{Event, Name, same_name}
use Rattle.circuit_set.specs.Signs.{AreOvertakers}
use Rattle.circuit_table.specs.Sets.{CircuitTold, Made, Sent, Heeded, Notice, Gone, Restarted, Lost}
use Rattle.circuit_set.specs.TooLate.{Overtaker, Overtakes, same_overtaker}
use Rattle.circuit_set.proofs.Among.{by_snoc}
use Rattle.circuit_set.proofs.Bridge.{name_itself, same_names}
use Rattle.circuit_set.proofs.Noted.{book, book_more, marked, marks}
use Rattle.circuit_set.proofs.Overtaken.{first_noted, first_told, heard_marks}

-- ---- when two are one ----
over_so : (a b : Overtaker) → a.by ≡ b.by → a.number ≡ b.number → a ≡ b
over_so a b e f = rw (e, f) refl

over_is : (a b : Overtaker) → same_overtaker a b ≡ true → a ≡ b
over_is a b e = let two = and_parts (same_name b.by a.by) (nat_eq a.number b.number) e in over_so a b (sym (same_names b.by a.by two.0)) (eqb-true a.number b.number two.1)

over_itself : (a : Overtaker) → same_overtaker a a ≡ true
over_itself a = and_from (same_name a.by a.by) (nat_eq a.number a.number) (name_itself a.by) (nat_refl a.number)

over_turned : (a b : Overtaker) → (c d : Bool) → same_overtaker a b ≡ c → same_overtaker b a ≡ d → c ≡ d
over_turned a b true true e f = refl
over_turned a b false false e f = refl
over_turned a b true false e f = absurd (both_ways (same_overtaker b a) f (subst (λ k. same_overtaker k a ≡ true) (over_is a b e) (over_itself a)))
over_turned a b false true e f = absurd (both_ways (same_overtaker a b) e (subst (λ k. same_overtaker k b ≡ true) (over_is b a f) (over_itself b)))

overs_same : IsEquivalence same_overtaker
overs_same = record {
  refl = over_itself;
  symm = λ a b. over_turned a b (same_overtaker a b) (same_overtaker b a) refl refl;
  congr = λ a b c e. ap (λ k. same_overtaker k c) (over_is a b e);
}

-- ---- what is counted ----
abbrev as_over : HeardNote → Overtaker
as_over h = record { by = h.who; number = h.number }

abbrev counted : Name → Name → ℕ → List SentNote → List HeardNote → List Overtaker
counted y x i ss [] = []
counted y x i ss (h ∷ hs) = if overtakes y x i ss h then as_over h ∷ counted y x i ss hs else counted y x i ss hs

count_case : (b : Bool) (o : Overtaker) (os : List Overtaker) (n : ℕ) → length os ≡ n → length (if b then o ∷ os else os) ≡ (if b then 1 else 0) + n
count_case true o os n e = omega (arith, e)
count_case false o os n e = omega (arith, e)

counts : (y x : Name) (i : ℕ) (ss : List SentNote) (hs : List HeardNote) → length (counted y x i ss hs) ≡ overtakers y x i ss hs
counts y x i ss [] = refl
counts y x i ss (h ∷ hs) = count_case (overtakes y x i ss h) (as_over h) (counted y x i ss hs) (overtakers y x i ss hs) (counts y x i ss hs)

-- ---- each once ----
abbrev Apart : Overtaker → List HeardNote → Type 0
Apart o hs = AllByRecursion (λ (h : HeardNote). same_overtaker o (as_over h) ≡ false) hs

abbrev Once : List HeardNote → Type 0
Once [] = Unit {0}
Once (h ∷ hs) = Apart (as_over h) hs × Once hs

unheard_apart : (x : Name) (n : ℕ) (hs : List HeardNote) → is_heard x n hs ≡ false → Apart (record { by = x; number = n }) hs
unheard_apart x n [] e = tt
unheard_apart x n (h ∷ hs) e = let two = or_parts (same_name h.who x && nat_eq n h.number) (is_heard x n hs) e in (two.0, unheard_apart x n hs two.1)

once_case : (x : Name) (n : ℕ) (hs : List HeardNote) → Once hs → (b : Bool) → is_heard x n hs ≡ b → Once (if b then hs else record { who = x; number = n } ∷ hs)
once_case x n hs o true e = o
once_case x n hs o false e = (unheard_apart x n hs e, o)

once_number : (x : Name) (n : Option ℕ) (hs : List HeardNote) → Once hs → Once (heard_number x n hs)
once_number x None hs o = o
once_number x (Some n) hs o = once_case x n hs o (is_heard x n hs) refl

once_sending : (x : Name) (s : Option SentNote) (hs : List HeardNote) → Once hs → Once (heard_sending x s hs)
once_sending x None hs o = o
once_sending x (Some s) hs o = once_number x s.number hs o

once_more : (b : Book) (e : Event) → Once b.heard → Once (with_event b e).heard
once_more b e o = by e.told
  where
    by : (t : CircuitTold) → Once (with_event b (record { node = e.node; own = e.own; told = t })).heard
    by (Made id p at r) = o
    by (Sent id number d) = o
    by (Heeded id d) = once_sending (record { node = e.node; id = id }) (latest_to b (record { node = e.node; id = id }) d) b.heard o
    by (Notice id n) = o
    by (Gone id facts) = o
    by (Restarted q) = o
    by (Lost id facts) = o

once_all : (es : List Event) → Once (book es).heard
once_all = by_snoc (λ es. Once (book es).heard) (λ es e old. subst (λ (b : Book). Once b.heard) (sym (book_more es e)) (once_more (book es) e old)) tt

apart_case : (o : Overtaker) (b : Bool) (p : Overtaker) (ps : List Overtaker) → same_overtaker o p ≡ false → AllByRecursion (λ q. same_overtaker o q ≡ false) ps → AllByRecursion (λ q. same_overtaker o q ≡ false) (if b then p ∷ ps else ps)
apart_case o true p ps e a = (e, a)
apart_case o false p ps e a = a

module _ (y x : Name) (i : ℕ) (ss : List SentNote) where
  counted_apart : (o : Overtaker) (hs : List HeardNote) → Apart o hs → AllByRecursion (λ q. same_overtaker o q ≡ false) (counted y x i ss hs)
  counted_apart o [] a = tt
  counted_apart o (h ∷ hs) a = apart_case o (overtakes y x i ss h) (as_over h) (counted y x i ss hs) a.0 (counted_apart o hs a.1)

  distinct_case : (b : Bool) (o : Overtaker) (os : List Overtaker) → AllByRecursion (λ q. same_overtaker o q ≡ false) os → IsDistinct same_overtaker os → IsDistinct same_overtaker (if b then o ∷ os else os)
  unfolding IsDistinct
  distinct_case true o os a d = (a, d)
  distinct_case false o os a d = d

  counted_once : (hs : List HeardNote) → Once hs → IsDistinct same_overtaker (counted y x i ss hs)
  unfolding IsDistinct
  counted_once [] o = tt
  counted_once (h ∷ hs) o = distinct_case (overtakes y x i ss h) (as_over h) (counted y x i ss hs) (counted_apart (as_over h) hs o.0) (counted_once hs o.1)

  -- ---- which they are ----
  member_case : (q : Overtaker) (b : Bool) (o : Overtaker) (os : List Overtaker) → list_any (same_overtaker q) os ≡ true → list_any (same_overtaker q) (if b then o ∷ os else os) ≡ true
  member_case q true o os e = or_right (same_overtaker q o) (list_any (same_overtaker q) os) e
  member_case q false o os e = e

  is_counted : (q : Overtaker) (hs : List HeardNote) → is_heard q.by q.number hs ≡ true → overtakes y x i ss (record { who = q.by; number = q.number }) ≡ true → list_any (same_overtaker q) (counted y x i ss hs) ≡ true
  is_counted q [] h o = absurd (cc h)
  is_counted q (k ∷ hs) h o = elim (or_cases (same_name k.who q.by && nat_eq q.number k.number) (is_heard q.by q.number hs) h) [
    | inl e ↦ (let same : q ≡ as_over k = over_is q (as_over k) e in
        let yes : overtakes y x i ss k ≡ true = subst (λ (p : Overtaker). overtakes y x i ss (record { who = p.by; number = p.number }) ≡ true) same o in
        ap (λ b. list_any (same_overtaker q) (if b then as_over k ∷ counted y x i ss hs else counted y x i ss hs)) yes ∙ or_left (same_overtaker q (as_over k)) _ e)
    | inr e ↦ member_case q (overtakes y x i ss k) (as_over k) (counted y x i ss hs) (is_counted q hs e o)
  ]

  all_case : (P : Overtaker → Type 0) (b : Bool) (o : Overtaker) (os : List Overtaker) → (b ≡ true → P o) → AllByRecursion P os → AllByRecursion P (if b then o ∷ os else os)
  all_case P true o os f a = (f refl, a)
  all_case P false o os f a = a

  all_counted : (P : Overtaker → Type 0) (whole hs : List HeardNote) → ((z : Name) (n : ℕ) → is_heard z n hs ≡ true → is_heard z n whole ≡ true)
      → ((h : HeardNote) → is_heard h.who h.number whole ≡ true → overtakes y x i ss h ≡ true → P (as_over h)) → AllByRecursion P (counted y x i ss hs)
  all_counted P whole [] into so = tt
  all_counted P whole (h ∷ hs) into so =
      all_case P (overtakes y x i ss h) (as_over h) (counted y x i ss hs)
      (λ o. so h (into h.who h.number (or_left (same_name h.who h.who && nat_eq h.number h.number) (is_heard h.who h.number hs) (and_from _ (nat_eq h.number h.number) (name_itself h.who) (nat_refl h.number)))) o)
      (all_counted P whole hs (λ z n e. into z n (or_right (same_name h.who z && nat_eq n h.number) (is_heard z n hs) e)) so)

of_all : (P : Overtaker → Type 0) (os : List Overtaker) (q : Overtaker) → AllByRecursion P os → list_any (same_overtaker q) os ≡ true → P q
of_all P [] q a e = absurd (cc e)
of_all P (o ∷ os) q a e = elim (or_cases (same_overtaker q o) (list_any (same_overtaker q) os) e) [
  | inl f ↦ subst P (sym (over_is q o f)) a.0
  | inr f ↦ of_all P os q a.1 f
]

inside : (q : Overtaker) (os : List Overtaker) → list_any (same_overtaker q) os ≡ true → Contains os q
inside q [] e = absurd (cc e)
inside q (o ∷ os) e = elim (or_cases (same_overtaker q o) (list_any (same_overtaker q) os) e) [
  | inl f ↦ (0, omega arith, sym (over_is q o f))
  | inr f ↦ (let r = inside q os f in let l : r.0 < length os = r.1 in (suc r.0, omega (arith, l), r.2))
]

-- ---- as many as there are ----
module _ (x y : Name) (upto since : List Event) (fresh : Fresh empty (upto ++ since)) (i : ℕ) (size : length upto ≡ suc i) where
  abbrev all : List Event
  all = upto ++ since

  abbrev pub told : List Overtaker
  told = counted y x i (book all).sent (book all).heard

  overtaken : (o : Overtaker) → Overtakes x y upto since o → overtakes y x i (book all).sent (record { who = o.by; number = o.number }) ≡ true
  overtaken o k = elim k.sent [
    | inl f ↦ or_left (same_name o.by x && nat_lt i (first_place y o.number (book all).sent)) _
        (and_from (same_name o.by x) _ (subst (λ z. same_name o.by z ≡ true) f.0 (name_itself o.by)) (first_noted y o.number upto since fresh i size f.1))
    | inr f ↦ or_right (same_name o.by x && nat_lt i (first_place y o.number (book all).sent)) _
        (and_from (same_name o.by y) _ (subst (λ z. same_name o.by z ≡ true) f.0 (name_itself o.by)) (first_noted x o.number upto since fresh i size f.1))
  ]

  overtaking : (h : HeardNote) → is_heard h.who h.number (book all).heard ≡ true → overtakes y x i (book all).sent h ≡ true → Overtakes x y upto since (as_over h)
  overtaking h e o = record {
    sent = elim (or_cases (same_name h.who x && nat_lt i (first_place y h.number (book all).sent)) (same_name h.who y && nat_lt i (first_place x h.number (book all).sent)) o) [
      | inl f ↦ (let two = and_parts (same_name h.who x) (nat_lt i (first_place y h.number (book all).sent)) f in inl (same_names h.who x two.0, first_told y h.number upto since fresh i size two.1))
      | inr f ↦ (let two = and_parts (same_name h.who y) (nat_lt i (first_place x h.number (book all).sent)) f in inr (same_names h.who y two.0, first_told x h.number upto since fresh i size two.1))
    ];
    heeded = marks (heard_marks h.who h.number) all fresh e;
  }

  -- they are all that there are
  pub they_are : AreOvertakers x y upto since told
  they_are = record {
    different = counted_once y x i (book all).sent (book all).heard (once_all all);
    only = all_counted y x i (book all).sent (Overtakes x y upto since) (book all).heard (book all).heard (λ z n e. e) overtaking;
    all = λ o k. inside o told (is_counted y x i (book all).sent o (book all).heard (marked (heard_marks o.by o.number) all fresh k.heeded) (overtaken o k));
  }

  pub are_as_many : length told ≡ overtakers y x i (book all).sent (book all).heard
  are_as_many = counts y x i (book all).sent (book all).heard

  -- no list of different ones is longer than the count
  pub at_most : (os : List Overtaker) → IsDistinct same_overtaker os → AllByRecursion (Overtakes x y upto since) os → length os ≤ overtakers y x i (book all).sent (book all).heard
  at_most os d a =
      let l : length os ≤ length told = length-le_from_is_member overs_same os told d
      (λ q m. (let k : Overtakes x y upto since q = of_all (Overtakes x y upto since) os q a m in
      is_counted y x i (book all).sent q (book all).heard (marked (heard_marks q.by q.number) all fresh k.heeded) (overtaken q k))) in
      let c : length told ≡ overtakers y x i (book all).sent (book all).heard = counts y x i (book all).sent (book all).heard in
      omega (arith, l, c)

  -- and one is as long
  pub as_many : (a : ℕ) → ((os : List Overtaker) → IsDistinct same_overtaker os → AllByRecursion (Overtakes x y upto since) os → length os < a) → overtakers y x i (book all).sent (book all).heard < a
  as_many a few =
      let l : length told < a = few told (counted_once y x i (book all).sent (book all).heard (once_all all))
      (all_counted y x i (book all).sent (Overtakes x y upto since) (book all).heard (book all).heard (λ z n e. e) overtaking) in
      let c : length told ≡ overtakers y x i (book all).sent (book all).heard = counts y x i (book all).sent (book all).heard in
      omega (arith, l, c)
