-- Copies are equal in all but their time to live.
use Rattle.std.proofs.Common.{◌≡◌, ◌≤◌, ◌<◌, ◌∙◌, ℕ, suc, refl, sym, ap, arith, length, length-append, length-take-le, take, drop, List, [], ◌∷◌, ◌++◌}
use Rattle.std.specs.Prelude.{◌≢◌, Bool, true, false, cond, ◌&&◌, if◌then◌else◌, nat_eq, nat_le, Option, Some, None}
use Rattle.std.proofs.lemmas.Bool.Decides.{nat_tests}
use Rattle.std.specs.Ordering.{is_eq, nat_cmp, ordering_then}
use Rattle.std.specs.declared.cmp.Ordering.{Ordering}
use Rattle.std.specs.declared.cmp.Ordering.TheVariants.{Less, Equal, Greater}
use Rattle.std.specs.Cmp.Lexicographic.{pointwise, slice_cmp}
use Rattle.std.proofs.Math.Bool.{and-false, and-true}
use Rattle.ax_address.proofs.SameCalls.{letters_turned}
use Rattle.l3_datagram.specs.declared.datagram.TheConstants.{HEAD_SIZE, TTL_AT}
use Rattle.circuit_set.specs.Books.{SentNote, latest_in}
use Rattle.circuit_table.specs.Events.{Name, is_copy, same_name}
use Rattle.circuit_verdict.specs.declared.sendings.Likeness.{Likeness}
use Rattle.circuit_verdict.specs.declared.sendings.Sending.{Sending}
use Rattle.circuit_verdict.specs.Sendings.{core, latest_like, likeness_cmp, name_cmp, sending_in, sending_of}
use Rattle.circuit_verdict.proofs.Tests.{and_turned}

-- ---- equal in order is equal ----
then_by : (o p : Ordering) → is_eq (ordering_then o p) ≡ is_eq o && is_eq p
then_by Less p = refl
then_by Equal p = refl
then_by Greater p = refl

nat_by : (a b : ℕ) → is_eq (nat_cmp a b) ≡ nat_eq a b
nat_by a b = grind (arith, nat_tests)

name_by : (x y : Name) → is_eq (name_cmp x y) ≡ same_name x y
name_by x y = then_by (nat_cmp x.node y.node) (nat_cmp x.id y.id) ∙ rw (nat_by x.node y.node, nat_by x.id y.id) refl

bytes_by : (xs ys : List ℕ) → is_eq (slice_cmp nat_cmp xs ys) ≡ pointwise nat_eq xs ys
bytes_by [] [] = refl
bytes_by [] (y ∷ ys) = refl
bytes_by (x ∷ xs) [] = refl
bytes_by (x ∷ xs) (y ∷ ys) = then_by (nat_cmp x y) (slice_cmp nat_cmp xs ys) ∙ rw (nat_by x y, bytes_by xs ys) refl

pub likeness_by : (a b : Likeness) → is_eq (likeness_cmp a b) ≡ same_name a.who b.who && pointwise nat_eq a.octets.items b.octets.items
likeness_by a b =
    then_by (name_cmp a.who b.who) (slice_cmp nat_cmp a.octets.items b.octets.items)
    ∙ rw (name_by a.who b.who, bytes_by a.octets.items b.octets.items) refl

-- ---- without the time to live ----
-- lists of different lengths aren't equal
unlike : (xs ys : List ℕ) → length xs ≢ length ys → pointwise nat_eq xs ys ≡ false
unlike [] [] n = absurd (n refl)
unlike [] (y ∷ ys) n = refl
unlike (x ∷ xs) [] n = refl
unlike (x ∷ xs) (y ∷ ys) n = rw (unlike xs ys (λ e. n (ap suc e)), and-false (nat_eq x y)) refl

-- lists whose last parts are equally long are equal in both parts or in none
parts_by : (a b c d : List ℕ) → length b ≡ length d → pointwise nat_eq (a ++ b) (c ++ d) ≡ pointwise nat_eq b d && pointwise nat_eq a c
parts_by [] b [] d e = sym (and-true (pointwise nat_eq b d))
parts_by [] b (y ∷ c) d e = unlike b (y ∷ c ++ d) (λ f. absurd (omega (arith, e, f, length-append c d))) ∙ sym (and-false (pointwise nat_eq b d))
parts_by (x ∷ a) b [] d e = unlike (x ∷ a ++ b) d (λ f. absurd (omega (arith, e, f, length-append a b))) ∙ sym (and-false (pointwise nat_eq b d))
parts_by (x ∷ a) b (y ∷ c) d e = rw (parts_by a b c d e) (and_turned (nat_eq x y) (pointwise nat_eq b d) (pointwise nat_eq a c))

whole : (d : List ℕ) → HEAD_SIZE ≤ length d → nat_le HEAD_SIZE (length d) ≡ true
whole d p = grind (arith, nat_tests, p)

cut_short : (d : List ℕ) → length d < HEAD_SIZE → nat_le HEAD_SIZE (length d) ≡ false
cut_short d p = grind (arith, nat_tests, p)

at_least : (d : List ℕ) → nat_le HEAD_SIZE (length d) ≡ true → HEAD_SIZE ≤ length d
at_least d e = grind (arith, nat_tests, e)

front : (d : List ℕ) → HEAD_SIZE ≤ length d → length (take TTL_AT d) ≡ TTL_AT
front d p = let shorter : TTL_AT ≤ length d = omega (arith, p) in length-take-le TTL_AT d shorter

core_by : (d e : List ℕ) → HEAD_SIZE ≤ length d → HEAD_SIZE ≤ length e
    → pointwise nat_eq (core e) (core d) ≡ pointwise nat_eq (take TTL_AT d) (take TTL_AT e) && pointwise nat_eq (drop HEAD_SIZE d) (drop HEAD_SIZE e)
core_by d e p q =
    letters_turned (core e) (core d)
    ∙ parts_by (drop HEAD_SIZE d) (take TTL_AT d) (drop HEAD_SIZE e) (take TTL_AT e) (front d p ∙ sym (front e q))

copy_by : (h : Bool) (d e : List ℕ) → HEAD_SIZE ≤ length d → nat_le HEAD_SIZE (length e) ≡ h
    → h && pointwise nat_eq (core e) (core d)
    ≡ pointwise nat_eq (take TTL_AT d) (take TTL_AT e) && pointwise nat_eq (drop HEAD_SIZE d) (drop HEAD_SIZE e) && nat_le HEAD_SIZE (length d) && h
copy_by true d e p q = rw (whole d p) (core_by d e p (at_least e q) ∙ sym (and-true _ ∙ and-true _))
copy_by false d e p q = sym (and-false _)

copy_is : (d e : List ℕ) → HEAD_SIZE ≤ length d → nat_le HEAD_SIZE (length e) && pointwise nat_eq (core e) (core d) ≡ is_copy d e
copy_is d e p = copy_by (nat_le HEAD_SIZE (length e)) d e p refl

sending_by : (b : Bool) (s : SentNote) (rest : Option SentNote) → (if b then Some (sending_of s) else sending_in rest) ≡ sending_in (if b then Some s else rest)
sending_by true s rest = refl
sending_by false s rest = refl

pub latest_found : (ss : List SentNote) (y : Name) (d : List ℕ) → HEAD_SIZE ≤ length d → latest_like ss y (core d) ≡ sending_in (latest_in ss y d)
latest_found [] y d p = refl
latest_found (s ∷ ss) y d p =
    rw (copy_is d s.datagram p, latest_found ss y d p) (sending_by (same_name s.who y && is_copy d s.datagram) s (latest_in ss y d))

no_copy : (d e : List ℕ) → length d < HEAD_SIZE → is_copy d e ≡ false
no_copy d e p = rw (cut_short d p, and-false (pointwise nat_eq (take TTL_AT d) (take TTL_AT e) && pointwise nat_eq (drop HEAD_SIZE d) (drop HEAD_SIZE e))) refl

pub latest_short : (ss : List SentNote) (y : Name) (d : List ℕ) → length d < HEAD_SIZE → latest_in ss y d ≡ None
latest_short [] y d p = refl
latest_short (s ∷ ss) y d p = rw (no_copy d s.datagram p, and-false (same_name s.who y)) (latest_short ss y d p)

-- one more sending
pub latest_noted : (key k : Likeness) (who : Name) (d : List ℕ) (v : Sending) (ss : List SentNote) → key.who ≡ who → key.octets.items ≡ core d → HEAD_SIZE ≤ length d
    → cond (is_eq (likeness_cmp key k)) (Some v) (latest_like ss k.who k.octets.items)
    ≡ latest_like (record { who = who; place = v.place; number = v.number; datagram = d } ∷ ss) k.who k.octets.items
latest_noted key k who d v ss e f p = rw (likeness_by key k, e, f, whole d p) refl
