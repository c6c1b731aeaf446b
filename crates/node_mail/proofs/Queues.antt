-- Mails that are queued, by their places.
use Rattle.std.proofs.Common.{◌≡◌, ◌≢◌, ℕ, zero, suc, ◌+◌, ◌<◌, ◌≤◌, List, [], ◌∷◌, ◌++◌, length, Bool, true, false, Some, None, refl, sym, ap, cond, arith, get_or}
use Rattle.std.specs.Prelude.{◌==◌, not, remove}
use Rattle.std.specs.List.{AllByRecursion}
use Rattle.std.proofs.lemmas.Bool.{eq-eqb}
use Rattle.std.proofs.Math.Bool.{or-false}
use Rattle.radio_base.proofs.Each.{each_map, each_push, each_filter}
use Rattle.ax_address.specs.Callsign.{Callsign, same_call}
use Rattle.node_mail.specs.declared.queued_mails.QueuedMail.{QueuedMail}
use Rattle.node_mail.specs.Lists.{Letter, letter_of, is_queued_for, without}
use Rattle.node_mail.specs.Queues.{HasNone, IsInOrder, IsLetter, Rises, letter_in, letters}
use Rattle.node_mail.proofs.Letters.{other}

pub each_get : (P : Letter → Type 0) (qs : List QueuedMail) (i : ℕ) (d : QueuedMail) → AllByRecursion P (letters qs) → i < length qs → P (letter_in (get_or qs i d))
each_get P [] i d h k = absurd (omega (arith, k))
each_get P (q ∷ qs) zero d h k = h.0
each_get P (q ∷ qs) (suc i) d h k = each_get P qs i d h.1 (omega (arith, k))

pub each_from : (P : Letter → Type 0) (qs : List QueuedMail) → ((i : ℕ) (d : QueuedMail) → i < length qs → P (letter_in (get_or qs i d))) → AllByRecursion P (letters qs)
each_from P [] f = tt
each_from P (q ∷ qs) f = (f 0 q (omega arith), each_from P qs (λ i d h. f (suc i) d (omega (arith, h))))

pub non_decreasing : (qs : List QueuedMail) → Rises (letters qs) → (i j : ℕ) (d : QueuedMail) → i ≤ j → j < length qs → (get_or qs i d).number ≤ (get_or qs j d).number
non_decreasing [] r i j d h k = absurd (omega (arith, k))
non_decreasing (q ∷ qs) r zero zero d h k = omega arith
non_decreasing (q ∷ qs) r zero (suc j) d h k = let b = each_get (λ (x : Letter). q.number < x.number) qs j d r.0 (omega (arith, k)) in omega (arith, b)
non_decreasing (q ∷ qs) r (suc i) zero d h k = absurd (omega (arith, h))
non_decreasing (q ∷ qs) r (suc i) (suc j) d h k = non_decreasing qs r.1 i j d (omega (arith, h)) (omega (arith, k))

-- where no mail has the number

pub none_of : (n : ℕ) (ls : List Letter) → HasNone n ls → letter_of n ls ≡ None
none_of n [] h = refl
none_of n (l ∷ ls) h = let e : (l.number == n) ≡ false = other l.number n h.0 in rw e (none_of n ls h.1)

pub none_for : (n : ℕ) (dest : Callsign) (ls : List Letter) → HasNone n ls → is_queued_for ls dest n ≡ false
none_for n dest [] h = refl
none_for n dest (l ∷ ls) h = let e : (l.number == n) ≡ false = other l.number n h.0 in rw e (none_for n dest ls h.1)

none_without : (n : ℕ) (ls : List Letter) → HasNone n ls → without n ls ≡ ls
none_without n [] h = refl
none_without n (l ∷ ls) h = let e : (l.number == n) ≡ false = other l.number n h.0 in rw e (ap (λ xs. l ∷ xs) (none_without n ls h.1))

behind : (n : ℕ) (l : Letter) (ls : List Letter) → AllByRecursion (λ (x : Letter). l.number < x.number) ls → l.number ≡ n → HasNone n ls
behind n l ls h e = each_map (λ (x : Letter). l.number < x.number) (λ (x : Letter). x.number ≢ n) (λ x k s. omega (arith, k, e, s)) ls h

-- where the mail of the number has a place

before_it : (n : ℕ) (q : QueuedMail) (qs : List QueuedMail) (i : ℕ) (d : QueuedMail) → AllByRecursion (λ (x : Letter). q.number < x.number) (letters qs) → i < length qs → (get_or qs i d).number ≡ n → (q.number == n) ≡ false
before_it n q qs i d h k e = let b = each_get (λ (x : Letter). q.number < x.number) qs i d h k in other q.number n (λ s. omega (arith, b, e, s))

pub found_of : (n : ℕ) (qs : List QueuedMail) (i : ℕ) (d : QueuedMail) → Rises (letters qs) → i < length qs → (get_or qs i d).number ≡ n → letter_of n (letters qs) ≡ Some (letter_in (get_or qs i d))
found_of n [] i d r k e = absurd (omega (arith, k))
found_of n (q ∷ qs) zero d r k e = let s : (q.number == n) ≡ true = eq-eqb q.number n e in rw s refl
found_of n (q ∷ qs) (suc i) d r k e = let s = before_it n q qs i d r.0 (omega (arith, k)) e in rw s (found_of n qs i d r.1 (omega (arith, k)) e)

pub found_for : (n : ℕ) (dest : Callsign) (qs : List QueuedMail) (i : ℕ) (d : QueuedMail) → Rises (letters qs) → i < length qs → (get_or qs i d).number ≡ n → is_queued_for (letters qs) dest n ≡ same_call (get_or qs i d).dest dest
found_for n dest [] i d r k e = absurd (omega (arith, k))
found_for n dest (q ∷ qs) zero d r k e = let s : (q.number == n) ≡ true = eq-eqb q.number n e in rw (s, none_for n dest (letters qs) (behind n (letter_in q) (letters qs) r.0 e)) (or-false (same_call q.dest dest))
found_for n dest (q ∷ qs) (suc i) d r k e = let s = before_it n q qs i d r.0 (omega (arith, k)) e in rw s (found_for n dest qs i d r.1 (omega (arith, k)) e)

pub found_without : (n : ℕ) (qs : List QueuedMail) (i : ℕ) (d : QueuedMail) → Rises (letters qs) → i < length qs → (get_or qs i d).number ≡ n → letters (remove qs i) ≡ without n (letters qs)
found_without n [] i d r k e = absurd (omega (arith, k))
found_without n (q ∷ qs) zero d r k e = let s : (q.number == n) ≡ true = eq-eqb q.number n e in rw s (sym (none_without n (letters qs) (behind n (letter_in q) (letters qs) r.0 e)))
found_without n (q ∷ qs) (suc i) d r k e = let s = before_it n q qs i d r.0 (omega (arith, k)) e in rw s (ap (λ ls. letter_in q ∷ ls) (found_without n qs i d r.1 (omega (arith, k)) e))

-- the order is kept

rises_case : (l : Letter) (ls : List Letter) (b : Bool) → AllByRecursion (λ (x : Letter). l.number < x.number) ls → Rises ls → Rises (cond b (l ∷ ls) ls)
rises_case l ls true h r = (h, r)
rises_case l ls false h r = r

rises_without : (n : ℕ) (ls : List Letter) → Rises ls → Rises (without n ls)
rises_without n [] r = tt
rises_without n (l ∷ ls) r = rises_case l (without n ls) (not (l.number == n)) (each_filter (λ (x : Letter). l.number < x.number) (λ (x : Letter). not (x.number == n)) ls r.0) (rises_without n ls r.1)

pub in_order_without : (last n : ℕ) (ls rest : List Letter) → rest ≡ without n ls → IsInOrder last ls → IsInOrder last rest
in_order_without last n ls rest e h =
    let kept = λ (x : Letter). not (x.number == n) in
    record {
      rises = rw e (rises_without n ls h.rises);
      most = rw e (each_filter (λ (x : Letter). x.number ≤ last) kept ls h.most);
      each = rw e (each_filter IsLetter kept ls h.each);
    }

rises_push : (ls : List Letter) (l : Letter) → Rises ls → AllByRecursion (λ (x : Letter). x.number < l.number) ls → Rises (ls ++ l ∷ [])
rises_push [] l r h = (tt, tt)
rises_push (x ∷ ls) l r h = (each_push (λ (y : Letter). x.number < y.number) ls l r.0 h.0, rises_push ls l r.1 h.1)

pub in_order_push : (last : ℕ) (ls more : List Letter) (l : Letter) → more ≡ ls ++ l ∷ [] → l.number ≡ last + 1 → IsLetter l → IsInOrder last ls → IsInOrder l.number more
in_order_push last ls more l e n is h =
    let below = each_map (λ (x : Letter). x.number ≤ last) (λ (x : Letter). x.number < l.number) (λ x k. omega (arith, k, n)) ls h.most in
    let most = each_map (λ (x : Letter). x.number ≤ last) (λ (x : Letter). x.number ≤ l.number) (λ x k. omega (arith, k, n)) ls h.most in
    record {
      rises = rw e (rises_push ls l h.rises below);
      most = rw e (each_push (λ (x : Letter). x.number ≤ l.number) ls l most (omega arith));
      each = rw e (each_push IsLetter ls l h.each is);
    }

pub get_any : (qs : List QueuedMail) (i : ℕ) (d e : QueuedMail) → i < length qs → get_or qs i d ≡ get_or qs i e
get_any [] i d e k = absurd (omega (arith, k))
get_any (q ∷ qs) zero d e k = refl
get_any (q ∷ qs) (suc i) d e k = get_any qs i d e (omega (arith, k))

reached : (i at x n : ℕ) → (i < at → x < n) → x ≡ n → at ≤ i
reached i at x n f s = grind arith

-- a place before which the numbers are smaller, and from which on they aren't, is that of no other mail
pub none_between : (n at : ℕ) (qs : List QueuedMail) → Rises (letters qs) → ((i : ℕ) (d : QueuedMail) → i < at → (get_or qs i d).number < n) → ((i : ℕ) (d : QueuedMail) → at ≤ i → i < length qs → n ≤ (get_or qs i d).number)
    → ((d : QueuedMail) → at < length qs → (get_or qs at d).number ≢ n) → HasNone n (letters qs)
none_between n at qs r before after here = each_from (λ (x : Letter). x.number ≢ n) qs (λ i d k s.
    let behind_at : at ≤ i = reached i at (get_or qs i d).number n (before i d) s in
    let up = non_decreasing qs r at i d behind_at k in
    let low = after at d (omega arith) (omega (arith, behind_at, k)) in
    here d (omega (arith, behind_at, k)) (omega (arith, up, low, s)))
