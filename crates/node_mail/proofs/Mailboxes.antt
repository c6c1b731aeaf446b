-- Mails that are stored, by their names.
use Rattle.std.proofs.Common.{◌≡◌, ◌∙◌, ℕ, ◌+◌, ◌-◌, List, [], ◌∷◌, ◌++◌, length, length-append, Bool, true, false, Option, Some, None, refl, sym, ap, cond, is_some, arith}
use Rattle.std.proofs.lemmas.Bool.{eqb-true}
use Rattle.std.proofs.lemmas.List.Elements.{filter-append}
use Rattle.std.specs.Prelude.{◌&&◌, ◌||◌, ◌==◌, nat_eq, not}
use Rattle.std.specs.Map.{lookup, set_value, values_of}
use Rattle.ax_address.specs.Callsign.{Callsign, same_call}
use Rattle.ax_address.proofs.SameCalls.{call_turned}
use Rattle.ax_address.proofs.SameNumbers.{nat_turned}
use Rattle.node_mail.specs.declared.mail.Mail.{Mail}
use Rattle.node_mail.specs.declared.mail.MailName.{MailName}
use Rattle.node_mail.specs.Lists.{has_text, is_readable, is_stored, killed_in, stored_mail, with_texts, without_text}
use Rattle.node_mail.specs.Mailboxes.{AreCounted, AreNamed, name_of}

abbrev pub same_name : MailName → MailName → Bool
same_name a b = same_call a.origin b.origin && nat_eq a.number b.number

abbrev pub name : Callsign → ℕ → MailName
name origin number = record { origin = origin; number = number }

same_at : (e : MailName × Mail) (origin : Callsign) (n : ℕ) → e.0 ≡ name_of e.1 → same_name (name origin n) e.0 ≡ (same_call e.1.origin origin && (e.1.number == n))
same_at e origin n h = ap (same_name (name origin n)) h ∙ (ap (λ b. b && (n == e.1.number)) (call_turned origin e.1.origin) ∙ ap (λ b. same_call e.1.origin origin && b) (nat_turned n e.1.number))

found_case : (v : Mail) (rest : Option Mail) (b more : Bool) → is_some rest ≡ more → is_some (cond b (Some v) rest) ≡ (b || more)
found_case v rest true more h = refl
found_case v rest false more h = h

pub found : (es : List (MailName × Mail)) (origin : Callsign) (n : ℕ) → AreNamed es → is_some (lookup (same_name (name origin n)) es) ≡ is_stored (values_of es) origin n
found [] origin n h = refl
found (e ∷ es) origin n h =
    found_case e.1 (lookup (same_name (name origin n)) es) (same_name (name origin n) e.0) (is_stored (values_of es) origin n) (found es origin n h.1)
    ∙ ap (λ b. b || is_stored (values_of es) origin n) (same_at e origin n h.0)

none_case : (o : Option Mail) → is_some o ≡ false → o ≡ None
none_case None h = refl
none_case (Some m) h = absurd (cc)

pub not_found : (es : List (MailName × Mail)) (origin : Callsign) (n : ℕ) → AreNamed es → is_stored (values_of es) origin n ≡ false → lookup (same_name (name origin n)) es ≡ None
not_found es origin n h k = none_case (lookup (same_name (name origin n)) es) (found es origin n h ∙ k)

pub values_push : (es : List (MailName × Mail)) (e : MailName × Mail) → values_of (es ++ e ∷ []) ≡ values_of es ++ e.1 ∷ []
values_push [] e = refl
values_push (x ∷ es) e = ap (λ ms. x.1 ∷ ms) (values_push es e)

pub found_mail : (es : List (MailName × Mail)) (origin : Callsign) (n : ℕ) → AreNamed es → lookup (same_name (name origin n)) es ≡ stored_mail (values_of es) origin n
found_mail [] origin n h = refl
found_mail (e ∷ es) origin n h =
    ap (λ b. cond b (Some e.1) (lookup (same_name (name origin n)) es)) (same_at e origin n h.0)
    ∙ ap (λ r. cond (same_call e.1.origin origin && (e.1.number == n)) (Some e.1) r) (found_mail es origin n h.1)

-- a mail is killed

set_case : (e : MailName × Mail) (es : List (MailName × Mail)) (origin : Callsign) (n : ℕ) (m : Mail) (b : Bool) (rest : Option Mail)
    → (rest ≡ Some m → values_of (set_value (same_name (name origin n)) es (without_text m)) ≡ killed_in (values_of es) origin n) → cond b (Some e.1) rest ≡ Some m
    → values_of (cond b ((e.0, without_text m) ∷ es) (e ∷ set_value (same_name (name origin n)) es (without_text m))) ≡ cond b (without_text e.1 ∷ values_of es) (e.1 ∷ killed_in (values_of es) origin n)
set_case e es origin n m true rest f h = let s : e.1 ≡ m = cc in ap (λ (x : Mail). without_text x ∷ values_of es) (sym s)
set_case e es origin n m false rest f h = ap (λ ms. e.1 ∷ ms) (f h)

pub killed_values : (es : List (MailName × Mail)) (origin : Callsign) (n : ℕ) (m : Mail) → AreNamed es → lookup (same_name (name origin n)) es ≡ Some m
    → values_of (set_value (same_name (name origin n)) es (without_text m)) ≡ killed_in (values_of es) origin n
killed_values [] origin n m h f = refl
killed_values (e ∷ es) origin n m h f =
    set_case e es origin n m (same_name (name origin n) e.0) (lookup (same_name (name origin n)) es) (killed_values es origin n m h.1) f
    ∙ ap (λ b. cond b (without_text e.1 ∷ values_of es) (e.1 ∷ killed_in (values_of es) origin n)) (same_at e origin n h.0)

named_case : (test : MailName → Bool) (e : MailName × Mail) (es : List (MailName × Mail)) (m : Mail) (b : Bool) (rest : Option Mail) → e.0 ≡ name_of e.1 → AreNamed es
    → (rest ≡ Some m → AreNamed (set_value test es (without_text m))) → cond b (Some e.1) rest ≡ Some m → AreNamed (cond b ((e.0, without_text m) ∷ es) (e ∷ set_value test es (without_text m)))
named_case test e es m true rest h hs f k = let s : e.1 ≡ m = cc in (h ∙ ap name_of s, hs)
named_case test e es m false rest h hs f k = (h, f k)

named_set : (test : MailName → Bool) (es : List (MailName × Mail)) (m : Mail) → AreNamed es → lookup test es ≡ Some m → AreNamed (set_value test es (without_text m))
named_set test [] m h k = tt
named_set test (e ∷ es) m h k = named_case test e es m (test e.0) (lookup test es) h.0 h.1 (named_set test es m h.1) k

count_case : (m : Mail) (xs ys : List Mail) (b : Bool) → length xs ≡ length ys + 1 → length (cond b (m ∷ xs) xs) ≡ length (cond b (m ∷ ys) ys) + 1
count_case m xs ys true h = omega (arith, h)
count_case m xs ys false h = h

fewer_case : (m : Mail) (ms : List Mail) (origin : Callsign) (n : ℕ) (b : Bool) → (is_readable (stored_mail ms origin n) ≡ true → length (with_texts ms) ≡ length (with_texts (killed_in ms origin n)) + 1)
    → is_readable (cond b (Some m) (stored_mail ms origin n)) ≡ true → length (with_texts (m ∷ ms)) ≡ length (with_texts (cond b (without_text m ∷ ms) (m ∷ killed_in ms origin n))) + 1
fewer_case m ms origin n true f h = ap (λ b. length (cond b (m ∷ with_texts ms) (with_texts ms))) h ∙ omega arith
fewer_case m ms origin n false f h = count_case m (with_texts ms) (with_texts (killed_in ms origin n)) (has_text m) (f h)

pub fewer : (ms : List Mail) (origin : Callsign) (n : ℕ) → is_readable (stored_mail ms origin n) ≡ true → length (with_texts ms) ≡ length (with_texts (killed_in ms origin n)) + 1
fewer [] origin n h = absurd (cc)
fewer (m ∷ ms) origin n h = fewer_case m ms origin n (same_call m.origin origin && (m.number == n)) (fewer ms origin n) h

pub counted_set : (es new : List (MailName × Mail)) (texts : ℕ) (origin : Callsign) (n : ℕ) (m w : Mail) → AreCounted es texts → lookup (same_name (name origin n)) es ≡ Some m
    → is_readable (stored_mail (values_of es) origin n) ≡ true → w ≡ without_text m → new ≡ set_value (same_name (name origin n)) es w → AreCounted new (texts - 1)
counted_set es new texts origin n m w h f there gone e =
    let is : new ≡ set_value (same_name (name origin n)) es (without_text m) = e ∙ ap (set_value (same_name (name origin n)) es) gone in
    let less = fewer (values_of es) origin n there in
    let left : length (with_texts (values_of new)) ≡ length (with_texts (killed_in (values_of es) origin n)) =
    ap (λ (xs : List (MailName × Mail)). length (with_texts (values_of xs))) is ∙ ap (λ ms. length (with_texts ms)) (killed_values es origin n m h.named f) in
    record { named = rw is (named_set (same_name (name origin n)) es m h.named f); counted = omega (arith, h.counted, less, left) }

pub counted_push : (es : List (MailName × Mail)) (e : MailName × Mail) → length (with_texts (values_of (es ++ e ∷ []))) ≡ length (with_texts (values_of es)) + length (with_texts (e.1 ∷ []))
counted_push es e =
    ap (λ ms. length (with_texts ms)) (values_push es e) ∙ (ap length (filter-append has_text (values_of es) (e.1 ∷ [])) ∙ length-append (with_texts (values_of es)) (with_texts (e.1 ∷ [])))

-- where there is no text nothing is killed

empty_of : (xs : List ℕ) → length xs ≡ 0 → [] ≡ xs
empty_of [] h = refl
empty_of (x ∷ xs) h = absurd (omega (arith, h))

not_of : (b : Bool) → not b ≡ false → b ≡ true
not_of true h = refl
not_of false h = absurd (cc)

no_text : (m : Mail) → has_text m ≡ false → without_text m ≡ m
no_text m h = ap (λ items. record m { text = record { items = items } }) (empty_of m.text.items (eqb-true (length m.text.items) 0 (not_of (length m.text.items == 0) h)))

unkilled_case : (m : Mail) (ms : List Mail) (origin : Callsign) (n : ℕ) (b : Bool) → (is_readable (stored_mail ms origin n) ≡ false → killed_in ms origin n ≡ ms)
    → is_readable (cond b (Some m) (stored_mail ms origin n)) ≡ false → cond b (without_text m ∷ ms) (m ∷ killed_in ms origin n) ≡ m ∷ ms
unkilled_case m ms origin n true f h = ap (λ x. x ∷ ms) (no_text m h)
unkilled_case m ms origin n false f h = ap (λ xs. m ∷ xs) (f h)

pub unkilled : (ms : List Mail) (origin : Callsign) (n : ℕ) → is_readable (stored_mail ms origin n) ≡ false → killed_in ms origin n ≡ ms
unkilled [] origin n h = refl
unkilled (m ∷ ms) origin n h = unkilled_case m ms origin n (same_call m.origin origin && (m.number == n)) (unkilled ms origin n) h
