-- The information messages of an end stand in the order of their first sendings.
use Rattle.std.proofs.Common.{◌≡◌, ◌≤◌, ◌<◌, ◌-◌, ℕ, zero, suc, refl, ap, arith, length, drop, List, [], ◌∷◌, ◌++◌}
use Rattle.std.specs.Prelude.{Bool, true, false, not, cond, ◌&&◌, if◌then◌else◌, nat_lt, filter, Option, Some, None, slice_index_or}
use Rattle.std.proofs.lemmas.List.Sorted.{IsNonDecreasingBy-push}
use Rattle.circuit_set.specs.Books.{SentNote, has}
use Rattle.circuit_table.specs.Events.{Name, same_name}
use Rattle.circuit_verdict.specs.declared.message.Message.{Message}
use Rattle.circuit_verdict.specs.Sendings.{AllUpTo, IsInOrder, Rises, first_sent, messages_in, with_message}

keep_by : (b h : Bool) (m : Message) (xs ys : List Message) → b ≡ false → length xs ≡ length ys → length (cond (h && b) (m ∷ xs) xs) ≡ length ys
keep_by true h m xs ys e same = absurd (cc e)
keep_by false true m xs ys e same = same
keep_by false false m xs ys e same = same

take_by : (b h : Bool) (m : Message) (xs ys : List Message) → b ≡ true → length xs ≡ length ys → length (cond (h && b) (m ∷ xs) xs) ≡ length (cond h (m ∷ ys) ys)
take_by true true m xs ys e same = ap suc same
take_by true false m xs ys e same = same
take_by false h m xs ys e same = absurd (cc e)

-- those that count stand behind the place from which on first sendings are later
pub behind : (p : Message → Bool) (place k : ℕ) (ms : List Message)
    → ((i : ℕ) (d : Message) → i < k → i < length ms → nat_lt place (slice_index_or ms i d).first ≡ false)
    → ((i : ℕ) (d : Message) → k ≤ i → i < length ms → nat_lt place (slice_index_or ms i d).first ≡ true)
    → length (filter (λ (m : Message). p m && nat_lt place m.first) ms) ≡ length (filter p (drop k ms))
behind p place zero [] early late = refl
behind p place (suc k) [] early late = refl
behind p place zero (m ∷ ms) early late =
    take_by (nat_lt place m.first) (p m) m (filter (λ (x : Message). p x && nat_lt place x.first) ms) (filter p ms) (late 0 m (omega arith) (omega arith))
    (behind p place zero ms (λ i d q r. absurd (omega (arith, q))) (λ i d q r. late (suc i) d (omega arith) (omega (arith, r))))
behind p place (suc k) (m ∷ ms) early late =
    keep_by (nat_lt place m.first) (p m) m (filter (λ (x : Message). p x && nat_lt place x.first) ms) (filter p (drop k ms)) (early 0 m (omega arith) (omega arith))
    (behind p place k ms (λ i d q r. early (suc i) d (omega (arith, q)) (omega (arith, r))) (λ i d q r. late (suc i) d (omega (arith, q)) (omega (arith, r))))

last_up : (ms : List Message) (place : ℕ) → AllUpTo place ms → (i : ℕ) (d : Message) → i < length ms → (slice_index_or ms i d).first ≤ place
last_up [] place up i d p = absurd (omega (arith, p))
last_up (k ∷ ms) place up zero d p = up.0
last_up (k ∷ ms) place up (suc i) d p = last_up ms place up.1 i d (omega (arith, p))

rises_push : (ms : List Message) (m : Message) → AllUpTo m.first ms → Rises ms → Rises (ms ++ m ∷ [])
rises_push ms m up rises = IsNonDecreasingBy-push (λ (x : Message). x.first) ms m rises (λ d p. last_up ms m.first up (length ms - 1) d (omega (arith, p)))

up_push : (ms : List Message) (m : Message) (place : ℕ) → AllUpTo place ms → m.first ≤ place → AllUpTo place (ms ++ m ∷ [])
up_push [] m place up p = (p, tt)
up_push (k ∷ ms) m place up p = (up.0, up_push ms m place up.1 p)

up_later : (ms : List Message) (place later : ℕ) → place ≤ later → AllUpTo place ms → AllUpTo later ms
up_later [] place later p up = tt
up_later (m ∷ ms) place later p up = (omega (arith, up.0, p), up_later ms place later p up.1)

-- with one more message or none
up_with : (b : Bool) (ms : List Message) (n place : ℕ) → AllUpTo place ms → AllUpTo place (if b then ms ++ first_sent n place ∷ [] else ms)
up_with true ms n place up = up_push ms (first_sent n place) place up (omega arith)
up_with false ms n place up = up

rises_with : (b : Bool) (ms : List Message) (n place : ℕ) → AllUpTo place ms → Rises ms → Rises (if b then ms ++ first_sent n place ∷ [] else ms)
rises_with true ms n place up rises = rises_push ms (first_sent n place) up rises
rises_with false ms n place up rises = rises

up_number : (who : Name) (number : Option ℕ) (place : ℕ) (ss : List SentNote) (x : Name) (ms : List Message) → AllUpTo place ms → AllUpTo place (with_message who number place ss x ms)
up_number who None place ss x ms up = up
up_number who (Some n) place ss x ms up = up_with (same_name who x && not (has who n ss)) ms n place up

rises_number : (who : Name) (number : Option ℕ) (place : ℕ) (ss : List SentNote) (x : Name) (ms : List Message) → AllUpTo place ms → Rises ms → Rises (with_message who number place ss x ms)
rises_number who None place ss x ms up rises = rises
rises_number who (Some n) place ss x ms up rises = rises_with (same_name who x && not (has who n ss)) ms n place up rises

messages_up : (place : ℕ) (ss : List SentNote) (x : Name) → IsInOrder place ss → AllUpTo place (messages_in ss x)
messages_up place [] x order = tt
messages_up place (s ∷ ss) x order =
    up_later (messages_in (s ∷ ss) x) s.place place (omega (arith, order.0)) (up_number s.who s.number s.place ss x (messages_in ss x) (messages_up s.place ss x order.1))

none_rise : Rises []
none_rise = λ i j d p q. absurd (omega (arith, q))

pub messages_rise : (place : ℕ) (ss : List SentNote) (x : Name) → IsInOrder place ss → Rises (messages_in ss x)
messages_rise place [] x order = none_rise
messages_rise place (s ∷ ss) x order =
    rises_number s.who s.number s.place ss x (messages_in ss x) (messages_up s.place ss x order.1) (messages_rise s.place ss x order.1)
