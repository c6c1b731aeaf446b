-- The fragments of a message carry it.
use Rattle.std.proofs.Common.{◌≡◌, ℕ, zero, suc, ◌+◌, ◌*◌, ◌-◌, ◌<◌, ◌≤◌, List, [], ◌∷◌, length, take, drop, map, Some, None, refl, ap, sym, ◌∙◌, arith}
use Rattle.std.specs.Prelude.{slice_get}
use Rattle.std.specs.List.{range_with_len}
use Rattle.std.proofs.Math.ListN.{drop_of_length-le}
use Rattle.std.proofs.lemmas.Bool.Decides.{nat_tests}
use Rattle.std.proofs.lemmas.Grind.{div_ceil_times}
use Rattle.std.proofs.lemmas.List.{length-drop, length-take-le, take-append-drop, take_all, drop-drop}
use Rattle.std.proofs.lemmas.List.FromFn.{length-map-range_with_len, get_or-map-range_with_len}
use Rattle.std.proofs.lemmas.Option.{slice_get-get_or}
use Rattle.circuit_reassembly.specs.Fragments.{Fragment, fragment_at, fragments_in, fragments_of}
use Rattle.circuit_reassembly.specs.Laws.{Carry, FragmentsMakeTheMessage}

pub counted : (message : List ℕ) → length (fragments_of message) ≡ fragments_in (length message)
counted message = length-map-range_with_len (fragment_at message) 0 (fragments_in (length message))

pub found : (message : List ℕ) (n : ℕ) → n < fragments_in (length message) → slice_get (fragments_of message) n ≡ Some (fragment_at message n)
found message n h =
    let d : Fragment = fragment_at message n in
    slice_get-get_or (fragments_of message) n d (rw (counted message) h)
    ∙ ap Some (get_or-map-range_with_len (fragment_at message) 0 (fragments_in (length message)) n n d h (omega arith))

past_end : (fragments : List Fragment) (n : ℕ) → length fragments ≤ n → slice_get fragments n ≡ None
past_end [] n h = refl
past_end (f ∷ fs) zero h = absurd (omega (arith, h))
past_end (f ∷ fs) (suc n) h = past_end fs n (omega (arith, h))

pub none_found : (message : List ℕ) (n : ℕ) → fragments_in (length message) ≤ n → slice_get (fragments_of message) n ≡ None
none_found message n h = past_end (fragments_of message) n (rw (counted message) h)

-- the pieces from one on carry the rest of the message, where there are as many as it has
carry_from : (message : List ℕ) (k a : ℕ) → length message ≤ (a + k) * 236 → (a + k) * 236 < length message + 236 →
    Carry (map (fragment_at message) (range_with_len a k)) (drop (a * 236) message)
carry_from message zero a l u = drop_of_length-le message (omega (arith, l))
carry_from message (suc zero) a l u =
    let rest : List ℕ = drop (a * 236) message in
    let long : length rest ≡ length message - a * 236 = length-drop (a * 236) message in
    let all : take 236 rest ≡ rest = take_all 236 rest (omega (arith, l, u, long)) in
    (sym all, rw all (omega (arith, l, u, long)), rw all (omega (arith, l, u, long)), grind (arith, nat_tests, l, u, long))
carry_from message (suc (suc k)) a l u =
    let rest : List ℕ = drop (a * 236) message in
    let long : length rest ≡ length message - a * 236 = length-drop (a * 236) message in
    let more : 236 < length rest = omega (arith, l, u, long) in
    let next : drop 236 rest ≡ drop ((a + 1) * 236) message = drop-drop 236 (a * 236) message ∙ ap (λ n. drop n message) (omega arith) in
    (length-take-le 236 rest (omega (arith, more)), grind (arith, nat_tests, more), (drop 236 rest, sym (take-append-drop 236 rest), rw next (carry_from message (suc k) (a + 1) (omega (arith, l)) (omega (arith, u)))))

pub fragments_make_the_message : FragmentsMakeTheMessage
fragments_make_the_message message =
    let count = div_ceil_times (length message) 236 (omega arith) in
    carry_from message (fragments_in (length message)) 0 (omega (arith, count.0)) (omega (arith, count.1))
