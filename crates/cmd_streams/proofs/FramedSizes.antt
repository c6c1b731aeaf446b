-- How long KISS bytes are.
use Rattle.std.proofs.Common.{◌≡◌, ◌≤◌, ◌*◌, ◌+◌, ℕ, List, [], ◌∷◌, length, arith, Bool, true, false, cond}
use Rattle.std.specs.Prelude.{◌==◌, Result, Ok, Err, OnOk, IsOk}
use Rattle.std.specs.List.{flat_map}
use Rattle.std.proofs.lemmas.List.{length-append}
use Rattle.kiss_framing.specs.declared.TheConstants.{FEND, FESC, TFEND, TFESC}
use Rattle.kiss_framing.specs.Stream.{escape_of, framed}

two_at_most : (b c : Bool) (x y z w : ℕ) → length (cond b (x ∷ y ∷ []) (cond c (x ∷ z ∷ []) (w ∷ []))) ≤ 2
two_at_most true c x y z w = omega arith
two_at_most false true x y z w = omega arith
two_at_most false false x y z w = omega arith

escaped_len : (bs : List ℕ) → length (flat_map escape_of bs) ≤ 2 * length bs
escaped_len [] = omega arith
escaped_len (b ∷ bs) =
    let one : length (escape_of b) ≤ 2 = two_at_most (b == FEND) (b == FESC) FESC TFEND TFESC b in
    let more = escaped_len bs in
    omega (arith, length-append (escape_of b) (flat_map escape_of bs), one, more)

framed_len : (octets : List ℕ) → length (framed 0 0 octets) ≤ 2 * length octets + 4
framed_len octets =
    let body = flat_map escape_of (0 ∷ octets) in
    let more : length body ≤ 2 * length (0 ∷ octets) = escaped_len (0 ∷ octets) in
    omega (arith, length-append body (FEND ∷ []), more)

ok_so : {A E : Type 0} {P : Type 0} → (r : Result A E) → IsOk r → OnOk r P → P
ok_so (Ok x) h p = p
ok_so (Err e) h p = absurd cc

-- octets are enframed where there is room for each of them twice and four bytes more
pub framed_so : {A E : Type 0} → (cap : ℕ) (r : Result A E) (octets bytes : List ℕ) → (length (framed 0 0 octets) ≤ cap → IsOk r) → OnOk r (bytes ≡ framed 0 0 octets) → 2 * length octets + 4 ≤ cap → bytes ≡ framed 0 0 octets
framed_so cap r octets bytes fits ok room = ok_so r (fits (omega (arith, framed_len octets, room))) ok
