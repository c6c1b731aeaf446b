use Rattle.std.proofs.Common.{◌≡◌, ℕ, ◌+◌, ◌-◌, ◌++◌, List, length, take, drop, sym, arith}
use Rattle.std.proofs.lemmas.List.{take_all, take-append-drop, drop-drop, length-drop}

-- the bytes behind `at` are those that a read has copied to the front of a buffer, and the rest
pub drop-copied : (bytes buf : List ℕ) (at n : ℕ) → take n buf ≡ take n (take (length bytes - at) (drop at bytes)) → drop at bytes ≡ take n buf ++ drop (at + n) bytes
drop-copied bytes buf at n front =
    let all : take (length bytes - at) (drop at bytes) ≡ drop at bytes = take_all (length bytes - at) (drop at bytes) (omega (arith, length-drop at bytes)) in
    rw front (rw all (sym (rw (← (drop-drop n at bytes)) (take-append-drop n (drop at bytes)))))
