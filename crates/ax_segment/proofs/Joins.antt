-- The segments of a message join to it.
use Rattle.std.proofs.Common.{◌≡◌, ℕ, suc, ◌+◌, ◌-◌, ◌%◌, ◌==◌, nat_lt, ◌≤◌, false, true, List, [], ◌∷◌, ◌++◌, length, take, replicate, refl, ap, ◌∙◌, arith, append_assoc}
use Rattle.std.proofs.lemmas.List.{append-nil}
use Rattle.std.proofs.lemmas.Grind.{common_steps}
use Rattle.ax_segment.specs.declared.TheConstants.{FIRST_BIT}
use Rattle.ax_segment.specs.Segments.{cut, counted_down, with_first, segments_of, IsSplittable}
use Rattle.ax_segment.specs.Joining.{HeldMessage, Nothing, Part, Answer, More, Whole, counted, join_step, held_after, answers}
use Rattle.ax_segment.specs.Laws.{joined, SegmentsJoin}
use Rattle.ax_segment.proofs.Cutting.{cut_next, pieces_are_full, length-with_first}

-- these segments are answered by More, and the last by Whole, and nothing is held then
pub record Join (held : HeldMessage) (segments : List (List ℕ)) (n : ℕ) (pid : ℕ) (message : List ℕ) : Type 0 where
  pub given : answers held segments ≡ replicate n More ++ Whole pid message ∷ []
  pub left : held_after held segments ≡ Nothing

continues : (pid : ℕ) (bytes : List ℕ) (n : ℕ) (p : List ℕ) → join_step (Part pid bytes (suc (suc n))) (suc n ∷ p) ≡ (Part pid (bytes ++ p) (suc n), More)
continues pid bytes n p =
    let e : suc (suc n) - 1 ≡ suc n = omega arith in
    let same : (suc n == suc n) ≡ true = grind (arith, common_steps) in
    let some : (suc n == 0) ≡ false = grind (arith, common_steps) in
    rw (e, same, some) refl

joins : (pid : ℕ) (bytes p : List ℕ) (ps : List (List ℕ)) → Join (Part pid bytes (suc (length ps))) (counted_down (p ∷ ps)) (length ps) pid (bytes ++ joined (p ∷ ps))
joins pid bytes p [] = record { given = rw append-nil refl; left = refl }
joins pid bytes p (q ∷ ps) =
    let step = continues pid bytes (length ps) p in
    let rest = joins pid (bytes ++ p) q ps in
    record {
      given = rw (step, rest.given, append_assoc) refl;
      left = ap (λ (next : HeldMessage × Answer). held_after next.0 (counted_down (q ∷ ps))) step ∙ rest.left;
    }

-- the same of all, from the first one on
begins : (pid n : ℕ) (bytes : List ℕ) → n ≤ 127 → join_step Nothing ((FIRST_BIT + n) ∷ pid ∷ bytes) ≡ counted pid bytes n
begins pid n bytes h =
    let high : nat_lt (FIRST_BIT + n) FIRST_BIT ≡ false = grind (arith, common_steps) in
    let low : (FIRST_BIT + n) % FIRST_BIT ≡ n = omega arith in
    rw (high, low) refl

joins_all : (pid : ℕ) (bytes : List ℕ) (ps : List (List ℕ)) → length ps ≤ 127 → Join Nothing (with_first ((pid ∷ bytes) ∷ ps)) (length ps) pid (bytes ++ joined ps)
joins_all pid bytes [] h =
    record { given = rw append-nil refl; left = refl }
joins_all pid bytes (p ∷ ps) h =
    let some : (suc (length ps) == 0) ≡ false = grind (arith, common_steps) in
    let held : counted pid bytes (suc (length ps)) ≡ (Part pid bytes (suc (length ps)), More) = rw some refl in
    let step = begins pid (suc (length ps)) bytes h ∙ held in
    let rest = joins pid bytes p ps in
    record {
      given = rw (step, rest.given) refl;
      left = ap (λ (next : HeldMessage × Answer). held_after next.0 (counted_down (p ∷ ps))) step ∙ rest.left;
    }

-- the pieces of a PID and a message: the first one begins with the PID
of_pieces : (pid : ℕ) (message : List ℕ) (ps : List (List ℕ)) (rest : List (List ℕ)) → ps ≡ (pid ∷ take 254 message) ∷ rest → joined ps ≡ pid ∷ message → length ps ≤ 128 → Join Nothing (with_first ps) (length ps - 1) pid message
of_pieces pid message ps rest e whole h =
    let few : length rest ≤ 127 = omega (arith, ap length e) in
    let same : take 254 message ++ joined rest ≡ message = cc in
    let count : suc (length rest) - 1 ≡ length rest = omega arith in
    rw (e, count) (rw same at (joins_all pid (take 254 message) rest few))

pub joins_whole : (pid : ℕ) (message : List ℕ) → IsSplittable pid message → Join Nothing (segments_of pid message) (length (segments_of pid message) - 1) pid message
joins_whole pid message h =
    let count = length-with_first (cut (pid ∷ message)) in
    let few : length (cut (pid ∷ message)) ≤ 128 = omega (arith, h.1, count) in
    rw count (of_pieces pid message _ _ (cut_next (pid ∷ message) (omega arith)) (pieces_are_full (pid ∷ message)).0 few)

pub segments_join : SegmentsJoin
segments_join pid message h = let all = joins_whole pid message h in (all.given, all.left)
