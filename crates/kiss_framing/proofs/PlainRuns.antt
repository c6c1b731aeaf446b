-- Bytes that aren't escaped, and those that follow.
use Rattle.std.proofs.Common.{◌≡◌, ◌≤◌, ◌<◌, ◌+◌, ◌-◌, ◌++◌, ◌∙◌, ℕ, refl, sym, ap, List, [], ◌∷◌, length, take, drop, arith, append_assoc, length-append}
use Rattle.std.specs.List.{flat_map, AllByRecursion}
use Rattle.std.proofs.lemmas.List.{take-append-drop, take-append-le, length-take}
use Rattle.std.proofs.lemmas.Grind.{flat_map-append}
use Rattle.kiss_framing.specs.Stream.{escape_of}
use Rattle.kiss_framing.specs.Stepping.{IsPlain}

plain_one : (b : ℕ) → IsPlain b → escape_of b ≡ b ∷ []
plain_one b p = rw (p.0, p.1) refl

pub escaped_run : (run : List ℕ) → AllByRecursion IsPlain run → flat_map escape_of run ≡ run
escaped_run [] p = refl
escaped_run (b ∷ run) p = ap (λ xs. xs ++ flat_map escape_of run) (plain_one b p.0) ∙ ap (λ xs. b ∷ xs) (escaped_run run p.1)

pub escaped_parts : (n : ℕ) (bytes : List ℕ) → flat_map escape_of bytes ≡ flat_map escape_of (take n bytes) ++ flat_map escape_of (drop n bytes)
escaped_parts n bytes = ap (λ bs. flat_map escape_of bs) (sym (take-append-drop n bytes)) ∙ flat_map-append escape_of (take n bytes) (drop n bytes)

-- where the first bytes have no room, all have none
pub no_room_for_run : (run bytes : List ℕ) (before room : ℕ) → AllByRecursion IsPlain run → run ≡ take (length run) bytes → room < before + length run → room < before + length (flat_map escape_of bytes)
no_room_for_run run bytes before room plain front full =
    let first : flat_map escape_of (take (length run) bytes) ≡ run = ap (λ bs. flat_map escape_of bs) (sym front) ∙ escaped_run run plain in
    omega (arith, full, ap length first, ap length (escaped_parts (length run) bytes), length-append (flat_map escape_of (take (length run) bytes)) (flat_map escape_of (drop (length run) bytes)))

pub front_kept : (start now more new : List ℕ) → new ≡ now ++ more → take (length start) now ≡ start → take (length start) new ≡ start
front_kept start now more new e front =
    let short : length start ≤ length now = omega (arith, ap length front, length-take (length start) now) in
    rw e (take-append-le (length start) now more short ∙ front)

pub rest_kept : (start now new bytes : List ℕ) (at count : ℕ) → new ≡ now ++ flat_map escape_of (take count (drop at bytes)) → now ++ flat_map escape_of (drop at bytes) ≡ start ++ flat_map escape_of bytes
    → new ++ flat_map escape_of (drop count (drop at bytes)) ≡ start ++ flat_map escape_of bytes
rest_kept start now new bytes at count e rest =
    rw e (append_assoc now (flat_map escape_of (take count (drop at bytes))) (flat_map escape_of (drop count (drop at bytes))) ∙ (ap (λ xs. now ++ xs) (sym (escaped_parts count (drop at bytes))) ∙ rest))
