-- Fragments that carry a message gather to it.
use Rattle.std.proofs.Common.{◌≡◌, ℕ, suc, ◌-◌, ◌<◌, ◌≤◌, List, [], ◌∷◌, ◌++◌, length, Bool, true, false, nat_lt, refl, ap, ◌∙◌, arith, append_assoc, length-append}
use Rattle.std.specs.Prelude.{replicate}
use Rattle.std.proofs.lemmas.Bool.Decides.{nat_tests}
use Rattle.circuit_reassembly.specs.Fragments.{Fragment, fragments_of, More, Whole, gather_step}
use Rattle.circuit_reassembly.specs.Laws.{Carry, GathersTheMessage, answers, held_after}
use Rattle.circuit_reassembly.proofs.Pieces.{fragments_make_the_message}

pub record Gathers (held : List ℕ) (fragments : List Fragment) (message : List ℕ) : Type 0 where
  pub answered : answers held fragments ≡ replicate (length fragments - 1) More ++ Whole message ∷ []
  pub nothing : held_after held fragments ≡ []

has_room : (held piece more : List ℕ) → length (held ++ (piece ++ more)) ≤ 8192 → nat_lt 8192 (length (held ++ piece)) ≡ false
has_room held piece more h =
    let a = length-append held (piece ++ more) in
    let b = length-append piece more in
    let d = length-append held piece in
    grind (arith, nat_tests, a, b, d, h)

some_left : (f : Fragment) (rest : List Fragment) (message : List ℕ) → Carry (f ∷ rest) message → 0 < length message
some_left f [] message c = rw (c.0) (c.1)
some_left f (next ∷ rest) message c = let e = c.2.1 in rw (e, length-append) (omega (arith, c.0))

pub last_step : (held piece : List ℕ) (more : Bool) → nat_lt 8192 (length (held ++ piece)) ≡ false → more ≡ false → gather_step held piece more ≡ ([], Whole (held ++ piece))
last_step held piece more room e = rw (room, e) refl

pub next_step : (held piece : List ℕ) (more : Bool) → nat_lt 8192 (length (held ++ piece)) ≡ false → more ≡ true → gather_step held piece more ≡ (held ++ piece, More)
next_step held piece more room e = rw (room, e) refl

gathers_last : (held : List ℕ) (f : Fragment) (message : List ℕ) → Carry (f ∷ []) message → length (held ++ message) ≤ 8192 → Gathers held (f ∷ []) (held ++ message)
gathers_last held f message c h =
    let room : nat_lt 8192 (length (held ++ f.0)) ≡ false = let fits = rw (c.0) at h in grind (arith, nat_tests, fits) in
    let step = last_step held f.0 f.1 room c.3 in
    record { answered = rw (c.0) (ap (λ s. s.1 ∷ []) step); nothing = ap (λ s. s.0) step }

gathers : (held : List ℕ) (fragments : List Fragment) (message : List ℕ) → Carry fragments message → 0 < length message → length (held ++ message) ≤ 8192 →
    Gathers held fragments (held ++ message)
gathers held [] message c some h = absurd (omega (arith, ap length c, some))
gathers held (f ∷ []) message c some h = gathers_last held f message c h
gathers held (f ∷ next ∷ rest) message c some h =
    let more : List ℕ = c.2.0 in
    let whole : message ≡ f.0 ++ more = c.2.1 in
    let fits = rw whole at h in
    let room : nat_lt 8192 (length (held ++ f.0)) ≡ false = has_room held f.0 more fits in
    let behind = gathers (held ++ f.0) (next ∷ rest) more c.2.2 (some_left next rest more c.2.2) (rw (append_assoc held f.0 more) fits) in
    let step = next_step held f.0 f.1 room c.1 in
    let one_less : suc (suc (length rest)) - 1 ≡ suc (suc (length rest) - 1) = omega arith in
    record {
      answered = ap (λ s. s.1 ∷ answers s.0 (next ∷ rest)) step ∙ rw (behind.answered, append_assoc held f.0 more, whole, one_less) refl;
      nothing = ap (λ s. held_after s.0 (next ∷ rest)) step ∙ behind.nothing;
    }

pub gathers_the_message : GathersTheMessage
gathers_the_message message some fits =
    let g = gathers [] (fragments_of message) message (fragments_make_the_message message) some fits in
    (g.answered, g.nothing)
