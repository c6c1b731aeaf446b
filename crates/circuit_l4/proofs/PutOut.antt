-- Fragments that go out one after the other.
use Rattle.std.proofs.Common.{◌≡◌, ℕ, zero, suc, ◌+◌, ◌++◌, slice_get, refl, ap, sym, ◌∙◌, arith, append_assoc, append-nil, add-one}
use Rattle.circuit_l4.specs.State.{fragments, Effect, State, info, infos}
use Rattle.circuit_l4.specs.Moves.{emit_infos}

-- one more than many
more : (s : State) (n many : ℕ) → infos s n (suc many) ≡ infos s n many ++ infos s (n + many) 1
more s n zero = let here : n + 0 ≡ n = omega arith in rw here refl
more s n (suc many) =
    let there : suc n + many ≡ n + suc many = omega arith in
    ap (λ outs. info s n (slice_get (fragments s.sending) n) ++ outs) (more s (suc n) many ∙ ap (λ m. infos s (suc n) many ++ infos s m 1) there)
    ∙ sym (append_assoc (info s n (slice_get (fragments s.sending) n)) (infos s (suc n) many) (infos s (n + suc many) 1))

pub one_more : (from number : ℕ) (g : Effect) → (k : ℕ) → number ≡ from + k → emit_infos number 1 (emit_infos from k g) ≡ emit_infos from (k + 1) g
one_more from number g k e =
    rw (e, add-one k)
    (ap (λ outs. record g { outs = outs }) (append_assoc g.outs (infos g.end from k) (infos g.end (from + k) 1) ∙ ap (λ outs. g.outs ++ outs) (sym (more g.end from k))))

pub none_out : (from : ℕ) (g : Effect) → emit_infos from 0 g ≡ g
none_out from g = ap (λ outs. record g { outs = outs }) (append-nil g.outs)
