-- With delays of half of T1 a life isn't safe.
use Rattle.std.proofs.Common.{◌≡◌, ◌⊎◌, inl, inr, ℕ, [], ◌∷◌, Option, Some, None, refl, ap, arith}
use Rattle.radio_base.specs.declared.payload.Payload.{Payload}
use Rattle.link_life.specs.Ends.{Epoch, partner_of}
use Rattle.link_life.specs.Laws.{HalfIsTooLong}

-- the epoch that the late answer began, and the one to which the second set-up command has reset the other end; each has heard the first one there
abbrev late : Payload → Epoch
late p = record { given = []; received = p ∷ []; acked = 0; heard = 1 ∷ [] }

abbrev reset : Epoch
reset = record { given = []; received = []; acked = 0; heard = 1 ∷ [] }

abbrev partner_in : Option Epoch → ℕ
partner_in None = 0
partner_in (Some e) = partner_of e.heard

-- but the partner of the first isn't the second epoch
not_mutual : (p : Payload) (q : Epoch) → Some (late p) ≡ Some q → (partner_of q.heard ≡ 0) ⊎ (partner_of q.heard ≡ 2) → ⊥
not_mutual p q e (inl z) = let h : 1 ≡ partner_of q.heard = ap partner_in e in absurd (omega (arith, h, z))
not_mutual p q e (inr z) = let h : 1 ≡ partner_of q.heard = ap partner_in e in absurd (omega (arith, h, z))

pub half_is_too_long : HalfIsTooLong
half_is_too_long p s = let w = (s.b 1 reset refl).partner in not_mutual p w.0 w.1 w.2.partners_partner
