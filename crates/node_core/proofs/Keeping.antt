-- The ends that sessions serve.
use Rattle.std.proofs.Common.{◌≡◌, ℕ, List, [], ◌∷◌, ap, map, refl}
use Rattle.std.specs.Prelude.{◌||◌}
use Rattle.node_model.specs.Serving.{is_at_end, is_circuit, is_served}
use Rattle.node_model.specs.Sessions.{Session, bare, circuit_of}

-- a session serves an end, whether what went over its bridge is kept or not
pub served_bare : (id : ℕ) (ss : List Session) → is_served id (map bare ss) ≡ is_served id ss
served_bare id [] = refl
served_bare id (s ∷ ss) = ap (λ b. (is_at_end id s.user || is_circuit id (circuit_of s.stage)) || b) (served_bare id ss)
