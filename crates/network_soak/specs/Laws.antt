-- What holds of the file of every number. Own profile.
use Rattle.std.specs.Prelude.{ℕ, ◌≡◌, ◌≤◌, length, Ok}
use Rattle.network_file.specs.Networks.{network_of}
use Rattle.network_file.specs.Plan.{Plan}
use Rattle.network_soak.specs.Files.{soak_file}

-- it is the file of a network: no line of it is bad
abbrev pub AreNetworks : Type 0
AreNetworks = (seed : ℕ) → (network : Plan) × (network_of (soak_file seed) ≡ Ok network)

-- and has no more bytes than a network file may have
abbrev pub AreShort : Type 0
AreShort = (seed : ℕ) → length (soak_file seed) ≤ 1048576
