-- What the readers of a frame's parts say to each other. No public clause cites it: not for the reader of a contract.
use Rattle.std.specs.Prelude.{◌≡◌, ℕ, ◌+◌, ◌*◌, ◌<◌, ◌≤◌, List, length, take, drop}
use Rattle.std.specs.List.{AllByRecursion}
use Rattle.ax_address.specs.declared.address.Address.{Address}
use Rattle.ax_frame.specs.Frames.{IsAddress, addresses_octets}

-- the last addresses, from a place on
pub record SpellsLast (at : ℕ) (bytes : List ℕ) (many : List Address) : Type 0 where
  pub some : 0 < length many
  pub within : at + 7 * length many ≤ length bytes
  pub calls : AllByRecursion IsAddress many
  pub spelled : take (7 * length many) (drop at bytes) ≡ addresses_octets many
