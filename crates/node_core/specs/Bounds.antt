-- What a node keeps, in octets, and the most that it may (this project's profile): all its buffers of octets, and 64 for each usable
-- pair of destination and neighbour. Frames and entries that wait to be fetched are left out. What stands beside the octets is left
-- out, too: the lengths of the messages in a ring, numbers, times and calls, which are of one size for each link, end and session; and
-- the qualities of single neighbours.
use Rattle.std.specs.Prelude.{ℕ, ◌+◌, ◌*◌, ◌≤◌, length}
use Rattle.circuit_table.specs.Kept as ends
use Rattle.kiss_framing.specs.Stream as kiss
use Rattle.link_table.specs.Kept as links
use Rattle.node_core.specs.Standing.{Kept}

-- how many links it has, ends, and usable pairs; what the windows of its ends sum to; and how many users it serves at the prompt
abbrev pub links_of : Kept → ℕ
links_of k = length k.station.set.router.carrier.links

abbrev pub ends_of : Kept → ℕ
ends_of k = length k.station.set.held.ends.entries

abbrev pub pairs_of : Kept → ℕ
pairs_of k = length k.station.set.router.table.rows

abbrev pub windows_of : Kept → ℕ
windows_of k = ends.windows k.station.set.held.ends.entries

abbrev pub users_of : Kept → ℕ
users_of k = length k.station.sessions.items

-- The deframer's piece, what the links and the ends keep, and the text that was taken last from each user. Its buffer of 8,192 octets
-- counts whole, since what is done with of a text stays in it until the next one is taken.
abbrev pub kept : Kept → ℕ
kept k =
    kiss.kept k.deframer + links.kept k.station.set.router.carrier + ends.kept k.station.set.held + 8192 * users_of k + 64 * pairs_of k

-- how many neighbours have a path quality of their own
abbrev pub qualities_of : Kept → ℕ
qualities_of k = length k.station.qualities.by_call.entries

-- The most of it: a link keeps at most 98,175 octets, an end 90,347 and 236 for each fragment of its window, and a user is at a link or
-- an end
abbrev pub bound : Kept → ℕ
bound k = 140000 * links_of k + 100000 * ends_of k + 236 * windows_of k + 64 * pairs_of k + 16384

-- It keeps no more than that, has at most 64 links, 64 ends, 16,384 usable pairs and 16 qualities of single neighbours, and serves no
-- more users than its links and ends
pub record IsWithin (k : Kept) : Type 0 where
  pub bound : kept k ≤ bound k
  pub links : links_of k ≤ 64
  pub ends : ends_of k ≤ 64
  pub pairs : pairs_of k ≤ 16384
  pub qualities : qualities_of k ≤ 16
  pub users : users_of k ≤ links_of k + ends_of k
