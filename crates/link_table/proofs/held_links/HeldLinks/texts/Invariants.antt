use Rattle.std.proofs.Common.{◌≡◌, ◌++◌, ◌≤◌, drop, length}
use Rattle.link_table.specs.Standing.{text_keys}
use Rattle.link_table.proofs.held_links.HeldLinks.texts.Given as goal

-- the peers so far and those to come are all of them
abbrev pub invariant-loop-at : goal.invariant-loop-at
invariant-loop-at l =
    record {
      all : l.peers.items ++ text_keys (drop l.at l.fn.self.links.entries) ≡ text_keys l.fn.self.links.entries;
      few : length l.peers.items ≤ l.at;
    }
