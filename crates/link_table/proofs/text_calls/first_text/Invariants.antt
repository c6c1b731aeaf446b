-- The first of the links that are left is the first of all, since no text waits at those before.
use Rattle.std.proofs.Common.{◌≡◌, length, slice_get}
use Rattle.link_table.specs.Standing.{text_keys}
use Rattle.link_table.proofs.text_calls.first_text.Given as goal

abbrev pub invariant-loop-peer : goal.invariant-loop-peer
invariant-loop-peer l = slice_get (text_keys l.rest) 0 ≡ slice_get (text_keys l.fn.links) 0

abbrev pub decreases-loop-peer : goal.decreases-loop-peer
decreases-loop-peer l = length l.rest
