use Rattle.std.proofs.Common.{◌≡◌, ◌∙◌, false, sym, subst}
use Rattle.ax_address.specs.Callsign.{same_call}
use Rattle.node_core.specs.Broadcasts.{nodes_call}
use Rattle.node_core.specs.Receiving.{modulus_with}
use Rattle.node_core.specs.Standing.{Holds}
use Rattle.node_core.proofs.Passing.{head_read, passes_by}
use Rattle.node_core.proofs.station.Station.overhear.Goals as goal

pub returns-then-not-is_to_nodes : goal.returns-then-not-is_to_nodes
returns-then-not-is_to_nodes c = λ n h.
    let head = c.args.head in
    let octets = c.args.octets.now in
    let other : same_call head.dest.call nodes_call ≡ false = sym c.is_to_nodes.ensures ∙ c.if-not-is_to_nodes.true in
    let read = head_read c.head_spelling.ensures.read octets head c.args.at c.requires.begins in
    subst (Holds c.args.self.now) (sym (passes_by c.args.now.0 (modulus_with head.source.call n) octets head n read other)) h
