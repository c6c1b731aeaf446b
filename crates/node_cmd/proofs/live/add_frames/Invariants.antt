use Rattle.std.proofs.Common.{◌≡◌, ◌++◌, ℕ, List}
use Rattle.node_core.specs.Fetching.{without_frames}
use Rattle.node_core.specs.Standing.{NodeStands, frames_left}
use Rattle.node_model.specs.States.{NodeState, frames}
use Rattle.node_cmd.specs.Live.{kiss_of}
use Rattle.node_cmd.proofs.live.add_frames.Given as goal

-- the frames that are left come behind the text so far
abbrev pub invariant-loop-frame : goal.invariant-loop-frame
invariant-loop-frame l = record {
  told : (n : NodeState) → NodeStands l.fn.node n
      → (m : NodeState) × NodeStands l.node m × (record m { station = without_frames m.station } ≡ record n { station = without_frames n.station })
      × (l.fn.text ++ kiss_of (frames n.station) ≡ l.text ++ kiss_of (frames m.station));
  grows : (more : List ℕ) × (l.text ≡ l.fn.text ++ more);
}

abbrev pub decreases-loop-frame : goal.decreases-loop-frame
decreases-loop-frame l = frames_left l.node
