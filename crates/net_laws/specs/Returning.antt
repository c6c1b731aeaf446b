-- What alone can break Fresh in a network without restarts, whose nodes all have one modulus. Own profile.
use Rattle.std.specs.Prelude.{ℕ, ◌≡◌, ◌≤◌, List, ◌++◌, Ok, map}
use Rattle.std.specs.List.{AllByRecursion}
use Rattle.circuit_table.specs.Events as set_events
use Rattle.circuit_set.specs.Returning.{FreshBut, given_by}
use Rattle.network_file.specs.declared.plan.instructions.NumberedInstruction.{NumberedInstruction}
use Rattle.network_file.specs.Networks.{network_of}
use Rattle.network_file.specs.Plan.{Plan}
use Rattle.net_model.specs.Circuits.{circuit_events}
use Rattle.net_laws.specs.Datagrams.{IsOfModulus, LineRestartsNone}
use Rattle.net_model.specs.Lines.{do_lines}
use Rattle.net_model.specs.World.{World, start}

-- what a world has told of circuits
abbrev pub told_of_circuits : World → List set_events.Event
told_of_circuits w = map (λ e. e.event) (circuit_events w)

-- What a front of a file's lines has come to, where none of them starts a node again and no node has given more pairs than it gives
-- before one may stand twice: whatever is lost, repeated, delayed or reordered, it is fresh, but where a copy of a connect request
-- returns.
abbrev pub CopiesAloneReturn : Type 0
CopiesAloneReturn =
    (bytes : List ℕ) (plan : Plan) (size : ℕ) → network_of bytes ≡ Ok plan → IsOfModulus size plan
    → (done later : List NumberedInstruction) → plan.instructions ≡ done ++ later → AllByRecursion LineRestartsNone done
    → let events : List set_events.Event = told_of_circuits (do_lines plan done (start plan)) in
    ((node : ℕ) → given_by node events ≤ 48960) → FreshBut events
