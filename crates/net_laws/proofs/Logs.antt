-- Each node's table is that of its log, at each line.
use Rattle.std.proofs.Common.{◌≡◌, ◌∙◌, ℕ, zero, suc, refl, ap, subst, List, [], ◌∷◌}
use Rattle.std.specs.Prelude.{slice_get, Option, Some}
use Rattle.network_file.specs.declared.plan.instructions.NumberedInstruction.{NumberedInstruction}
use Rattle.network_file.specs.declared.plan.instructions.Instruction.{Instruction}
use Rattle.network_file.specs.declared.plan.instructions.Instruction.TheVariants as instructions
use Rattle.network_file.specs.Plan.{Plan}
use Rattle.node_core.specs.Standing.{Kept, NodeStands}
use Rattle.node_mail.specs.Lists.{Lists}
use Rattle.net_model.specs.declared.members.Member.{Member}
use Rattle.net_model.specs.Lines.{do_line, do_lines, world}
use Rattle.net_laws.specs.Logs.{TableIsOf, TablesOfLogs}
use Rattle.net_model.specs.Starting.{Placed}
use Rattle.net_model.specs.Standing.{MembersStand}
use Rattle.net_model.specs.World.{World, start}

-- ---- a front of the lines, by itself
same_line : (plan : Plan) (all : List NumberedInstruction) (line : ℕ) (i : Instruction) (w : World) → do_line (record plan { instructions = all }) line i w ≡ do_line plan line i w
same_line plan all line (instructions.Restart node pair) w = refl
same_line plan all line other w = refl

same_lines : (plan : Plan) (all ls : List NumberedInstruction) (w : World) → do_lines (record plan { instructions = all }) ls w ≡ do_lines plan ls w
same_lines plan all [] w = refl
same_lines plan all (l ∷ ls) w =
    ap (do_lines (record plan { instructions = all }) ls) (same_line plan all l.line l.instruction w) ∙ same_lines plan all ls (do_line plan l.line l.instruction w)

front : (plan : Plan) (done : List NumberedInstruction) → world (record plan { instructions = done }) ≡ do_lines plan done (start plan)
unfolding world
front plan done = same_lines plan done done (start plan)

-- ---- node by node
node_at : (ms : List Member) (ps : List Placed) (ls : List (Option Lists)) → MembersStand ms ps ls → (at : ℕ) (m : Member) → slice_get ms at ≡ Some m
    → (p : Placed) × (slice_get ps at ≡ Some p) × NodeStands m.node p.state
node_at [] ps ls s at m e = absurd (cc e)
node_at (x ∷ ms) [] ls s at m e = absurd s
node_at (x ∷ ms) (p ∷ ps) [] s at m e = absurd s
node_at (x ∷ ms) (p ∷ ps) (l ∷ ls) s zero m e = let same : x ≡ m = cc e in (p, refl, subst (λ (y : Member). NodeStands y.node p.state) same s.0.node)
node_at (x ∷ ms) (p ∷ ps) (l ∷ ls) s (suc at) m e = node_at ms ps ls s.1 at m e

table_is : (k : Kept) (p : Placed) → NodeStands k p.state → TableIsOf k p
table_is k p s = record { rules = s.station.parts.rules; log = s.station.parts.log }

pub tables_of_logs : TablesOfLogs
tables_of_logs plan done = record {
  front = front plan done;
  tables = λ left t at m e. (let w : World = do_lines plan done (start plan) in let n = node_at left.members w.nodes w.mails t.members at m e in (n.0, n.1, table_is m.node n.0 n.2));
}
