-- A line that starts no node again tells of no such start.
use Rattle.std.proofs.Common.{ℕ, zero, suc, List, [], ◌∷◌, length, map}
use Rattle.std.specs.Prelude.{slice_get, Option, Some, None}
use Rattle.std.specs.List.{AllByRecursion}
use Rattle.radio_base.specs.declared.modulus.LinkModulus.{LinkModulus}
use Rattle.circuit_l4.specs.declared.pair.Pair.{Pair}
use Rattle.network_file.specs.declared.plan.instructions.NumberedInstruction.{NumberedInstruction}
use Rattle.network_file.specs.declared.plan.instructions.Instruction.{Instruction}
use Rattle.network_file.specs.declared.plan.instructions.Instruction.TheVariants as instructions
use Rattle.network_file.specs.Plan.{Plan}
use Rattle.node_model.specs.States as states
use Rattle.node_core.specs.Acts as acts
use Rattle.net_model.specs.SoundPlans.{IsInstruction}
use Rattle.net_laws.specs.Datagrams.{LineRestartsNone, RestartsNone}
use Rattle.net_model.specs.Events as events
use Rattle.net_model.specs.Events.{Event}
use Rattle.net_model.specs.Lines.{do_lines}
use Rattle.net_model.specs.Starting.{Placed}
use Rattle.net_model.specs.World as worlds
use Rattle.net_model.specs.World.{Input, World, after, aired, air_events, numbered, put, reach, tell}
use Rattle.net_model.proofs.Containing.{AreOn, IsQuiet, on_both}
use Rattle.net_model.proofs.LineWalks.{LineIs, Moves, lines_lead}
use Rattle.net_model.proofs.Looks.{put_of, reaches}
use Rattle.net_laws.proofs.Moving.{told_entries}
use Rattle.net_model.proofs.MailWalks.{AnyCall}

-- what is told then is told by no start
abbrev Stays : World → World → Type 0
Stays w v = AreOn w.told → AreOn v.told

quiet_on : (line : ℕ) (es : List Event) → AllByRecursion IsQuiet es → AreOn (map (numbered line) es)
quiet_on line [] q = tt
quiet_on line (events.Entry node entry ∷ es) q = absurd q.0
quiet_on line (events.Restarted node pair ∷ es) q = absurd q.0
quiet_on line (events.Lost node end facts ∷ es) q = absurd q.0
quiet_on line (other ∷ es) q = (tt, quiet_on line es q.1)

entries_on : (line number : ℕ) (entries : List states.Entry) → AreOn (told_entries line number entries)
entries_on line number [] = tt
entries_on line number (e ∷ es) = (tt, entries_on line number es)

air_on : (line count more : ℕ) → AreOn (map (numbered line) (air_events count more))
air_on line count zero = tt
air_on line count (suc more) = (tt, air_on line (suc count) more)

tells : (line : ℕ) (es : List Event) (w : World) → AllByRecursion IsQuiet es → Stays w (tell line es w)
tells line es w q a = on_both w.told (map (numbered line) es) a (quiet_on line es q)

reach_by : (line at : ℕ) (input : Input) (w : World) (o : Option Placed) → Stays w (reaches line at input o w)
reach_by line at input w None a = a
reach_by line at input w (Some p) a =
    let entries : List states.Entry = (after w.now input p.state).station.entries in on_both w.told (told_entries line p.declared.node entries) a (entries_on line p.declared.node entries)

reach_on : (line at : ℕ) (input : Input) (w : World) → Stays w (reach line at input w)
unfolding reach
reach_on line at input w = reach_by line at input w (slice_get w.nodes at)

put_by : (line at : ℕ) (came : LinkModulus) (w : World) (o : Option Placed) → Stays w (put_of line at came o w)
put_by line at came w None a = a
put_by line at came w (Some p) a =
    on_both w.told (map (numbered line) (air_events (length w.air) (length (aired w.channels came p)))) a (air_on line (length w.air) (length (aired w.channels came p)))

put_on : (line at : ℕ) (came : LinkModulus) (w : World) → Stays w (put line at came w)
unfolding put
put_on line at came w = put_by line at came w (slice_get w.nodes at)

-- ---- the lines

-- no node starts again
abbrev Never : Pair → Type 0
Never pair = ⊥

moves : (plan : Plan) → Moves plan AnyCall AnyCall Never Stays
moves plan = record {
  still = λ w a. a;
  follows = λ u v w f g a. g (f a);
  tells = tells;
  does = λ line at act w i. reach_on line at (worlds.Act act) w;
  locks = λ line at dest alias neighbour quality w i. reach_on line at (worlds.Act (acts.Lock dest alias neighbour quality)) w;
  connects = λ line at dest w i. reach_on line at (worlds.Act (acts.Connect dest)) w;
  times = λ line at w. reach_on line at worlds.Time w;
  broadcasts = λ line at call b w i. reach_on line at _ w;
  frames = λ line at place f w e. reach_on line at _ w;
  puts = put_on;
  mails = λ at s w a. a;
  restarts = λ line number pair w i. absurd i;
  settles = λ at w a. a;
  later = λ milliseconds w a. a;
}

line_is : (i : Instruction) → IsInstruction i → RestartsNone i → LineIs AnyCall AnyCall Never i
line_is (instructions.Restart node pair) i o = absurd o
line_is (instructions.Open node dest) i o = i
line_is other i o = tt

lines_are : (ls : List NumberedInstruction) → AllByRecursion (λ (l : NumberedInstruction). IsInstruction l.instruction) ls → AllByRecursion LineRestartsNone ls → AllByRecursion (λ (l : NumberedInstruction). LineIs AnyCall AnyCall Never l.instruction) ls
lines_are [] a b = tt
lines_are (l ∷ ls) a b = (line_is l.instruction a.0 b.0, lines_are ls a.1 b.1)

pub lines_on : (plan : Plan) (ls : List NumberedInstruction) (w : World) → AllByRecursion (λ (l : NumberedInstruction). IsInstruction l.instruction) ls → AllByRecursion LineRestartsNone ls → AreOn w.told → AreOn (do_lines plan ls w).told
lines_on plan ls w a b = lines_lead plan AnyCall AnyCall Never Stays (moves plan) ls w (lines_are ls a b)
