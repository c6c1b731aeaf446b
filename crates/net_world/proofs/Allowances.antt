-- How many overtakers are too many stays, whatever the lines do.
use Rattle.std.proofs.Common.{◌≡◌, ◌∙◌, ℕ, refl, List, [], ◌∷◌}
use Rattle.std.specs.Prelude.{slice_get, Option, Some, None}
use Rattle.std.specs.List.{AllByRecursion}
use Rattle.radio_base.specs.declared.modulus.LinkModulus.{LinkModulus}
use Rattle.circuit_l4.specs.declared.pair.Pair.{Pair}
use Rattle.network_file.specs.declared.plan.instructions.NumberedInstruction.{NumberedInstruction}
use Rattle.network_file.specs.Plan.{Plan}
use Rattle.node_core.specs.Acts as acts
use Rattle.net_model.specs.Lines.{restart, restarts, world}
use Rattle.net_model.specs.SoundPlans.{IsLine}
use Rattle.net_model.specs.Starting.{Placed}
use Rattle.net_model.specs.World as worlds
use Rattle.net_model.specs.World.{Input, World, allowance_of, place_of_node, put, reach, start, with_found}
use Rattle.net_model.proofs.LineWalks.{LineIs, Moves, lines_lead, AnyPair, line_is}
use Rattle.net_model.proofs.Looks.{put_of, reaches}
use Rattle.net_model.proofs.MailWalks.{AnyCall}

abbrev Stays : World → World → Type 0
Stays w v = v.allowance ≡ w.allowance

reach_by : (line at : ℕ) (input : Input) (w : World) (o : Option Placed) → Stays w (reaches line at input o w)
reach_by line at input w None = refl
reach_by line at input w (Some p) = refl

reach_stays : (line at : ℕ) (input : Input) (w : World) → Stays w (reach line at input w)
unfolding reach
reach_stays line at input w = reach_by line at input w (slice_get w.nodes at)

put_by : (line at : ℕ) (came : LinkModulus) (w : World) (o : Option Placed) → Stays w (put_of line at came o w)
put_by line at came w None = refl
put_by line at came w (Some p) = refl

put_stays : (line at : ℕ) (came : LinkModulus) (w : World) → Stays w (put line at came w)
unfolding put
put_stays line at came w = put_by line at came w (slice_get w.nodes at)

again_by : (plan : Plan) (line at : ℕ) (pair : Pair) (w : World) (o : Option Placed) → Stays w (with_found o (restarts plan line at pair) w)
again_by plan line at pair w None = refl
again_by plan line at pair w (Some p) = refl

again_stays : (plan : Plan) (line number : ℕ) (pair : Pair) (w : World) → Stays w (restart plan line number pair w)
again_stays plan line number pair w = again_by plan line (place_of_node number w.nodes) pair w (slice_get w.nodes (place_of_node number w.nodes))

-- ---- the lines

moves : (plan : Plan) → Moves plan AnyCall AnyCall AnyPair Stays
moves plan = record {
  still = λ w. refl;
  follows = λ u v w f g. g ∙ f;
  tells = λ line es w q. refl;
  does = λ line at act w i. reach_stays line at (worlds.Act act) w;
  locks = λ line at dest alias neighbour quality w i. reach_stays line at (worlds.Act (acts.Lock dest alias neighbour quality)) w;
  connects = λ line at dest w i. reach_stays line at (worlds.Act (acts.Connect dest)) w;
  times = λ line at w. reach_stays line at worlds.Time w;
  broadcasts = λ line at call b w i. reach_stays line at _ w;
  frames = λ line at place f w e. reach_stays line at _ w;
  puts = put_stays;
  mails = λ at s w. refl;
  restarts = λ line number pair w i. again_stays plan line number pair w;
  settles = λ at w. refl;
  later = λ milliseconds w. refl;
}

lines_are : (ls : List NumberedInstruction) → AllByRecursion IsLine ls → AllByRecursion (λ (l : NumberedInstruction). LineIs AnyCall AnyCall AnyPair l.instruction) ls
lines_are [] a = tt
lines_are (l ∷ ls) a = (line_is l.instruction a.0, lines_are ls a.1)

pub allowance_stays : (plan : Plan) → AllByRecursion IsLine plan.instructions → (world plan).allowance ≡ allowance_of plan
unfolding world
allowance_stays plan are = lines_lead plan AnyCall AnyCall AnyPair Stays (moves plan) plan.instructions (start plan) (lines_are plan.instructions are)
