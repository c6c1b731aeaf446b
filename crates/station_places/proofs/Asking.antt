-- What an act is answered by the node of a member, where that serves no user itself.
use Rattle.std.proofs.Common.{◌≡◌, ◌∙◌, ℕ, refl, sym, ap, List, []}
use Rattle.std.specs.Prelude.{Bool, true, false, ◌&&◌, is_some, if◌then◌else◌, Option, Some, None, Result, Ok, Err}
use Rattle.std.proofs.Math.Bool.{and-false}
use Rattle.node_core.specs.Acts as acts
use Rattle.node_core.specs.Acts.{Answered, UserAct}
use Rattle.node_core.specs.Inputs.{act_answer, moment}
use Rattle.node_core.specs.declared.acts.ActDone.{ActDone}
use Rattle.node_core.specs.declared.acts.ActRefusal.{ActRefusal}
use Rattle.node_model.specs.Serving.{is_served}
use Rattle.node_model.specs.Sessions.{Session}
use Rattle.node_model.specs.States.{NodeState, State}
use Rattle.node_model.specs.Users.{facts}
use Rattle.radio_base.specs.declared.moment.Moment.{Moment}
use Rattle.station_members.specs.Nodes.{answer_of}
use Rattle.station_members.specs.States as states
use Rattle.station_places.specs.Laws.{IsHost}
use Rattle.station_places.specs.Sides.{SidesState, node_at}

-- what the act comes to at the node
pub answered_at : (now : Moment) (member : ℕ) (a : UserAct) (s : SidesState) (n : NodeState) → node_at member s ≡ Some n
    → states.act_answer now member a s.members ≡ (acts.do_act (moment now.0) a n.station).answer
answered_at now member a s n here = ap (answer_of now.0 a) here

-- no end is one of a session
pub unkept : (id : ℕ) (n : NodeState) → IsHost n → acts.is_kept id n.station ≡ false
unkept id n host =
    ap (λ (ss : List Session). is_some (facts id n.station) && is_served id ss) host.nobody ∙ and-false (is_some (facts id n.station))

pub unless_kept : (id : ℕ) (a : Answered) (n : NodeState) → IsHost n → acts.unless_kept id a n.station ≡ a
unless_kept id a n host = rw (unkept id n host) refl

pub where_hosted : (a : Answered) (n : NodeState) → IsHost n → acts.where_hosted a n.station ≡ a
where_hosted a n host = rw host.hosts refl
