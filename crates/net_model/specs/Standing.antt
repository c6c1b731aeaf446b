-- When what a replay leaves stands for a world.
use Rattle.std.specs.Prelude.{ℕ, ◌≡◌, Bool, List, [], ◌∷◌, map, Option, Some, None}
use Rattle.circuit_verdict.specs.declared.allowance.Allowance.{Allowance}
use Rattle.node_core.specs.Standing.{NodeStands}
use Rattle.node_mail.specs.Lists.{Lists, StandsFor, StoreView}
use Rattle.net_model.specs.declared.air.Aired.{Aired}
use Rattle.net_model.specs.declared.ends.EndRecord.{EndRecord}
use Rattle.net_model.specs.declared.events.NumberedEvent.{NumberedEvent}
use Rattle.net_model.specs.declared.members.Member.{Member}
use Rattle.net_model.specs.World.{World}
use Rattle.net_model.specs.Ends.{ends_at, ends_of}
use Rattle.net_model.specs.Events.{numbered_of}
use Rattle.net_model.specs.Starting.{Placed, has_number}

-- what is left of a replay: the nodes by number, each as it is declared and with its mail, the frames in the air, the ends that each node
-- ever made, the events, and how many overtakers are too many
pub record Left : Type 0 where
  pub members : List Member
  pub air : List Aired
  pub ends : List (List EndRecord)
  pub events : List NumberedEvent
  pub allowance : Allowance

-- a store, where one is kept
abbrev pub MailStands : Option StoreView → Option Lists → Type 0
MailStands None None = Unit {0}
MailStands (Some v) (Some s) = StandsFor v s
MailStands _ _ = ⊥

-- a node is declared so, has come to this state, and has this mail
pub record MemberStands (m : Member) (p : Placed) (s : Option Lists) : Type 0 where
  pub declared : m.declared ≡ p.declared
  pub node : NodeStands m.node p.state
  pub mail : MailStands m.mail s

-- node by node
abbrev pub MembersStand : List Member → List Placed → List (Option Lists) → Type 0
MembersStand [] [] [] = Unit {0}
MembersStand (m ∷ ms) (p ∷ ps) (s ∷ ss) = MemberStands m p s × MembersStand ms ps ss
MembersStand _ _ _ = ⊥

-- The events are those that were to be told, the frames those that are in the air, each node and its store stand for their state, the ends
-- that it ever made are those that the events tell of, and the allowance for overtakers is the world's.
pub record IsTraceOf (left : Left) (w : World) : Type 0 where
  pub told : map numbered_of left.events ≡ w.told
  pub air : left.air ≡ w.air
  pub members : MembersStand left.members w.nodes w.mails
  pub ends : (node : ℕ) → ends_at node left.ends ≡ ends_of node w.told
  pub allowance : left.allowance ≡ w.allowance

-- a node has this number
abbrev pub is_member : ℕ → Member → Bool
is_member number m = has_number number m.declared

-- these nodes are declared so
abbrev pub AreDeclared : List Member → List Placed → Type 0
AreDeclared members nodes = map (λ (m : Member). m.declared) members ≡ map (λ (p : Placed). p.declared) nodes
