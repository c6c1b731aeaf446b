-- What is promised of every network: that its circuits' part in it is a run of which `circuit_set` speaks, and what holds of its
-- circuits and its mail. Own profile.
use Rattle.std.specs.Prelude.{ℕ, ◌≡◌, ◌≤◌, List, ◌∷◌, ◌++◌, is_some, map, slice_get, Option, Some, None, Ok, true}
use Rattle.std.specs.List.{AllByRecursion}
use Rattle.circuit_table.specs.CircuitSets.{held_ids}
use Rattle.circuit_table.specs.Events.{Name}
use Rattle.circuit_set.specs.Safe.{TellsRetries, Safe, SafeEnd}
use Rattle.circuit_table.specs.Runs.{Step, AreSteps, events_of, sets_run}
use Rattle.circuit_table.specs.Sets.{Holder, end_of, SetState}
use Rattle.network_file.specs.declared.plan.instructions.NumberedInstruction.{NumberedInstruction}
use Rattle.network_file.specs.Networks.{network_of}
use Rattle.network_file.specs.Plan.{Plan}
use Rattle.network_file.specs.declared.plan.instructions.Instruction.TheVariants.{Mail}
use Rattle.node_mail.specs.Lists.{Lists}
use Rattle.node_mail.specs.MailOnce.{MailOnce}
use Rattle.net_model.specs.Circuits.{IsVerdictOn, circuit_events}
use Rattle.net_model.specs.Lines.{do_lines, world}
use Rattle.net_model.specs.Mailing.{ends_here, mail_at}
use Rattle.net_model.specs.Starting.{Placed}
use Rattle.net_model.specs.World.{World, place_of_node, start}
use Rattle.net_model.specs.SoundPlans.{set_of, first_sets, IsSound}
use Rattle.net_model.specs.Mailing.{while_taking}

-- That what happens in a network is a run of its nodes' circuits, of which `circuit_set` speaks. Own profile.

-- In the run a node's circuits are those that it knows of, and before them the ends that restarts took from it: each of them is gone,
-- and none has the number of one that it knows of.
pub record Remembers (s : SetState) (p : Placed) : Type 0 where
  pub past : List Holder
  pub gone : AllByRecursion (λ (h : Holder). h.gone ≡ true) past
  pub is : s ≡ record (set_of p) { ends = past ++ (set_of p).ends }
  pub held : (id : ℕ) (h : Holder) → end_of id (set_of p).ends ≡ Some h → end_of id s.ends ≡ Some h

-- so it is at each node
abbrev pub AllRemember : List SetState → List Placed → Type 0
AllRemember sets nodes =
    (at : ℕ) (p : Placed) → slice_get nodes at ≡ Some p → (s : SetState) × (slice_get sets at ≡ Some s) × Remembers s p

-- From the nodes' circuits as they start these steps lead to those of the world, and what they told is what the world has told of
-- circuits.
pub record IsRunOf (plan : Plan) (steps : List Step) (w : World) : Type 0 where
  pub are : AreSteps steps
  pub nodes : AllRemember (sets_run (first_sets plan) steps) w.nodes
  pub told : map (λ e. e.event) (circuit_events w) ≡ events_of (first_sets plan) steps

-- ---- the laws

-- so is each that a file lays down
abbrev pub NetworksAreSound : Type 0
NetworksAreSound = (bytes : List ℕ) (plan : Plan) → network_of bytes ≡ Ok plan → IsSound plan

-- what each front of a file's lines has come to is such a run, and what comes after it goes on with that run
pub record RunsThrough (plan : Plan) (done later : List NumberedInstruction) : Type 0 where
  pub steps : List Step
  pub then : List Step
  pub is : IsRunOf plan steps (do_lines plan done (start plan))
  pub all : IsRunOf plan (steps ++ then) (world plan)

abbrev pub WorldsAreRuns : Type 0
WorldsAreRuns =
    (bytes : List ℕ) (plan : Plan) → network_of bytes ≡ Ok plan
    → (done later : List NumberedInstruction) → plan.instructions ≡ done ++ later → RunsThrough plan done later

-- the end of this number that a node knows of
abbrev pub end_with : Option Placed → ℕ → Option Holder
end_with None id = None
end_with (Some p) id = end_of id (set_of p).ends

abbrev pub end_now : World → Name → Option Holder
end_now w x = end_with (slice_get w.nodes x.node) x.id

-- Of each end that a node knows of, and its partner by what was told of circuits, where a node knows of that: each has received a
-- beginning of what the other wrote, with every message that is acknowledged in it, and all of it after the other's orderly close. An end
-- without a partner has received nothing.
abbrev pub SafeNow : World → Type 0
SafeNow w = (x : Name) (h : Holder) → end_now w x ≡ Some h → SafeEnd (map (λ e. e.event) (circuit_events w)) (end_now w) x h

-- So it is when the lines of a front of a file are done. What these have come to is a run of the nodes' circuits, and so it is at each
-- moment of that run of the ends that it has, with those that a node forgot as it started again; and an end is told that its retries
-- are used up exactly where there was one expiry more than there are retries (`Safe`).
pub record IsSafeAt (plan : Plan) (done : List NumberedInstruction) : Type 0 where
  pub now : SafeNow (do_lines plan done (start plan))
  pub steps : List Step
  pub run : IsRunOf plan steps (do_lines plan done (start plan))
  pub safe : (before after : List Step) → steps ≡ before ++ after → Safe (first_sets plan) before

-- at each line
abbrev pub SafeThroughout : Plan → Type 0
SafeThroughout plan = (done later : List NumberedInstruction) → plan.instructions ≡ done ++ later → IsSafeAt plan done

-- so it is with each file of which no datagram and no pair comes back too late
abbrev pub InTimeIsSafe : Type 0
InTimeIsSafe = (bytes : List ℕ) (plan : Plan) → network_of bytes ≡ Ok plan → IsVerdictOn plan (world plan) None → SafeThroughout plan

-- Of any two nodes that keep mail: what the second has stored from the first has different numbers, and each is as it
-- was posted there for the second; and each mail that was posted there for it is queued there or stored here.
abbrev pub MailOnceNow : World → Type 0
MailOnceNow w =
    (a b : ℕ) (p q : Placed) (from at : Lists) → slice_get w.nodes a ≡ Some p → slice_get w.nodes b ≡ Some q
    → mail_at a w ≡ Some from → mail_at b w ≡ Some at → MailOnce p.declared.call q.declared.call from at

-- At each line; and within a line `mail` of a node that keeps mail, after each message that its agent takes. (Besides these, posts alone
-- change what nodes keep.)
pub record MailOnceThroughout (plan : Plan) : Type 0 where
  pub lines : (done later : List NumberedInstruction) → plan.instructions ≡ done ++ later → MailOnceNow (do_lines plan done (start plan))
  pub within : (done later : List NumberedInstruction) (line node : ℕ) → plan.instructions ≡ done ++ record { line = line; instruction = Mail node } ∷ later
      → let w : World = do_lines plan done (start plan) in
      let at : ℕ = place_of_node node w.nodes in
      is_some (mail_at at w) ≡ true
      → (passed rest : List ℕ) (end count : ℕ) → held_ids (ends_here at w) ≡ passed ++ end ∷ rest → count ≤ 100000
      → MailOnceNow (while_taking line node passed end count w)

-- so it is with each file of which no datagram and no pair comes back too late
abbrev pub InTimeMailIsOnce : Type 0
InTimeMailIsOnce =
    (bytes : List ℕ) (plan : Plan) → network_of bytes ≡ Ok plan → IsVerdictOn plan (world plan) None
    → MailOnceThroughout plan

-- At each moment of the run that the lines of a front of a file have come to, an end was told that its retries are used up exactly where
-- there was one expiry more than there are retries, since it was made, since more was acknowledged, or since it began to close.
pub record TellsRetriesAt (plan : Plan) (done : List NumberedInstruction) : Type 0 where
  pub steps : List Step
  pub run : IsRunOf plan steps (do_lines plan done (start plan))
  pub told : (before after : List Step) → steps ≡ before ++ after → TellsRetries (first_sets plan) before

-- at each line
abbrev pub RetriesAreTold : Plan → Type 0
RetriesAreTold plan = (done later : List NumberedInstruction) → plan.instructions ≡ done ++ later → TellsRetriesAt plan done

-- so it is with each file, whatever comes back too late
abbrev pub EachTellsRetries : Type 0
EachTellsRetries = (bytes : List ℕ) (plan : Plan) → network_of bytes ≡ Ok plan → RetriesAreTold plan
