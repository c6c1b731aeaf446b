-- What is promised of the circuits of any stations: they are runs of which `circuit_set` speaks, and so they are safe. Own profile.
use Rattle.std.specs.Prelude.{◌≡◌, List, ◌++◌, map, Some}
use Rattle.std.specs.List.{AllByRecursion}
use Rattle.circuit_set.specs.Safe.{Safe, SafeEnd, TellsRetries}
use Rattle.circuit_set.specs.TooLate.{AllowsByWindow, IsFresh, IsTimely}
use Rattle.circuit_table.specs.Events.{Event, Name}
use Rattle.circuit_table.specs.Givings.{IsUp}
use Rattle.circuit_table.specs.Runs.{AreStarts, AreSteps, Step, end_named, events_of, sets_run}
use Rattle.circuit_table.specs.Sets.{Holder, SetState}
use Rattle.node_model.specs.States.{NodeState}
use Rattle.station_laws.specs.Happenings.{AreAllOf, Happening, IsStation, Station, nodes_after, nodes_in, started_in, told_by}

-- Of any stations, and of all that happens to their members in any order that may be: at each moment, by the members' nodes as they
-- start, and what has happened until then.
abbrev pub AtEachMoment : (List NodeState → List Happening → Type 0) → Type 0
AtEachMoment P =
    (stations : List Station) → AllByRecursion IsStation stations → (all : List Happening) → AreAllOf stations all
    → (done later : List Happening) → all ≡ done ++ later → P (started_in stations) done

-- ---- runs

-- when all has happened, the members' nodes are as their stations have them
abbrev pub NodesAreTheirs : Type 0
NodesAreTheirs =
    (stations : List Station) (all : List Happening) → AreAllOf stations all → nodes_after all (started_in stations) ≡ nodes_in stations

abbrev pub circuits_of : List NodeState → List SetState
circuits_of ns = map (λ (n : NodeState). n.station.set.set) ns

-- What happens is a run of the nodes' circuits: these start as circuits do, the steps lead from them to those that the nodes have then,
-- and tell what the members have told. None of them starts a node again.
pub record IsCircuitRun (nodes : List NodeState) (done : List Happening) : Type 0 where
  pub starts : AreStarts (circuits_of nodes)
  pub steps : List Step
  pub are : AreSteps steps
  pub up : AllByRecursion (λ (st : Step). IsUp st.act) steps
  pub circuits : sets_run (circuits_of nodes) steps ≡ circuits_of (nodes_after done nodes)
  pub told : events_of (circuits_of nodes) steps ≡ told_by done nodes

abbrev pub StationsAreCircuitRuns : Type 0
StationsAreCircuitRuns = AtEachMoment IsCircuitRun

-- ---- what holds of circuits

-- Of each end that these circuits know of, and its partner by these events: each has received a beginning of what the other wrote, with
-- every message that is acknowledged in it, and all of it after the other's orderly close. An end without a partner has received nothing.
abbrev pub SafeNow : List Event → List SetState → Type 0
SafeNow events sets = (x : Name) (h : Holder) → end_named sets x ≡ Some h → SafeEnd events (end_named sets) x h

-- So it is of the members' circuits, by what was told until now. And what has happened is a run of them, at each moment of which they are
-- safe.
pub record AreSafe (nodes : List NodeState) (done : List Happening) : Type 0 where
  pub now : SafeNow (told_by done nodes) (circuits_of (nodes_after done nodes))
  pub run : IsCircuitRun nodes done
  pub safe : (before after : List Step) → run.steps ≡ before ++ after → Safe (circuits_of nodes) before

-- where nothing that was told until then came too late
abbrev pub SafeInTime : List NodeState → List Happening → Type 0
SafeInTime nodes done = IsTimely AllowsByWindow (told_by done nodes) → IsFresh (told_by done nodes) → AreSafe nodes done

abbrev pub CircuitsOfStationsAreSafe : Type 0
CircuitsOfStationsAreSafe = AtEachMoment SafeInTime

-- At each moment of the run an end was told that its retries are used up exactly where there was one expiry more than there are retries,
-- since it was made, since more was acknowledged, or since it began to close.
pub record TellRetries (nodes : List NodeState) (done : List Happening) : Type 0 where
  pub run : IsCircuitRun nodes done
  pub told : (before after : List Step) → run.steps ≡ before ++ after → TellsRetries (circuits_of nodes) before

abbrev pub RetriesAreTold : Type 0
RetriesAreTold = AtEachMoment TellRetries
