use Rattle.std.proofs.Common.{map, take}
use Rattle.circuit_table.specs.Runs.{AreStarts}
use Rattle.net_model.specs.SoundPlans.{sets_of}
use Rattle.net_model.specs.Starting.{new_mail, new_placed}
use Rattle.net_model.specs.Standing.{MembersStand}
use Rattle.net_model.proofs.stations.members_of.Given as goal

abbrev pub invariant-loop-one : goal.invariant-loop-one
invariant-loop-one l = record {
  stand : MembersStand l.members.items (map (new_placed l.network) (take l.one-index l.declared)) (map (new_mail l.network.settings) (take l.one-index l.declared));
  starts : AreStarts (sets_of (map (new_placed l.network) (take l.one-index l.declared)));
}
