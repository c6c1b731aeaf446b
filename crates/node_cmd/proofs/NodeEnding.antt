-- How a live node ends.
use Rattle.std.proofs.Common.{List, ℕ, inl, inr}
use Rattle.std.specs.Prelude.{◌≢◌, Option}
use Rattle.network_file.specs.declared.plan.live.LiveNode.{LiveNode}
use Rattle.node_cmd.specs.declared.ran.Ran.{Ran}
use Rattle.cmd_streams.specs.declared.status.Status.{Status}
use Rattle.cmd_streams.specs.declared.status.Status.TheVariants.{Usage}
use Rattle.node_cmd.specs.Run.{NodeEnds}
use Rattle.cmd_streams.specs.Told.{StreamsTold}

pub never_usage : (declared : LiveNode) (moments moments' : Option (List ℕ)) (before after : StreamsTold) (ran : Ran) (status : Status) → NodeEnds declared moments moments' before after ran status → status ≢ Usage
never_usage declared moments moments' before after ran status (inl starved) = λ is. absurd (cc (starved.starved, is))
never_usage declared moments moments' before after ran status (inr serves) = serves.ends.others.0
