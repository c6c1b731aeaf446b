use Rattle.std.proofs.Common.{subst}
use Rattle.std.proofs.lemmas.Result.{IfOk-weaker}
use Rattle.net_model.specs.Circuits.{IsVerdictOn}
use Rattle.net_model.specs.Lines.{world}
use Rattle.node_cmd.proofs.outcomes.outcome_of.Goals as goal

-- by the laws of every network
pub returns-in-Ok-clause-ok : goal.returns-in-Ok-clause-ok
returns-in-Ok-clause-ok c =
    let network = c.in-Ok.network in
    let is = c.in-Ok.ensures in
    IfOk-weaker c.outcome_of_network.result _ _
    (λ o k. (
      network,
      is,
      k.0,
      c.retries_are_told.ensures c.args.bytes.now network is,
      λ none. (let verdict = subst (IsVerdictOn network (world network)) none k.0.verdict in
          (c.in_time_is_safe.ensures c.args.bytes.now network is verdict, c.mail_in_time.ensures c.args.bytes.now network is verdict)),
    ))
    c.outcome_of_network.ensures.ok
