use Rattle.std.proofs.Common.{◌∙◌, ℕ, List, [], inr, refl}
use Rattle.network_file.specs.declared.plan.live.LiveNode.{LiveNode}
use Rattle.node_core.specs.Standing.{Kept}
use Rattle.node_cmd.specs.Live.{HasLived, IsAnswerOf}
use Rattle.node_cmd.specs.Starting.{live_started}
use Rattle.cmd_streams.specs.Streams.{Read}
use Rattle.cmd_streams.specs.Wider.{answers-map, ends-map}
use Rattle.node_cmd.proofs.live.run_node.Goals as goal

-- what the node of the program did is the answer of the declared one
abbrev answered : {declared : LiveNode} {first last : Kept} {reads : List Read} {text : List ℕ} → HasLived first last reads text (live_started declared) → IsAnswerOf declared reads text
answered lived = record { answer = lived.answer; first = _; nodes = lived.nodes; last = _; stays = lived.stays }

pub answer_stream-requires-clause-start : goal.answer_stream-requires-clause-start
answer_stream-requires-clause-start g c = λ n stands within. record { stands = stands; within = within; answer = refl; nodes = []; stays = (refl, (stands, within)) }

pub returns-in-Done-clause-ends : goal.returns-in-Done-clause-ends
returns-in-Done-clause-ends g c =
    let start = live_started c.args.declared.now in
    let within = c.is_spent.ensures.kept (c.is_spent.ensures.value ∙ c.in-Ok.ensures.unspent) in
    let told = rw c.in-Done.is at c.answer_stream.ensures in
    inr (record {
      ends = ends-map _ _ _ _ _ _ _ _ (λ reads text took. let t = took.1 start c.in-Ok.ensures within in answered t) told.ends;
      left = λ done. let all = rw (← c.living.view_is) at (told.taken done) in
          (answers-map _ _ _ _ _ _ _ (λ reads text took. let t = took start c.in-Ok.ensures within in (answered t, (refl, (t.stands, t.within)))) all.0, all.1);
    })

pub returns-in_default-clause-ends : goal.returns-in_default-clause-ends
returns-in_default-clause-ends g c =
    let start = live_started c.args.declared.now in
    let within = c.is_spent.ensures.kept (c.is_spent.ensures.value ∙ c.in-Ok.ensures.unspent) in
    inr (record {
      ends = ends-map _ _ _ _ _ _ _ _ (λ reads text took. let t = took.1 start c.in-Ok.ensures within in answered t) c.answer_stream.ensures.ends;
      left = λ done. absurd (c.in_default.not-Done done);
    })
