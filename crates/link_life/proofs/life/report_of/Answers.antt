use Rattle.std.proofs.Common.{◌∙◌, ◌++◌, ◌∷◌, ◌+◌, ap, sym, List, drop}
use Rattle.std.proofs.lemmas.List.{at_drop_all, at_drop_more}
use Rattle.ax_link.specs.State.{Rules}
use Rattle.link_life.specs.declared.act.NumberedAct.{NumberedAct}
use Rattle.link_life.specs.Lives.{act_on, after_act, new_life}
use Rattle.link_life.specs.Reports.{life_text}
use Rattle.link_life.proofs.Living.{line_on}
use Rattle.link_life.proofs.life.report_of.Goals as goal

pub loop-numbered-preserved : goal.loop-numbered-preserved
loop-numbered-preserved g c =
    let so = c.loop-numbered.invariant.told in
    let n = c.numbered-item.result in
    let acts = c.args.acts.now in
    let i = c.loop-numbered.numbered-index in
    let written = c.in_ok-write_line.ensures.does so.0 so.1 in
    let next =
    at_drop_more (λ (ns : List NumberedAct). c.loop-numbered.report ++ life_text so.0 ns) acts i n c.loop-numbered-test.true
    ∙ ap (λ (x : NumberedAct). c.loop-numbered.report ++ life_text so.0 (x ∷ drop (i + 1) acts)) (sym c.numbered-item.is) in
    record {
      rests = c.in_ok-write_line.ensures.rests;
      told = (
        after_act (act_on n.act so.0) so.0,
        written.life,
        line_on g.M.Modulus.SIZE c.write_line.new.life so.0 n (drop (i + 1) acts) c.loop-numbered.report c.write_line.new.report (life_text (new_life g.M.Modulus.SIZE c.args.srej c.args.delay) acts)
            (ap (λ (r : Rules). r.size) so.1.rules) written (sym next ∙ so.2),
      );
    }

pub returns : goal.returns
returns g c =
    let so = c.loop-numbered.invariant.told in
    c.in_ok-write_epochs.ensures so.0 so.1
    ∙ sym (at_drop_all (λ (ns : List NumberedAct). c.loop-numbered.report ++ life_text so.0 ns) c.args.acts.now c.loop-numbered.numbered-index c.loop-numbered-test.false)
    ∙ so.2
