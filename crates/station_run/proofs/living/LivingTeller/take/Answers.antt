use Rattle.std.proofs.Common.{◌∙◌, ◌++◌, ◌∷◌, [], sym, ap, subst}
use Rattle.cmd_streams.specs.Streams.{read_of}
use Rattle.station_live.specs.Standing.{LiveStands}
use Rattle.station_run.specs.Living.{after_reads, sent_by, told_by}
use Rattle.station_run.proofs.OneRead.{after_more, sent_more, told_more}
use Rattle.station_run.proofs.living.LivingTeller.take.Goals as goal

pub returns : goal.returns
returns c = record {
  takes = λ first reads text texts took l stands.
      let read = read_of c.args.bytes.now c.args.now.0 in
      let before = took l stands in
      let took_in = c.in_ok-take.ensures in
      let sent = took_in.frames (after_reads reads l) before.stands in
      let told = took_in.lines (after_reads reads l) before.stands in
      record {
        stands = subst (LiveStands c.take.new.self) (sym (after_more reads read l)) (took_in.goes (after_reads reads l) before.stands);
        sent = ap (λ t. t ++ c.take.new.frames) before.sent ∙ (ap (λ t. sent_by reads l ++ t) (rw c.requires.answer at sent) ∙ sym (sent_more reads read l));
        told = ap (λ t. t ++ c.take.new.lines ∷ []) before.told ∙ (ap (λ t. told_by reads l ++ t ∷ []) (rw c.requires.told at told) ∙ sym (told_more reads read l));
      };
}
