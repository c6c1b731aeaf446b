use Rattle.std.proofs.Common.{◌∙◌}
use Rattle.circuit_verdict.proofs.Notices.{note_noticed, partner_noticed, last_noticed, given_noticed, facing_noticed}
use Rattle.circuit_verdict.proofs.ends.Ends.notice.Goals as goal

pub returns : goal.returns
returns c ms lost s = record {
  notes = λ x. c.note_notice.ensures.notes x ∙ rw (s.notes x) (note_noticed ms c.args.end.now c.args.notice.now x);
  partners = λ x. rw (c.note_notice.ensures.rest, partner_noticed ms c.args.end.now c.args.notice.now x) (s.partners x);
  gone = λ x. rw c.note_notice.ensures.rest (s.gone x);
  last = λ own p. rw (c.note_notice.ensures.rest, last_noticed ms c.args.end.now c.args.notice.now own p) (s.last own p);
  given = λ node p. rw (c.note_notice.ensures.rest, given_noticed ms c.args.end.now c.args.notice.now node p) (s.given node p);
  facing = λ x. rw (c.note_notice.ensures.rest, facing_noticed ms c.args.end.now c.args.notice.now x) (s.facing x);
}
