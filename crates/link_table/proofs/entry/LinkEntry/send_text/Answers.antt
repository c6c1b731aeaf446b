use Rattle.link_table.specs.Standing.{size_of}
use Rattle.link_table.proofs.Sending.{in_pieces_is, in_segments_is, of_link, segments_some}
use Rattle.link_table.proofs.entry.LinkEntry.send_text.Goals as goal

pub returns-then-in_segments-clause-goes : goal.returns-then-in_segments-clause-goes
returns-then-in_segments-clause-goes c =
    of_link c.args.text.now _ c.args.now.0 c.args.self.now _ _ _ (in_segments_is _ (size_of c.args.self.now.link) c.args.text.now c.in_segments.ensures c.if-in_segments.true) c.in_ok-send_segments.ensures.goes

pub returns-clause-goes : goal.returns-clause-goes
returns-clause-goes c =
    of_link c.args.text.now _ c.args.now.0 c.args.self.now _ _ _ (in_pieces_is _ (size_of c.args.self.now.link) c.args.text.now c.in_segments.ensures c.if-in_segments.false) c.in_ok-send_pieces.ensures.goes

pub send_segments-requires-clause-some : goal.send_segments-requires-clause-some
send_segments-requires-clause-some c = segments_some _ (size_of c.args.self.now.link) c.args.text.now c.in_segments.ensures c.if-in_segments.true
