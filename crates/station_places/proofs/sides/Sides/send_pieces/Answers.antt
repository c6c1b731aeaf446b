use Rattle.std.proofs.Common.{◌∙◌, arith, refl}
use Rattle.station_places.proofs.Steps as steps
use Rattle.station_places.proofs.sides.Sides.send_pieces.Goals as goal

pub loop-sent-init : goal.loop-sent-init
loop-sent-init c = record {
  within = omega arith;
  sends = steps.sends_begin c.args.now c.args.member c.args.peer.now c.paclen-most.result c.args.text.now c.args.self.now c.paclen-most.ensures.size;
  outs = refl;
}

pub loop-sent-preserved : goal.loop-sent-preserved
loop-sent-preserved c = record {
  within = steps.within c.args.now c.args.member c.args.peer.now c.loop-sent.sent c.paclen-most.result c.args.text.now c.first_piece-piece.result.now
      c.loop-sent-test.true c.first_piece-piece.ensures;
  sends = steps.sends_next c.args.now c.args.member c.args.peer.now c.loop-sent.sent c.paclen-most.result c.link_room.result c.args.text.now
      c.first_piece-piece.result.now c.in_ok-send.field-0 c.args.self.now c.loop-sent.self c.send.new.self c.loop-sent-test.true
      c.paclen-most.ensures.some c.if-link_room-eq0.false c.if-branch.true c.first_piece-piece.ensures c.loop-sent.invariant.sends
      c.link_room.ensures c.in_ok-send.ensures.taken c.in_ok-send.ensures.goes;
  outs = c.in_ok-send.ensures.outs ∙ c.loop-sent.invariant.outs;
}
