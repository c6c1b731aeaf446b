use Rattle.std.proofs.Common.{◌∙◌, ap, sym}
use Rattle.ax_link.specs.Standing.{LinkView}
use Rattle.ax_link.proofs.Standings.{outs_alone}
use Rattle.link_life.proofs.Flying.{flight_out, line_out}
use Rattle.link_life.proofs.settle.send_out.Goals as goal

pub loop-out-preserved : goal.loop-out-preserved
loop-out-preserved g c =
    let rest = ap (λ (h : LinkView). h.outs) c.in-Some.ensures.rest in
    record {
      frames =
          line_out g.M.Modulus.SIZE c.args.turn.now.side c.in-Some.out c.loop-out.link.outs c.next_out.new.self.outs c.loop-out.frames c.write_frame.new.text (sym c.in-Some.ensures.value)
          rest c.in_ok-write_frame.ensures
          ∙ c.loop-out.invariant.frames;
      coming =
          flight_out g.M.Modulus.SIZE c.args.turn.now.moment c.args.epoch c.in-Some.out c.loop-out.link.outs c.next_out.new.self.outs c.loop-out.coming.items c.push_back.new.self.items
          (sym c.in-Some.ensures.value) rest c.in_ok-push_back.ensures.items
          ∙ c.loop-out.invariant.coming;
      rest = outs_alone c.args.link.now c.loop-out.link c.next_out.new.self c.loop-out.invariant.rest c.in-Some.ensures.rest;
    }
