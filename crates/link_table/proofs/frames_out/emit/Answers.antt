use Rattle.std.proofs.Common.{◌≡◌, ◌++◌, ◌∙◌, None, ap, append-nil, slice_get, sym}
use Rattle.ax_link.specs.Standing.{LinkView}
use Rattle.ax_link.proofs.Standings.{outs_alone}
use Rattle.link_table.proofs.Lifting.{none_left_out, none_out, one_out}
use Rattle.link_table.proofs.frames_out.emit.Goals as goal

pub loop-out-preserved : goal.loop-out-preserved
loop-out-preserved g c =
    record {
      all =
          one_out g.M.Modulus.SIZE c.args.route.now c.in-Some.out.now c.loop-out.link c.next_out.new.self c.loop-out.frames.items c.emit_one.new.frames.items (sym c.in-Some.ensures.value)
          (ap (λ (h : LinkView). h.outs) c.next_out.ensures.rest) c.in_ok-emit_one.ensures
          ∙ c.loop-out.invariant.all;
      rest = outs_alone c.args.link.now c.loop-out.link c.next_out.new.self c.loop-out.invariant.rest c.next_out.ensures.rest;
    }

pub returns-clause-link : goal.returns-clause-link
returns-clause-link g c =
    let empty : slice_get c.loop-out.link.outs 0 ≡ None = sym c.in_default.ensures.value in
    c.loop-out.invariant.rest ∙ ap (λ xs. record c.args.link.now { outs = xs }) (none_left_out c.loop-out.link empty)

pub returns-clause-frames : goal.returns-clause-frames
returns-clause-frames g c =
    let empty : slice_get c.loop-out.link.outs 0 ≡ None = sym c.in_default.ensures.value in
    sym (ap (λ ys. c.loop-out.frames.items ++ ys) (none_out g.M.Modulus.SIZE c.args.route.now c.loop-out.link empty) ∙ append-nil c.loop-out.frames.items) ∙ c.loop-out.invariant.all
