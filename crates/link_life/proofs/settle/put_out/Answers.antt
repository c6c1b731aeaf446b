use Rattle.std.proofs.Common.{refl, subst, ◌∙◌}
use Rattle.ax_link.specs.declared.phase.LinkPhase.{LinkPhase}
use Rattle.ax_link.specs.Opening.{rules_new}
use Rattle.link_life.specs.Ends.{End, after_step, rest}
use Rattle.link_life.specs.Lives.{settings}
use Rattle.link_life.specs.Standing.{EndStands}
use Rattle.link_life.proofs.Books.{number_same}
use Rattle.link_life.proofs.Settling.{far_gains, frames_so, link_rests}
use Rattle.link_life.proofs.settle.put_out.Goals as goal

pub returns-clause-stands : goal.returns-clause-stands
returns-clause-stands g c = λ p g2 was heeded far.
    let size = g.M.Modulus.SIZE in
    let e : End = after_step g2 p.near in
    let link = link_rests size c.args.near.now.link c.send_out.new.link _ heeded.link c.in_ok-send_out.ensures.link in
    let near = c.in_ok-replace.ensures.stands e (record { link = link; book = heeded.book }) in
    record {
      near = subst (λ (ph : LinkPhase). EndStands size c.replace.new.near (rest (rules_new size (settings c.args.turn.now.srej)) c.args.turn.now.moment ph e)) was near;
      far = record {
        link = far.link;
        book =
            far_gains size c.args.turn.now.moment c.number-epoch.result c.args.far.now.book _ c.args.near.now.link _ p.far e heeded.link far.book
            (c.number-epoch.ensures ∙ number_same size c.args.near.now.book e heeded.book) refl refl refl c.in_ok-send_out.ensures.coming;
      };
    }

pub returns-clause-tells : goal.returns-clause-tells
returns-clause-tells g c = λ g2 s. frames_so g.M.Modulus.SIZE c.args.turn.now.side c.args.near.now.link g2 c.args.frames.now c.send_out.new.frames s c.in_ok-send_out.ensures.frames
