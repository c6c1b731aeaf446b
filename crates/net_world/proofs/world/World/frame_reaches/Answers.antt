use Rattle.std.proofs.Common.{◌≡◌, ◌<◌, ◌≤◌, ◌∙◌, ap, sym, arith, length}
use Rattle.net_model.specs.declared.air.Aired.{Aired}
use Rattle.net_model.specs.Lines.{kiss_bytes}
use Rattle.net_world.specs.Running.{course}
use Rattle.net_model.specs.World.{Bytes}
use Rattle.net_world.proofs.Handing.{found, not_found}
use Rattle.net_world.proofs.Reaching.{reached, stays}
use Rattle.net_world.proofs.world.World.frame_reaches.Goals as goal

pub returns-in_ok-tell_entries-in-Some : goal.returns-in_ok-tell_entries-in-Some
returns-in_ok-tell_entries-in-Some c f e =
    let old = course c.args.self.now in
    let within : c.args.at < length c.args.self.now.members.items = omega (arith, c.if-at-len.true, c.len.ensures) in
    let h = c.in-Some.ensures.lookup in
    let is = found c.frames.result.now c.args.self.now.air c.args.frame_at c.in-Some.frame.now c.frames.ensures.value h.3.0 h.1 in
    let same : c.in-Some.frame.now ≡ f = cc (sym is ∙ e) in
    let octets = c.as_slice.ensures.value ∙ ap (λ (g : Aired). g.octets.items) same in
    let goes = rw octets at c.in_ok-kiss_frame-in-Some.ensures.goes in
    reached old (course c.tell_entries.new.self) c.args.line c.args.at (Bytes (kiss_bytes f.octets.items)) c.index_mut.result.now c.kiss_frame.new.self within c.index_mut.ensures.value goes
    c.in_ok-tell_entries-in-Some.ensures

pub returns-else-at-len : goal.returns-else-at-len
returns-else-at-len c f e =
    let past : length c.args.self.now.members.items ≤ c.args.at = omega (arith, c.if-at-len.false, c.len.ensures) in
    stays (course c.args.self.now) c.args.line c.args.at (Bytes (kiss_bytes f.octets.items)) past

pub returns-in-None : goal.returns-in-None
returns-in-None c f e =
    let none = not_found c.frames.result.now c.args.self.now.air c.args.frame_at c.frames.ensures.value c.in-None.ensures.lookup.0 in
    absurd (cc (sym none ∙ e))
