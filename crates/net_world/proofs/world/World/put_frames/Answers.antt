use Rattle.std.proofs.Common.{◌≡◌, ◌<◌, ◌≤◌, ◌∙◌, List, ap, refl, subst, sym, arith, length}
use Rattle.std.proofs.lemmas.List.{length-set}
use Rattle.std.specs.Prelude.{None, Some, slice_get}
use Rattle.std.proofs.lemmas.Result.{err_from_is_err_and}
use Rattle.node_model.specs.States.{NodeState, frames}
use Rattle.node_core.specs.Standing.{frames_left}
use Rattle.net_model.specs.declared.members.Member.{Member}
use Rattle.net_world.specs.Running.{Stands, aired_one, airs, change, course, fetched_frame, first_frame, frames_at, put_by}
use Rattle.net_model.specs.World.{World}
use Rattle.net_world.proofs.Airing.{no_frame, one_frame, put_by_grows}
use Rattle.net_world.proofs.Placing.{asked, changed, frames_got, frames_set, with_node}
use Rattle.net_world.proofs.Runs.{refused_still}
use Rattle.net_world.proofs.world.World.put_frames.Goals as goal

pub loop-written-preserved : goal.loop-written-preserved
loop-written-preserved c =
    let old = c.loop-written.self in
    let at = c.args.at in
    let line = c.args.line in
    let m : Member = c.index_mut.result.now in
    let h : at < length old.members.items = c.loop-written.invariant.within in
    record {
      within =
          omega (
            arith,
            h,
            length-set old.members.items at (record m { node = c.next_frame.new.self }),
            ap (λ (ms : List Member). length ms) c.in_ok-put_frame.ensures.members,
          );
      goes = λ w t.
          let i = c.loop-written.invariant.goes w t in
          let f = c.in-Some.written in
          let v : World = change at fetched_frame i.0 in
          let fetched = changed (course old) i.0 at m c.next_frame.new.self fetched_frame h i.1 c.index_mut.ensures.value c.next_frame.ensures.goes in
          let first : Some f ≡ first_frame (slice_get i.0.nodes at) =
          rw c.in-Some.is at (asked (course old) i.0 at m (λ (n : NodeState). slice_get (frames n.station) 0) first_frame _ h i.1 c.index_mut.ensures.value (λ p is. refl) c.next_frame.ensures.answer) in (
            airs line (aired_one c.args.on_air c.args.node c.args.came f) v,
            c.in_ok-put_frame.ensures.runs v fetched,
            one_frame line at c.args.node c.args.on_air c.args.came i.0 f first ∙ i.2,
          );
    }

pub loop-written-smaller : goal.loop-written-smaller
loop-written-smaller c =
    let ms = c.loop-written.self.members.items in
    let at = c.args.at in
    let m : Member = c.index_mut.result.now in
    let h : at < length ms = c.loop-written.invariant.within in
    let before : frames_at at ms ≡ frames_left m.node = frames_got ms at m h ∙ ap (λ (x : Member). frames_left x.node) (sym c.index_mut.ensures.value) in
    rw (c.in_ok-put_frame.ensures.members, frames_set ms at (record m { node = c.next_frame.new.self }) h, before) c.in-Some.ensures.left

pub returns-in_err-put_frame : goal.returns-in_err-put_frame
returns-in_err-put_frame c =
    let p = err_from_is_err_and c.from_residual.result c.from_residual.ensures.1 in
    rw (p.1, p.2) (λ w t.
    let old = course c.loop-written.self in
    let at = c.args.at in
    let m : Member = c.index_mut.result.now in
    let h : at < length old.left.members = c.loop-written.invariant.within in
    let i = c.loop-written.invariant.goes w t in
    let f = c.in-Some.written in
    let v : World = change at fetched_frame i.0 in
    let fetched = changed old i.0 at m c.next_frame.new.self fetched_frame h i.1 c.index_mut.ensures.value c.next_frame.ensures.goes in
    let first : Some f ≡ first_frame (slice_get i.0.nodes at) =
    rw c.in-Some.is at (asked old i.0 at m (λ (n : NodeState). slice_get (frames n.station) 0) first_frame _ h i.1 c.index_mut.ensures.value (λ p is. refl) c.next_frame.ensures.answer) in
    let once : World = airs c.args.line (aired_one c.args.on_air c.args.node c.args.came f) v in
    let whole = one_frame c.args.line at c.args.node c.args.on_air c.args.came i.0 f first ∙ i.2 in
    let more : length once.air ≤ length (put_by c.args.line at c.args.node c.args.on_air c.args.came w).air =
    subst (λ (u : World). length once.air ≤ length u.air) whole (put_by_grows c.args.line at c.args.node c.args.on_air c.args.came once) in
    refused_still _ _ _ more (c.in_err-put_frame.ensures.runs v fetched))

pub returns : goal.returns
returns c = λ w t.
    let old = course c.loop-written.self in
    let at = c.args.at in
    let m : Member = c.index_mut.result.now in
    let h : at < length old.left.members = c.loop-written.invariant.within in
    let i = c.loop-written.invariant.goes w t in
    let fetched = changed old i.0 at m c.next_frame.new.self fetched_frame h i.1 c.index_mut.ensures.value c.in_default.ensures.goes in
    let none : None ≡ first_frame (slice_get i.0.nodes at) =
    asked old i.0 at m (λ (n : NodeState). slice_get (frames n.station) 0) first_frame _ h i.1 c.index_mut.ensures.value (λ p is. refl) c.in_default.ensures.answer in
    subst (λ v. Stands (with_node old at m c.next_frame.new.self) v) (no_frame c.args.line at c.args.node c.args.on_air c.args.came i.0 none ∙ i.2) fetched
