use Rattle.std.proofs.Common.{◌∙◌, ◌∷◌, ◌++◌, [], refl, sym, ap}
use Rattle.station.specs.States.{StationState, frame_fetched, put_frame, put_frames}
use Rattle.station.specs.declared.outs.Waiting.TheVariants as waiting
use Rattle.station_members.specs.States as members
use Rattle.station_users.specs.States.{at_members}
use Rattle.station.proofs.Going.{same_stands, users_go}
use Rattle.station.proofs.Loops.{frames_done, frames_last, frames_next}
use Rattle.station.proofs.Waiting.{with_frame}
use Rattle.station.proofs.works.Works.fetch_frames.Goals as goal

pub loop-init : goal.loop-init
loop-init c = λ s stands. (s, stands, refl)

pub loop-preserved : goal.loop-preserved
loop-preserved c = λ s stands.
    let i = c.loop.invariant s stands in
    let t : StationState = i.0 in
    let frame = c.in-Some.frame in (
      put_frame frame (frame_fetched t),
      record {
        users = c.in-Some.ensures.goes t.users i.1.users;
        outs = c.in_ok-put_frame.ensures.waiting ∙ ap (λ xs. xs ++ waiting.Frame frame ∷ []) i.1.outs;
        counted = c.in_ok-put_frame.ensures.consoles ∙ (i.1.counted ∙ sym (with_frame t.outs frame));
        entries = i.1.entries;
      },
      sym (frames_next c.loop.counter t frame c.loop-test.true (c.in-Some.ensures.answer t.users i.1.users)) ∙ i.2,
    )

pub returns-in_default : goal.returns-in_default
unfolding put_frames
returns-in_default c = λ s stands.
    let i = c.loop.invariant s stands in
    let t : StationState = i.0 in
    same_stands _ _ _ (sym (frames_last c.loop.counter t c.loop-test.true (c.in_default.ensures.answer t.users i.1.users)) ∙ i.2)
    (users_go (at_members members.fetch_frame) c.loop.self _ t c.in_default.ensures.goes refl refl i.1)

pub returns : goal.returns
unfolding put_frames
returns c = λ s stands.
    let i = c.loop.invariant s stands in
    same_stands c.loop.self _ _ (sym (frames_done c.loop.counter i.0 c.loop-test.false) ∙ i.2) i.1
