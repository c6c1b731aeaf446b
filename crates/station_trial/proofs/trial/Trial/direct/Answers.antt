use Rattle.std.proofs.Common.{refl}
use Rattle.std.proofs.lemmas.Result.{IfOk-weaker}
use Rattle.station_trial.specs.declared.trial.Came.TheVariants.{Done}
use Rattle.station_trial.specs.Directing.{call_of, go_to, heard, open_by, place_at, stop_at, with_frames, with_lose}
use Rattle.station_trial.specs.Gifts.{All, Round}
use Rattle.station_trial.specs.Trials.{at_outlet, deal, pass}
use Rattle.station_trial.proofs.Directs.{does_asked, does_step}
use Rattle.station_trial.proofs.trial.Trial.direct.Goals as goal

pub returns-in-At : goal.returns-in-At
returns-in-At c =
    does_step _ _ (λ s. go_to (place_at c.in-At.number s) s) _ _ c.go_to.result c.in-At.is (λ s came after b. b) c.go_to.ensures

pub returns-in-Open : goal.returns-in-Open
returns-in-Open c =
    IfOk-weaker c.open.result _ _
    (λ came goes. does_step _ _ (λ s. open_by (call_of c.in-Open.word.now) s) _ _ came c.in-Open.is (λ s came after b. b) goes) c.open.ensures

pub returns-in_ok-pass-in-Tick : goal.returns-in_ok-pass-in-Tick
returns-in_ok-pass-in-Tick c =
    does_step _ _ (λ s. (Done, pass c.in-Tick.ms s)) _ _ Done c.in-Tick.is (λ s came after b. b) (λ s stands. (refl, c.in_ok-pass-in-Tick.ensures s stands))

pub returns-in_ok-deal-in-Round : goal.returns-in_ok-deal-in-Round
returns-in_ok-deal-in-Round c =
    does_step _ _ (λ s. (Done, deal (All Round) s)) _ _ Done c.in-Round.is (λ s came after b. b) (λ s stands. (refl, c.in_ok-deal-in-Round.ensures s stands))

pub returns-in-Heard : goal.returns-in-Heard
returns-in-Heard c =
    IfOk-weaker c.hear.result _ _
    (λ came goes. does_step _ _ (λ s. heard c.in-Heard.port.now c.in-Heard.digits.now s) _ _ came c.in-Heard.is (λ s came after b. b) goes) c.hear.ensures

pub returns-in-Restart : goal.returns-in-Restart
returns-in-Restart c =
    IfOk-weaker c.restart.result _ _
    (λ came goes s stands. let gone = goes s stands in (gone.0, does_asked _ _ s came gone.0 c.in-Restart.is gone.1, gone.2)) c.restart.ensures

pub returns-in-Stop : goal.returns-in-Stop
returns-in-Stop c =
    IfOk-weaker c.stop.result _ _
    (λ came goes. does_step _ _ (λ s. stop_at (place_at c.in-Stop.number s) s) _ _ came c.in-Stop.is (λ s came after b. b) goes) c.stop.ensures

pub returns-in-Frames : goal.returns-in-Frames
returns-in-Frames c = λ s stands.
    let held = rw (← c.self.view_is) at stands in (
      at_outlet (with_frames c.in-Frames.shows) s,
      does_asked _ _ s Done _ c.in-Frames.is (refl, refl),
      record {
        tried = held.tried;
        outlet = record { shown = held.outlet.shown; flights = held.outlet.flights; lose = held.outlet.lose; shows_frames = refl };
        time = held.time;
        at = held.at;
      },
    )

pub returns-in-Lose : goal.returns-in-Lose
returns-in-Lose c = λ s stands.
    let held = rw (← c.self-in-Lose.view_is) at stands in (
      at_outlet (with_lose c.in-Lose.count) s,
      does_asked _ _ s Done _ c.in-Lose.is (refl, refl),
      record {
        tried = held.tried;
        outlet = record { shown = held.outlet.shown; flights = held.outlet.flights; lose = refl; shows_frames = held.outlet.shows_frames };
        time = held.time;
        at = held.at;
      },
    )
