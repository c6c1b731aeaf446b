use Rattle.station_trial.proofs.trial.Trial.begin_line.Goals as goal

pub returns : goal.returns
returns c = λ s stands. c.in_ok-clear_air-2.ensures _ (c.in_ok-pass.ensures _ (c.in_ok-clear_air.ensures s stands))
