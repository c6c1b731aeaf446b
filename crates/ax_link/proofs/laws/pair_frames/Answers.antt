use Rattle.ax_link.proofs.Leaving.{both_same, frame_gone, frame_put}
use Rattle.ax_link.proofs.laws.pair_frames.Goals as goal

pub returns-clause-comes : goal.returns-clause-comes
returns-clause-comes c = λ l r f before behind to_r. frame_put l r f before behind to_r

pub returns-clause-goes : goal.returns-clause-goes
returns-clause-goes c = λ l r f before behind to_r. frame_gone l r f before behind to_r

pub returns-clause-both : goal.returns-clause-both
returns-clause-both c = λ l r x x2 y y2. both_same l r x x2 y y2
