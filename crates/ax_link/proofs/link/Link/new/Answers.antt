use Rattle.ax_link.specs.Opening.{rules_new}
use Rattle.ax_link.proofs.PutOut.{emptied}
use Rattle.ax_link.proofs.RunExamples.{window_fits}
use Rattle.ax_link.proofs.Within.{opening_sized}
use Rattle.ax_link.proofs.link.Link.new.Goals as goal

pub returns-clause-opening : goal.returns-clause-opening
returns-clause-opening g c = record {
  keeps = c.in_ok-machine.ensures.opening;
  bounds = emptied (rules_new g.M.Modulus.SIZE c.args.config) (window_fits g.M.Modulus.SIZE c.args.config.srej c.args.config.window c.requires.modulus);
  sized = opening_sized g.M.Modulus.SIZE c.args.config c.requires.modulus;
}
