use Rattle.std.proofs.Common.{◌≡◌, arith, true}
use Rattle.std.specs.Prelude.{◌==◌}
use Rattle.std.proofs.lemmas.Bool.Decides.{nat_tests}
use Rattle.node_settings.proofs.paths.set_own_path.Goals as goal

pub returns-then-via-number : goal.returns-then-via-number
returns-then-via-number c =
    let own : (c.args.via.now.node == c.args.number) ≡ true = grind (arith, nat_tests) in
    rw own c.set_path.ensures
