-- How the two commands end that run a network, from how its file is printed.
use Rattle.std.proofs.Common.{◌≡◌, inl, inr, ℕ, List}
use Rattle.network_file.specs.Networks.{network_of}
use Rattle.network_file.specs.Plan.{Plan}
use Rattle.network_soak.specs.Files.{soak_file}
use Rattle.network_soak.specs.Laws.{AreNetworks}
use Rattle.node_cmd.specs.declared.outcomes.Printed.TheVariants.{Report, SoakLine}
use Rattle.node_cmd.specs.declared.ran.Ran.{Ran}
use Rattle.cmd_streams.specs.declared.status.Status.{Status}
use Rattle.net_model.specs.Circuits.{IsNetwork}
use Rattle.node_cmd.specs.Outcomes.{NetworkEnds}
use Rattle.cmd_streams.specs.Reading.{ReadsAll}
use Rattle.node_cmd.specs.Run.{ReplayEnds, SoakEnds}
use Rattle.cmd_streams.specs.Told.{StreamsTold, TellsGoodFile}
use Rattle.cmd_streams.proofs.WholeFiles.{file_told, not_too_much, output}

module _ (before after : StreamsTold) (ran : Ran) (status : Status) where
  -- a file that was read to its end
  pub replay_ends : (bytes : List ℕ) → ReadsAll before.left after.left bytes → after.read_faults ≡ before.read_faults
      → NetworkEnds Report bytes (output before) (output after) ran status → ReplayEnds before after ran status
  replay_ends bytes all same e =
      let whole : (P : Plan → Type 0) → TellsGoodFile network_of P before.left → IsNetwork bytes P =
      λ P tells. file_told before.left after.left bytes all _ tells in
      record {
        done = λ s. (bytes, all, e.done s);
        late = λ s. (bytes, all, e.late s);
        done_comes = λ tells _ fault. e.done_comes (whole _ tells) fault;
        late_comes = λ tells _ fault. e.late_comes (whole _ tells) fault;
        read_fault = λ s. absurd (e.others.1 s);
        read_few = λ s. absurd (e.others.1 s);
        read_same = λ s. same;
        too_long = λ s. inr (bytes, all, e.too_long s);
        too_long_comes = λ tells _. elim tells [ inl much ↦ absurd (not_too_much before.left after.left bytes all much) | inr many ↦ e.too_long_comes (whole _ many) ];
        bad_file = λ s. (bytes, all, e.bad_file s);
        bad_file_comes = λ tells _. e.bad_file_comes (file_told before.left after.left bytes all _ tells);
        write_fault = e.write_fault;
        write_front = λ s. (bytes, all, e.write_front s);
        write_same = e.write_same;
        others = e.others.0;
      }

  -- the file of a number, in which no line is bad
  pub soak_ends : (seed : ℕ) → AreNetworks → NetworkEnds (SoakLine seed) (soak_file seed) before after ran status → SoakEnds seed before after ran status
  soak_ends seed networks e = record {
    done = e.done;
    late = e.late;
    done_comes = e.done_comes;
    late_comes = e.late_comes;
    too_long = e.too_long;
    too_long_comes = e.too_long_comes;
    write_fault = e.write_fault;
    write_front = e.write_front;
    write_same = e.write_same;
    others = (e.others.0, e.others.1, λ s. let bad = e.bad_file s in let good = networks seed in absurd (cc (bad.1, good.1)));
  }
