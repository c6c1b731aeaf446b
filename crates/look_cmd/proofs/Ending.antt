-- How `trace` ends, from how the trace of its file is printed.
use Rattle.std.proofs.Common.{◌≡◌, inr, inl, ℕ, List}
use Rattle.network_file.specs.Networks.{network_of}
use Rattle.network_file.specs.Plan.{Plan}
use Rattle.net_model.specs.Circuits.{IsNetwork}
use Rattle.cmd_streams.specs.declared.status.Status.{Status}
use Rattle.cmd_streams.specs.Reading.{ReadsAll}
use Rattle.cmd_streams.specs.Told.{StreamsTold, TellsGoodFile}
use Rattle.look_cmd.specs.Look.{TraceEnds}
use Rattle.look_cmd.specs.Traced.{TracedEnds}
use Rattle.cmd_streams.proofs.WholeFiles.{file_told, not_too_much, output}

-- a file that was read to its end
pub trace_ends : (before after : StreamsTold) (status : Status) (bytes : List ℕ) → ReadsAll before.left after.left bytes → after.read_faults ≡ before.read_faults
    → TracedEnds bytes (output before) (output after) status → TraceEnds before after status
trace_ends before after status bytes all same e =
    let whole : (P : Plan → Type 0) → TellsGoodFile network_of P before.left → IsNetwork bytes P =
    λ P tells. file_told before.left after.left bytes all _ tells in
    record {
      done = λ s. (bytes, all, e.done s);
      late = λ s. (bytes, all, e.late s);
      done_comes = λ tells _ fault. e.done_comes (whole _ tells) fault;
      late_comes = λ tells _ fault. e.late_comes (whole _ tells) fault;
      read_fault = λ s. absurd (e.others.1 s);
      read_few = λ s. absurd (e.others.1 s);
      read_same = λ s. same;
      too_long = λ s. inr (bytes, all, e.too_long s);
      too_long_comes = λ tells _. elim tells [ inl much ↦ absurd (not_too_much before.left after.left bytes all much) | inr many ↦ e.too_long_comes (whole _ many) ];
      bad_file = λ s. (bytes, all, e.bad_file s);
      bad_file_comes = λ tells _. e.bad_file_comes (file_told before.left after.left bytes all _ tells);
      write_fault = e.write_fault;
      write_front = λ s. (bytes, all, e.write_front s);
      write_same = e.write_same;
      others = e.others.0;
    }
