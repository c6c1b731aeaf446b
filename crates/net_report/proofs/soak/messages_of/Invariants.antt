use Rattle.std.proofs.Common.{◌≡◌, ◌≤◌, ◌*◌, ◌^◌, take}
use Rattle.net_report.specs.Reports.{received_in, wrote_in}
use Rattle.net_report.proofs.soak.messages_of.Given as goal

-- the sums so far, of numbers below 2^64
abbrev pub invariant-loop-end : goal.invariant-loop-end
invariant-loop-end l = record {
  wrote : l.wrote ≡ wrote_in (take l.end-index l.ends);
  received : l.received ≡ received_in (take l.end-index l.ends);
  wrote_fits : l.wrote ≤ l.end-index * 2 ^ 64;
  received_fits : l.received ≤ l.end-index * 2 ^ 64;
}
