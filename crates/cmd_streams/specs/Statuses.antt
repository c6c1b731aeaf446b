-- The exit statuses.
use Rattle.std.specs.Prelude.{ℕ}
use Rattle.cmd_streams.specs.declared.status.Status.{Status}
use Rattle.cmd_streams.specs.declared.status.Status.TheVariants.{Done, Usage, BadFile, ReadFault, WriteFault, TooLong, TooLate, NoMemory}

-- 1 is left to what the system itself says of a program
abbrev pub exit_status : Status → ℕ
exit_status Done = 0
exit_status Usage = 2
exit_status BadFile = 3
exit_status ReadFault = 4
exit_status WriteFault = 5
exit_status TooLong = 6
exit_status TooLate = 7
exit_status NoMemory = 8
