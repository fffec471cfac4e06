-- The exit status of each end of a run, and its line. Source: this project's own.
use Rattle.std.specs.Prelude.{ℕ, List, Option, Some, None, codes}
use Rattle.sg_shell.specs.declared.status.Status.{Status}
use Rattle.sg_shell.specs.declared.status.Status.TheVariants.{Done, Usage, ReadFault, WriteFault}
use Rattle.sg_shell.specs.declared.status.Status.TheVariants.{TooLong, Memory}

-- the exit status of each end
abbrev pub code_of : Status → ℕ
code_of Done = 0
code_of Usage = 2
code_of ReadFault = 3
code_of WriteFault = 4
code_of TooLong = 5
code_of Memory = 6

-- the line for standard error, without its line feed; none where all went well
abbrev pub message_of : Status → Option (List ℕ)
message_of Done = None
message_of Usage =
    Some (codes "usage: suggest run [--lanes N] [--no-separators] | suggest demo N [--lanes N]")
message_of ReadFault = Some (codes "read fault")
message_of WriteFault = Some (codes "write fault")
message_of TooLong = Some (codes "input too long")
message_of Memory = Some (codes "no memory")
