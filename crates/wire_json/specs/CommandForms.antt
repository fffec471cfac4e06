-- The code's commands and errors as plain data. Source: this project's own.
use Rattle.std.specs.Prelude.{◌≡◌, ℕ, false, List, Option, Some, None, ⊤, IfSome}
use Rattle.sg_paths.specs.Operations.{plain_op}
use Rattle.wire_json.specs.Commands as plain
use Rattle.wire_replies.specs.declared.error_kind.ErrorKind.{ErrorKind}
use Rattle.wire_replies.specs.declared.error_kind.ErrorKind.TheVariants as kinds
use Rattle.wire_json.specs.declared.errors.LineError.{LineError}
use Rattle.wire_json.specs.declared.errors.LineError.TheVariants as errors
use Rattle.wire_json.specs.declared.commands.Command.{Command}
use Rattle.wire_json.specs.declared.commands.Command.TheVariants.{Blank, Accept, Suggest, OpenView}
use Rattle.wire_json.specs.declared.commands.Command.TheVariants.{CloseView, Flush, Merge, Barrier}

-- a command as plain data
abbrev pub plain_command : Command → plain.Command
plain_command Blank = plain.blank
plain_command (Accept lane op) = plain.accepts lane (plain_op op)
plain_command (Suggest lane query view) = plain.suggests lane query view
plain_command (OpenView lane name) = plain.opens lane name
plain_command (CloseView lane name) = plain.closes lane name
plain_command (Flush lane) = plain.flushes lane
plain_command (Merge lane) = plain.merges lane
plain_command Barrier = plain.barrier

-- the error that a line is answered; none for want of memory
abbrev pub kind_of : LineError → Option ErrorKind
kind_of errors.Long = Some kinds.Long
kind_of errors.Json = Some kinds.Json
kind_of errors.Shape = Some kinds.Shape
kind_of errors.Lane = Some kinds.Lane
kind_of errors.Id = Some kinds.Id
kind_of errors.Empty = Some kinds.Empty
kind_of errors.Weight = Some kinds.Weight
kind_of errors.Reserved = Some kinds.Reserved
kind_of errors.Key = Some kinds.Key
kind_of errors.Contexts = Some kinds.Contexts
kind_of errors.Boost = Some kinds.Boost
kind_of errors.K = Some kinds.K
kind_of errors.Memory = None

-- a line is refused with its own error, or for want of memory
abbrev pub Refuses : plain.Command → LineError → Type 0
Refuses command error = IfSome (kind_of error) (λ kind. command ≡ plain.refused kind)

-- want of memory comes only at a line that is neither long nor blank: those take none
abbrev pub MayWantMemory : List ℕ → LineError → Type 0
MayWantMemory line errors.Memory =
    (plain.is_long line ≡ false) × (plain.is_blank line ≡ false)
MayWantMemory line other = ⊤

-- the commands that a line may ask for: the other words aren't read
abbrev pub IsRead : plain.Command → Type 0
IsRead plain.blank = ⊤
IsRead (plain.accepts lane operation) = ⊤
IsRead (plain.suggests lane query view) = ⊤
IsRead (plain.opens lane name) = ⊤
IsRead (plain.closes lane name) = ⊤
IsRead (plain.flushes lane) = ⊤
IsRead (plain.merges lane) = ⊤
IsRead plain.barrier = ⊥
IsRead (plain.refused kind) = ⊤
