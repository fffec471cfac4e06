-- The lines of an input ask for commands that are read.
use Rattle.std.proofs.Common.{ℕ, ◌+◌, Bool, true, false, cond, List, [], ◌∷◌, Option, Some, None}
use Rattle.std.specs.List.{All}
use Rattle.std.specs.Option.{option_map_or}
use Rattle.std.proofs.lemmas.List.Elements.{All-nil, All-cons}
use Rattle.wire_json.specs.Commands.{Command, refused, command_by_form, command_of_form}
use Rattle.wire_json.specs.Commands.{command_of_value, value_of, is_long, is_blank}
use Rattle.wire_json.specs.Commands.{command_of}
use Rattle.wire_json.specs.CommandForms.{IsRead}
use Rattle.wire_json.specs.Forms.{Form, change, delete, suggest, open_view, close_view, form_of}
use Rattle.wire_json.specs.Forms.{flush, merge}
use Rattle.wire_json.specs.LineErrors.{error_of_form}
use Rattle.sg_shell.specs.Transcripts.{lines_from, standard}
use Rattle.sg_shell.specs.declared.engine.TheConstants.{LANES}

read-if : (b : Bool) (one other : Command) → IsRead one → IsRead other → IsRead (cond b one other)
read-if true one other p q = p
read-if false one other p q = q

read-or : {X : Type 0} (f : X → Command) (found : Option X) (other : Command)
    → ((x : X) → IsRead (f x)) → IsRead other → IsRead (option_map_or f found other)
read-or f None other p q = q
read-or f (Some x) other p q = p x

form-read : (f : Form) → IsRead (command_by_form standard LANES f)
form-read (change how lane id ds) = tt
form-read (delete lane id) = tt
form-read (suggest lane prefix options view) = tt
form-read (open_view lane name) = tt
form-read (close_view lane name) = tt
form-read (flush lane) = tt
form-read (merge lane) = tt

pub line-read : (line : List ℕ) → IsRead (command_of standard LANES line)
line-read line =
    read-if (is_long line) _ _ tt (read-if (is_blank line) _ _ tt
    (read-or (command_of_value standard LANES) (value_of line) _
    (λ d. read-or (command_of_form standard LANES) (form_of d) _
    (λ f. read-or refused (error_of_form standard LANES f) _ (λ kind. tt) (form-read f)) tt)
    tt))

pub lines-read : (n : ℕ) (lines : List (List ℕ))
    → All (λ l. IsRead l.command) (lines_from n lines)
lines-read n [] = All-nil (λ l. IsRead l.command)
lines-read n (line ∷ lines) =
    All-cons (λ l. IsRead l.command) _ _ (line-read line) (lines-read (n + 1) lines)
