-- A struct without fields, as the machine has it and as a type, for the walks of the counter.
use Rattle.std.proofs.Common.{[]}
use mir.Val.{Val, vstruct, vnil}
use denote.RattleType.{RattleType}
use denote.Struct.Struct.{Shape, Struct}

-- the machine's value of it
abbrev pub bare : Val
bare = vstruct vnil

-- no name that counts, no field
abbrev pub no_fields : Shape
no_fields = record { name = []; args = []; types = []; fields = [] }

-- it owns facts alone, so it is had for nothing
abbrev pub bare_type : RattleType
bare_type = Struct no_fields
