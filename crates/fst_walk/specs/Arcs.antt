-- Tests of arcs by their labels. No public clause cites this module.
use Rattle.std.specs.Prelude.{ℕ, Bool, not, ◌&&◌, ◌==◌, nat_le}
use Rattle.sg_base.specs.declared.reserved.TheConstants.{CONTEXT_END}
use Rattle.sg_base.specs.declared.node.Edge.{Edge}

-- whether it has this label
abbrev pub has_that_label : ℕ → Edge → Bool
has_that_label label e = e.label == label

-- whether its label is at least this, and ends no context
abbrev pub is_from : ℕ → Edge → Bool
is_from label e = nat_le label e.label && not (e.label == CONTEXT_END)

-- whether its label is at least this
abbrev pub is_at_least : ℕ → Edge → Bool
is_at_least label e = nat_le label e.label
