-- The rows that are out, continued by those of the hits to come, are all rows.
use Rattle.std.proofs.Common.{◌≡◌, ◌++◌, drop, map}
use Rattle.std.specs.List.{All}
use Rattle.sg_view.specs.Rows.{HasHit}
use Rattle.sg_shell.specs.Working.{hit_row}
use Rattle.sg_shell.proofs.viewing.out_rows.Given as goal

abbrev pub invariant-loop-hit : goal.invariant-loop-hit
invariant-loop-hit l =
    (l.rows.items ++ map (hit_row l.view.segments) (drop l.hit-index l.hits)
    ≡ map (hit_row l.view.segments) l.hits)
    × All (HasHit l.view.segments) (drop l.hit-index l.hits)
