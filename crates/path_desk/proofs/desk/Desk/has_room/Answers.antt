-- Queued, reached and followed are within the room.
use Rattle.std.proofs.Common.{arith}
use Rattle.path_desk.proofs.desk.Desk.has_room.Goals as goal

pub is_below-requires : goal.is_below-requires
is_below-requires c =
    let taken = c.taken_room-taken.ensures c.self.inside.path.items in
    omega (arith, taken, c.len.ensures, c.self.invariant.1)
