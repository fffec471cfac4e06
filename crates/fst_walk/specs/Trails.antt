-- What the walk over all paths keeps. No public clause cites this module but through the view of
-- the paths that are left.
use Rattle.std.specs.Prelude.{ℕ, ◌≡◌, ◌≤◌, ◌+◌, List, length, take, get_or}
use Rattle.sg_base.specs.declared.node.Edge.{Edge}
use Rattle.fst_code.specs.Tails.{tails}
use Rattle.fst_code.specs.Lists.{root_paths}
use Rattle.fst_walk.specs.Spots.{IsSpot}
use Rattle.fst_walk.specs.declared.spot.Spot.{Spot}
use Rattle.fst_walk.specs.declared.trail.Trail.{Trail}
use Rattle.fst_walk.specs.declared.trail.TrailStage.{TrailStage}
use Rattle.fst_walk.specs.declared.trail.TrailStage.TheVariants.{Fresh, AtPath, Past}

-- the bytes that were walked
abbrev pub walked : Trail → List ℕ
walked w = take w.len w.bytes

-- the cursor of each front of them
pub record IsTrail (t : List (List Edge)) (w : Trail) : Type 0 where
  pub fits : w.len ≤ 324
  pub room : length w.bytes ≡ 324
  pub spots : (i : ℕ) (d : Spot) → i ≤ w.len → IsSpot t (take i w.bytes) (get_or w.frames i d)

-- how many paths stand before the end of those under a cursor
abbrev pub ending : List (List Edge) → Spot → ℕ
ending t s = s.ordinal + length (tails t s.node.0)

-- the trail was moved to what follows all paths under its last cursor
pub record IsMoved (t : List (List Edge)) (old new : Trail) : Type 0 where
  pub trail : IsTrail t new
  pub follows : (d : Spot) → (get_or new.frames new.len d).ordinal
      ≡ ending t (get_or old.frames old.len d)

-- the trail was moved down to the end of the first path under its last cursor
pub record IsDown (t : List (List Edge)) (old new : Trail) : Type 0 where
  pub trail : IsTrail t new
  pub at_end : (d : Spot) → (get_or new.frames new.len d).node.0 ≡ 0
  pub first : (d : Spot) → (get_or new.frames new.len d).ordinal
      ≡ (get_or old.frames old.len d).ordinal

-- Where the trail stands: before anything was given at the first path, then at the one that was
-- given last, and then behind all.
abbrev pub Stands : List (List Edge) → TrailStage → ℕ → Trail → Type 0
Stands t Fresh given w =
    IsTrail t w × ((d : Spot) → (get_or w.frames w.len d).ordinal ≡ given)
Stands t AtPath given w =
    IsTrail t w × ((d : Spot) → ending t (get_or w.frames w.len d) ≡ given)
Stands t Past given w = given ≡ length (root_paths t)

-- at a path that is to come
pub record IsAtPath (t : List (List Edge)) (given : ℕ) (w : Trail) : Type 0 where
  pub trail : IsTrail t w
  pub place : (d : Spot) → (get_or w.frames w.len d).ordinal ≡ given
