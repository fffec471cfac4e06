-- What the walk over contexts keeps. No public clause cites this module but through the view of the
-- starts that are left.
use Rattle.std.specs.Prelude.{ℕ, ◌≡◌, ◌≤◌, ◌<◌, ◌+◌, ◌-◌, Bool, true, false, cond, Some, None}
use Rattle.std.specs.Prelude.{List, [], ◌∷◌, ◌++◌, length, take, get_or}
use Rattle.sg_base.specs.declared.reserved.TheConstants.{CONTEXT_END}
use Rattle.sg_context.specs.Queries.{PlainQuery}
use Rattle.sg_base.specs.declared.node.Edge.{Edge}
use Rattle.fst_code.specs.Lists.{root_paths}
use Rattle.sg_base.specs.ByteStrings.{begins}
use Rattle.fst_walk.specs.Spots.{IsSpot}
use Rattle.fst_walk.specs.Positions.{no_end}
use Rattle.fst_walk.specs.Starts.{is_asked, left_starts}
use Rattle.fst_walk.specs.Budgets.{budget}
use Rattle.fst_walk.specs.Asked.{Position, budget_at, starts_at, pending, Closed}
use Rattle.fst_walk.specs.declared.spot.Spot.{Spot}
use Rattle.fst_walk.specs.declared.walk.Walk.{Walk}
use Rattle.fst_walk.specs.declared.walk.Stage.{Stage}
use Rattle.fst_walk.specs.declared.walk.Stage.TheVariants.{Fresh, Within, Past}

-- the bytes of the context at hand
abbrev pub bytes_of : Walk → List ℕ
bytes_of w = take w.len w.at

-- whether the walk stands among all that goes on from a query context
abbrev pub is_within : Stage → Bool
is_within Within = true
is_within other = false

-- Among all that goes on from a query context: the cursors from its bytes on are those of the
-- fronts of the context at hand.
pub record InGroup (t : List (List Edge)) (q : PlainQuery) (w : Walk) : Type 0 where
  pub stage : w.stage ≡ Within
  pub base : w.base ≤ w.len
  pub fits : w.len ≤ 63
  pub room : length w.at ≡ 64
  pub clean : no_end (take w.len w.at) ≡ true
  pub spots : (i : ℕ) (d : Spot) → w.base ≤ i → i ≤ w.len
      → IsSpot t (take i w.at) (get_or w.frames i d)
  pub asks : (c : List ℕ) → begins (take w.base w.at) c ≡ true → is_asked q.contexts c ≡ true
  pub closed : Closed q.contexts (Some (take w.base w.at, None))

-- the arcs are those of the node at hand
abbrev pub ShowsTop : List (List Edge) → Walk → List Edge → Type 0
ShowsTop t w es = (d : Spot) → es ≡ get_or t (get_or w.frames w.len d).node.0 []

-- the walk left the group behind
pub record IsPast (t : List (List Edge)) (q : PlainQuery) (old new : Walk) (before after : ℕ) : Type
    0 where
  pub stage : new.stage ≡ Past
  pub fits : new.len ≤ 63
  pub bytes : bytes_of new ≡ take old.base old.at
  pub starts : left_starts (root_paths t) q (bytes_of old) (Some 0)
      ≡ left_starts (root_paths t) q (bytes_of new) None
  pub ticks : after + budget (root_paths t) q (bytes_of new) None
      ≤ before + budget (root_paths t) q (bytes_of old) (Some 0) + (old.len - old.base + 1)

-- the walk came to the next start
pub record IsAtNext (t : List (List Edge)) (q : PlainQuery) (old new : Walk) (before after : ℕ)
    (found : Spot) : Type 0 where
  pub group : InGroup t q new
  pub starts : left_starts (root_paths t) q (bytes_of old) (Some 0)
      ≡ bytes_of new ∷ left_starts (root_paths t) q (bytes_of new) (Some 0)
  pub spot : IsSpot t (bytes_of new ++ CONTEXT_END ∷ q.prefix) found
  pub ticks : after + budget (root_paths t) q (bytes_of new) (Some 0) + (new.len - new.base + 1)
      ≤ before + budget (root_paths t) q (bytes_of old) (Some 0) + (old.len - old.base + 1)

-- where a walk stands whose context at hand has the bytes
abbrev pub position_by : Stage → List ℕ → Position
position_by Fresh bytes = None
position_by Past bytes = Some (bytes, None)
position_by other bytes = Some (bytes, Some 0)

-- where the walk stands between query contexts
abbrev pub position_of : Walk → Position
position_of w = position_by w.stage (bytes_of w)

-- what the walk keeps between calls
pub record Ready (t : List (List Edge)) (q : PlainQuery) (w : Walk) : Type 0 where
  pub fits : w.len ≤ 63
  pub group : is_within w.stage ≡ true → InGroup t q w
  pub closed : is_within w.stage ≡ false → Closed q.contexts (position_of w)

-- the starts that are left
abbrev pub left_of : List (List Edge) → PlainQuery → Walk → List (List ℕ)
left_of t q w = starts_at (root_paths t) q (position_of w)

-- the steps that they may take
abbrev pub budget_of : List (List Edge) → PlainQuery → Walk → ℕ
budget_of t q w = budget_at (root_paths t) q (position_of w) + cond (is_within w.stage)
    (w.len - w.base + 1) 0

-- a query context gave no start
pub record GivesNone (t : List (List Edge)) (q : PlainQuery) (old new : Walk)
    (before after : ℕ) : Type 0 where
  pub ready : Ready t q new
  pub idle : is_within new.stage ≡ false
  pub left : left_of t q old ≡ left_of t q new
  pub pending : pending q (position_of new) < pending q (position_of old)
  pub ticks : after + budget_of t q new ≤ before + budget_of t q old

-- a call gave a start
pub record GivesStart (t : List (List Edge)) (q : PlainQuery) (old new : Walk) (before after : ℕ)
    (found : Spot) : Type 0 where
  pub ready : Ready t q new
  pub left : left_of t q old ≡ bytes_of new ∷ left_of t q new
  pub spot : IsSpot t (bytes_of new ++ CONTEXT_END ∷ q.prefix) found
  pub ticks : after + budget_of t q new ≤ before + budget_of t q old

-- there was none
pub record GivesEnd (t : List (List Edge)) (q : PlainQuery) (old new : Walk)
    (before after : ℕ) : Type 0 where
  pub ready : Ready t q new
  pub left : left_of t q old ≡ []
  pub still : left_of t q new ≡ []
  pub ticks : after + budget_of t q new ≤ before + budget_of t q old
