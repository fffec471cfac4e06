-- A builder's vectors as the frames of the last path. No public clause cites it. Source: this
-- project's own.
use Rattle.std.specs.Prelude.{◌≡◌, ℕ, ◌+◌, ◌*◌, ◌<◌, ◌≤◌, List, [], ◌∷◌, length, take, drop, ◌==◌}
use Rattle.std.specs.Prelude.{if◌then◌else◌}
use Rattle.sg_base.specs.declared.node.Edge.{Edge}
use Rattle.fst_code.specs.Tails.{Tail}
use Rattle.fst_build.specs.declared.level.Level.{Level}
use Rattle.fst_build.specs.declared.carried.Carried.{Carried}
use Rattle.fst_build.specs.Building.{Frame, IsOpen, frame_paths}

-- what a builder keeps: the frozen nodes, the levels of the last path with their finished arcs one
-- behind the other, and the end of the path that is carried
pub record Draft : Type 0 where
  pub nodes : List (List Edge)
  pub levels : List Level
  pub edges : List Edge
  pub carried : Carried

-- how many finished arcs levels have
abbrev pub total_held : List Level → ℕ
total_held [] = 0
total_held (l ∷ ls) = l.held + total_held ls

-- the levels with their arcs, which stand one after the other
abbrev pub frames_of : List Level → List Edge → List Frame
frames_of [] edges = []
frames_of (l ∷ ls) edges =
    record { label = l.label; count = l.count; edges = take l.held edges }
    ∷ frames_of ls (drop l.held edges)

-- how many arcs nodes have
abbrev pub total_edges : List (List Edge) → ℕ
total_edges [] = 0
total_edges (n ∷ ns) = length n + total_edges ns

-- the paths that the levels, their arcs and the carried node represent
abbrev pub open_paths : List (List Edge) → List Level → List Edge → Carried → List Tail
open_paths ns levels edges c = frame_paths ns (frames_of levels edges) c.target.0 c.cost

-- what holds between any two steps
pub record IsOpenBuilder (ns : List (List Edge)) (levels : List Level) (edges : List Edge)
    (c : Carried) : Type 0 where
  pub held : total_held levels ≡ length edges
  pub opened : IsOpen ns (frames_of levels edges) c.target.0 c.cost c.count
  pub many : length (open_paths ns levels edges c) ≤ 4194304
  pub nodes : length ns + length levels ≤ 1 + 324 * length (open_paths ns levels edges c)
  pub arcs : total_edges ns + length edges + length levels
      ≤ 324 * length (open_paths ns levels edges c)

-- a level of a path that goes on alone
abbrev pub fresh_level : ℕ → Level
fresh_level x = record { label = x; count = 0; held = 0 }

-- how many labels at the front of levels are those of the path
abbrev pub shared_length : List Level → List ℕ → ℕ
shared_length [] path = 0
shared_length (l ∷ ls) [] = 0
shared_length (l ∷ ls) (x ∷ xs) = if l.label == x then 1 + shared_length ls xs else 0

-- the last arc of a level, once the rest of its path is frozen
abbrev pub last_edge : Level → Carried → Edge
last_edge l c = record { label = l.label; cost = c.cost; before = l.count; target = c.target }

-- a level after the path branches off by another label
abbrev pub branched_level : Level → Carried → ℕ → Level
branched_level l c x = record { label = x; count = l.count + c.count; held = l.held + 1 }

-- the paths that were added
abbrev pub added_paths : List (List Edge) → List Level → List Edge → Carried → List Tail
added_paths ns [] edges c = []
added_paths ns (l ∷ ls) edges c = open_paths ns (l ∷ ls) edges c

-- what holds of a builder between two calls
pub record IsBuilder (ns : List (List Edge)) (levels : List Level) (edges : List Edge)
    (c : Carried) : Type 0 where
  pub none_yet : length levels ≡ 0 → ns ≡ [] ∷ []
  pub none_edges : length levels ≡ 0 → edges ≡ []
  pub carries : 0 < length levels → IsOpenBuilder ns levels edges c

-- the paths that a draft with levels represents
abbrev pub represented : Draft → List Tail
represented d = open_paths d.nodes d.levels d.edges d.carried

-- what holds of a draft with levels between any two steps
abbrev pub IsOpenDraft : Draft → Type 0
IsOpenDraft d = IsOpenBuilder d.nodes d.levels d.edges d.carried

-- the paths that were added to a draft
abbrev pub added : Draft → List Tail
added d = added_paths d.nodes d.levels d.edges d.carried

-- what holds of a draft between two calls
abbrev pub IsDraft : Draft → Type 0
IsDraft d = IsBuilder d.nodes d.levels d.edges d.carried

-- the draft of no path
abbrev pub empty_draft : Draft
empty_draft = record {
  nodes = [] ∷ [];
  levels = [];
  edges = [];
  carried = record { target = record { 0 = 0 }; cost = 0; count = 1 };
}
