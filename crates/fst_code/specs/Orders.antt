-- The order in which the nodes are numbered. Source: depth-first search.
use Rattle.std.specs.Prelude.{ℕ, zero, suc, ◌+◌, ◌-◌, Bool, false, ◌||◌, not, ◌==◌}
use Rattle.std.specs.Prelude.{if◌then◌else◌, List, [], ◌∷◌, ◌++◌, length, get_or, Option, Some, None}
use Rattle.sg_base.specs.declared.node.Edge.{Edge}
use Rattle.fst_code.specs.Bytes.{entry}
use Rattle.fst_code.specs.Frames.{or_first, broken_if}

-- a number is in a list
abbrev pub has : ℕ → List ℕ → Bool
has x [] = false
has x (y ∷ ys) = (x == y) || has x ys

-- one after the other, for the target of each arc
abbrev pub for_targets : {A : Type 0} → (ℕ → A → A) → List Edge → A → A
for_targets f [] done = done
for_targets f (e ∷ es) done = for_targets f es (f e.target.0 done)

-- the numbers of the nodes in the order in which a walk, depth first and by rising labels, leaves
-- each for the first time, after those left already; the first number bounds the walk's depth
unfoldable pub postorder : ℕ → List (List Edge) → ℕ → List ℕ → List ℕ
postorder zero nodes id done = done
postorder (suc deep) nodes id done =
    if has id done
    then done
    else for_targets (postorder deep nodes) (get_or nodes id []) done ++ id ∷ []

-- a walk from a node
abbrev pub visit : List (List Edge) → ℕ → List ℕ → List ℕ
visit nodes id = postorder (suc id) nodes id

-- so many numbers from one on
abbrev pub from_to : ℕ → ℕ → List ℕ
from_to zero i = []
from_to (suc n) i = i ∷ from_to n (i + 1)

-- the first of so many places, from a number on, that doesn't hold its own number
abbrev pub misplaced : ℕ → ℕ → List ℕ → Option ℕ
misplaced zero id order = None
misplaced (suc n) id [] = Some (entry id)
misplaced (suc n) id (x ∷ xs) =
    or_first (broken_if (not (x == id)) (entry id)) (misplaced n (id + 1) xs)

-- rule 12: every node is reached from the root, and nodes are numbered in the order of the walk
abbrev pub rule_12 : List (List Edge) → Option ℕ
rule_12 nodes =
    misplaced (length nodes) 0 (postorder (length nodes) nodes (length nodes - 1) [])
