-- What the nodes of a transducer map. Source: weighted finite transducers over min-plus.
use Rattle.std.specs.Prelude.{ℕ, ◌+◌, List, [], ◌∷◌, ◌++◌, map, max, get_or}
use Rattle.std.specs.List.{flat_map, sum_by}
use Rattle.sg_base.specs.declared.node.Edge.{Edge}

-- a path and its cost
abbrev pub Tail : Type 0
Tail = List ℕ × ℕ

-- one entry for each node, from its arcs and the entries of earlier nodes
abbrev pub table : {A : Type 0} → (List A → List Edge → A) → List A → List (List Edge) → List A
table step done [] = done
table step done (n ∷ ns) = table step (done ++ step done n ∷ []) ns

-- a path behind an arc
abbrev pub along : Edge → Tail → Tail
along e t = (e.label ∷ t.0, e.cost + t.1)

-- what a node with these arcs maps; the end has no arc and maps the empty path
abbrev pub mapped : List (List Tail) → List Edge → List Tail
mapped done [] = ([], 0) ∷ []
mapped done (e ∷ es) = flat_map (λ (x : Edge). map (along x) (get_or done x.target.0 [])) (e ∷ es)

-- what arcs map, where the ways from each node are given
abbrev pub spread : (ℕ → List Tail) → List Edge → List Tail
spread ways [] = []
spread ways (e ∷ es) = map (along e) (ways e.target.0) ++ spread ways es

-- how many paths a node with these arcs has
abbrev pub counted : List ℕ → List Edge → ℕ
counted done [] = 1
counted done (e ∷ es) = sum_by (λ (x : Edge). get_or done x.target.0 0) (e ∷ es)

-- the greatest of a measure of arcs
abbrev pub greatest : (Edge → ℕ) → List Edge → ℕ
greatest f [] = 0
greatest f (e ∷ es) = max (f e) (greatest f es)

-- the greatest cost of a path from a node with these arcs
abbrev pub dearest : List ℕ → List Edge → ℕ
dearest done = greatest (λ (x : Edge). x.cost + get_or done x.target.0 0)

-- the most labels of a path from a node with these arcs
abbrev pub longest : List ℕ → List Edge → ℕ
longest done = greatest (λ (x : Edge). 1 + get_or done x.target.0 0)

-- the ways from a node to the end, with their costs
unfoldable pub tails : List (List Edge) → ℕ → List Tail
tails nodes id = get_or (table mapped [] nodes) id []

-- for each node how many paths it has
abbrev pub counts : List (List Edge) → List ℕ
counts = table counted []
