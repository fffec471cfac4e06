-- The rules of the nodes and their paths. Nodes are looked at in rising order, and in a node its
-- arcs. Each rule is the offset where it is broken first. Source: this project's own format.
use Rattle.std.specs.Prelude.{ℕ, ◌+◌, ◌*◌, ◌-◌, ◌^◌, Bool, false, ◌||◌, not, ◌==◌, nat_lt}
use Rattle.std.specs.Prelude.{List, [], ◌∷◌, ◌++◌, length, get_or, Option, None}
use Rattle.std.specs.Int.{byte_len}
use Rattle.sg_base.specs.declared.node.Edge.{Edge}
use Rattle.sg_base.specs.Nodes.{holds_same}
use Rattle.fst_code.specs.Bytes.{Form, wide, entry}
use Rattle.fst_code.specs.Frames.{or_first, broken_if}
use Rattle.fst_code.specs.Tails.{table, dearest, longest, counts}

-- a test of each node by its number, the offset of its arcs and its arcs
abbrev pub over : Form → (ℕ → ℕ → List Edge → Option ℕ) → ℕ → ℕ → List (List Edge) → Option ℕ
over f test id at [] = None
over f test id at (n ∷ ns) =
    or_first (test id at n) (over f test (id + 1) (at + wide f * length n) ns)

-- the same from the first node on
abbrev pub in_nodes : Form → (ℕ → ℕ → List Edge → Option ℕ) → List (List Edge) → Option ℕ
in_nodes f test nodes = over f test 0 (entry (length nodes)) nodes

-- the arcs from an offset on, by their labels
abbrev pub labels_broken : Form → ℕ → List Edge → Option ℕ
labels_broken f at [] = None
labels_broken f at (e ∷ []) = None
labels_broken f at (e ∷ d ∷ es) =
    or_first (broken_if (not (nat_lt e.label d.label)) (at + wide f))
    (labels_broken f (at + wide f) (d ∷ es))

-- rule 5: in each node the labels rise strictly
abbrev pub rule_5 : Form → List (List Edge) → Option ℕ
rule_5 f nodes = in_nodes f (λ id at n. labels_broken f at n) nodes

-- the arcs of a node from an offset on, by their targets
abbrev pub targets_broken : Form → ℕ → ℕ → List Edge → Option ℕ
targets_broken f id at [] = None
targets_broken f id at (e ∷ es) =
    or_first (broken_if (not (nat_lt e.target.0 id)) (at + (5 + byte_len f.cost)))
    (targets_broken f id (at + wide f) es)

-- rule 6: each target is less than its node's number
abbrev pub rule_6 : Form → List (List Edge) → Option ℕ
rule_6 f nodes = in_nodes f (λ id at n. targets_broken f id at n) nodes

-- the arcs from an offset on, after so many paths, by what they count before them
abbrev pub counts_broken : Form → List ℕ → ℕ → ℕ → List Edge → Option ℕ
counts_broken f known sofar at [] = None
counts_broken f known sofar at (e ∷ es) =
    or_first (broken_if (not (e.before == sofar)) (at + (1 + byte_len f.cost)))
    (counts_broken f known (sofar + get_or known e.target.0 0) (at + wide f) es)

-- rule 7: each arc counts the paths under those before it, no node has over 2^22 paths, and the
-- root has as many as the header gives
abbrev pub rule_7 : Form → ℕ → List (List Edge) → Option ℕ
rule_7 f paths nodes =
    or_first
    (in_nodes f
    (λ id at n.
    or_first (counts_broken f (counts nodes) 0 at n)
    (broken_if (nat_lt (2 ^ 22) (get_or (counts nodes) id 0)) (entry id)))
    nodes)
    (broken_if (not (paths == get_or (counts nodes) (length nodes - 1) 0)) 12)

-- the nodes from a number on, after earlier ones
abbrev pub repeated : ℕ → List (List Edge) → List (List Edge) → Option ℕ
repeated id earlier [] = None
repeated id earlier (n ∷ ns) =
    or_first (broken_if (holds_same n earlier) (entry id))
    (repeated (id + 1) (earlier ++ n ∷ []) ns)

-- rule 8: no two nodes have the same labels, costs and targets
abbrev pub rule_8 : List (List Edge) → Option ℕ
rule_8 nodes = repeated 0 [] nodes

-- an arc of cost 0
abbrev pub is_free : List Edge → Bool
is_free [] = false
is_free (e ∷ es) = (e.cost == 0) || is_free es

-- a node of so many, by its costs
abbrev pub free_broken : ℕ → ℕ → List Edge → Option ℕ
free_broken count id n = broken_if (not (is_free n || (id == 0) || (id + 1 == count))) (entry id)

-- rule 9: each node but the end and the root has an arc of cost 0
abbrev pub rule_9 : Form → List (List Edge) → Option ℕ
rule_9 f nodes = in_nodes f (λ id at n. free_broken (length nodes) id n) nodes

-- the nodes from a number on, by a measure that has a limit
abbrev pub over_most : ℕ → ℕ → List ℕ → Option ℕ
over_most most id [] = None
over_most most id (x ∷ xs) = or_first (broken_if (nat_lt most x) (entry id))
    (over_most most (id + 1) xs)

-- rule 10: no path from a node costs more than the format allows
abbrev pub rule_10 : Form → List (List Edge) → Option ℕ
rule_10 f nodes = over_most f.most 0 (table dearest [] nodes)

-- rule 11: no path from a node has over 324 labels
abbrev pub rule_11 : List (List Edge) → Option ℕ
rule_11 nodes = over_most 324 0 (table longest [] nodes)
