-- The rules that say where the nodes stand in the bytes. Each rule is the offset where it is
-- broken first, if it is broken. Source: this project's own format.
use Rattle.std.specs.Prelude.{◌≡◌, ℕ, ◌+◌, ◌*◌, Bool, ◌&&◌, ◌||◌, not, ◌==◌, if◌then◌else◌}
use Rattle.std.specs.Prelude.{nat_lt, nat_le, max, min, List, [], ◌∷◌, length, Option, Some, None}
use Rattle.fst_code.specs.Bytes.{Form, first_form, wide, node_count, arc_count, path_count}
use Rattle.fst_code.specs.Bytes.{entries}

-- the first of two, and the second where there is no first
abbrev pub or_first : {A : Type 0} → Option A → Option A → Option A
or_first (Some x) y = Some x
or_first None y = y

-- the first that there is
abbrev pub firsts : {A : Type 0} → List (Option A) → Option A
firsts [] = None
firsts (x ∷ xs) = or_first x (firsts xs)

-- broken at an offset, or not
abbrev pub broken_if : Bool → ℕ → Option ℕ
broken_if b at = if b then Some at else None

-- rule 1: there are at least 16 bytes
abbrev pub rule_1 : List ℕ → Option ℕ
rule_1 bytes = broken_if (nat_lt (length bytes) 16) (length bytes)

-- how many bytes at the front are those of the name
abbrev pub common : List ℕ → List ℕ → ℕ
common [] bytes = 0
common (x ∷ xs) [] = 0
common (x ∷ xs) (y ∷ ys) = if x == y then 1 + common xs ys else 0

-- how many bytes at the front are those of one of the names
abbrev pub most_common : List Form → List ℕ → ℕ
most_common [] bytes = 0
most_common (f ∷ fs) bytes = max (common f.name bytes) (most_common fs bytes)

-- rule 2: the first four bytes are one of the names
abbrev pub rule_2 : List Form → List ℕ → Option ℕ
rule_2 forms bytes = broken_if (nat_lt (most_common forms bytes) 4) (most_common forms bytes)

-- the length that the header gives
abbrev pub whole : Form → List ℕ → ℕ
whole f bytes = 16 + 4 * node_count bytes + wide f * arc_count bytes

-- rule 3: the length is the one that the header gives
abbrev pub rule_3 : Form → List ℕ → Option ℕ
rule_3 f bytes = broken_if (not (length bytes == whole f bytes))
    (min (length bytes) (whole f bytes))

-- an entry is 1 to 256 over the one before, and the last one is the number of all arcs
abbrev pub ends_next : ℕ → ℕ → Bool → ℕ → Bool
ends_next from e last all = nat_lt from e && nat_le e (from + 256) && (not last || (e == all))

-- the entries from an offset on, after the entry from
abbrev pub ends_broken : ℕ → ℕ → ℕ → List ℕ → Option ℕ
ends_broken all at from [] = None
ends_broken all at from (e ∷ []) =
    broken_if (not (nat_lt from e && nat_le e (from + 256) && (e == all))) at
ends_broken all at from (e ∷ d ∷ es) =
    or_first (broken_if (not (nat_lt from e && nat_le e (from + 256))) at)
    (ends_broken all (at + 4) e (d ∷ es))

-- entries with the header's numbers of arcs and paths
abbrev pub entries_broken : ℕ → ℕ → List ℕ → Option ℕ
entries_broken all paths [] =
    or_first (broken_if (not (all == 0)) 8) (broken_if (not (paths == 0)) 12)
entries_broken all paths (e ∷ []) = Some 4
entries_broken all paths (e ∷ d ∷ es) =
    or_first (broken_if (not (e == 0)) 16) (ends_broken all 20 0 (d ∷ es))

-- rule 4: no node, no arc and no path, or at least two nodes, of which node 0 has no arc and each
-- later one has 1 to 256, and these are as many as the header gives
abbrev pub rule_4 : List ℕ → Option ℕ
rule_4 bytes = entries_broken (arc_count bytes) (path_count bytes) (entries bytes)

-- the first four rules, which say where the nodes stand
abbrev pub IsFramed : List ℕ → Type 0
IsFramed bytes =
    (rule_1 bytes ≡ None)
    × (rule_2 (first_form ∷ []) bytes ≡ None)
    × (rule_3 first_form bytes ≡ None)
    × (rule_4 bytes ≡ None)
