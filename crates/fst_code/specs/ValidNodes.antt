-- The rules of a transducer's nodes, in plain words. Source: minimal transducers with outputs
-- pushed to the front.
use Rattle.std.specs.Prelude.{◌≡◌, ℕ, ◌+◌, ◌-◌, ◌<◌, ◌≤◌, true, false, List, [], ◌∷◌, get_or}
use Rattle.std.specs.Prelude.{length}
use Rattle.std.specs.List.{AllByRecursion}
use Rattle.sg_base.specs.declared.node.Edge.{Edge}
use Rattle.sg_base.specs.Nodes.{same_edges}
use Rattle.fst_code.specs.Tails.{table, dearest, longest, counts}
use Rattle.fst_code.specs.Rules.{is_free, postorder, from_to}

-- labels rise strictly
abbrev pub Rising : List Edge → Type 0
Rising [] = Unit {0}
Rising (e ∷ []) = Unit {0}
Rising (e ∷ d ∷ es) = (e.label < d.label) × Rising (d ∷ es)

-- each arc has the number of paths under the earlier ones
abbrev pub CountedFrom : List ℕ → ℕ → List Edge → Type 0
CountedFrom known sofar [] = Unit {0}
CountedFrom known sofar (e ∷ es) =
    (e.before ≡ sofar) × CountedFrom known (sofar + get_or known e.target.0 0) es

-- nodes with a root that meet all rules
pub record AreValid (paths : ℕ) (ns : List (List Edge)) : Type 0 where
  pub two : 2 ≤ length ns
  pub end_is : get_or ns 0 [] ≡ []
  pub some : (id : ℕ) → 0 < id → id < length ns → 0 < length (get_or ns id [])
  pub rising : (id : ℕ) → Rising (get_or ns id [])
  pub labels : (id : ℕ) → AllByRecursion (λ (e : Edge). e.label < 256) (get_or ns id [])
  pub below : (id : ℕ) → AllByRecursion (λ (e : Edge). e.target.0 < id) (get_or ns id [])
  pub before : (id : ℕ) → CountedFrom (counts ns) 0 (get_or ns id [])
  pub many : (id : ℕ) → get_or (counts ns) id 0 ≤ 4194304
  pub paths_are : paths ≡ get_or (counts ns) (length ns - 1) 0
  pub once : (i j : ℕ) → i < j → j < length ns
      → same_edges (get_or ns i []) (get_or ns j []) ≡ false
  pub free : (id : ℕ) → 0 < id → id + 1 < length ns → is_free (get_or ns id []) ≡ true
  pub dear : (id : ℕ) → get_or (table dearest [] ns) id 0 ≤ 2147483647
  pub long : (id : ℕ) → get_or (table longest [] ns) id 0 ≤ 324
  pub walk : postorder (length ns) ns (length ns - 1) [] ≡ from_to (length ns) 0
