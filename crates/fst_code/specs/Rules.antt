-- All rules of a transducer's bytes, in their order: which is broken first, and where. Source:
-- this project's own format.
use Rattle.std.specs.Prelude.{◌≡◌, ℕ, List, [], ◌∷◌, Option, None, option_map}
use Rattle.sg_base.specs.declared.node.Edge.{Edge}
use Rattle.fst_code.specs.Bytes.{Form, first_form, path_count, nodes_in}
pub use Rattle.fst_code.specs.Frames.{or_first, firsts, broken_if, rule_1, common, most_common}
pub use Rattle.fst_code.specs.Frames.{rule_2, whole, rule_3, ends_next, ends_broken}
pub use Rattle.fst_code.specs.Frames.{entries_broken, rule_4, IsFramed}
pub use Rattle.fst_code.specs.NodeRules.{over, in_nodes, labels_broken, rule_5, targets_broken}
pub use Rattle.fst_code.specs.NodeRules.{rule_6, counts_broken, rule_7, repeated, rule_8, is_free}
pub use Rattle.fst_code.specs.NodeRules.{free_broken, rule_9, over_most, rule_10, rule_11}
unfoldable pub use Rattle.fst_code.specs.Orders.{postorder}
pub use Rattle.fst_code.specs.Orders.{has, for_targets, visit, from_to, misplaced}
pub use Rattle.fst_code.specs.Orders.{rule_12}

-- a rule's number beside the offset
abbrev pub ruled : ℕ → Option ℕ → Option (ℕ × ℕ)
ruled rule = option_map (λ at. (rule, at))

-- the rules from 5 on, of the nodes and the header's number of paths
abbrev pub nodes_broken : Form → ℕ → List (List Edge) → List (Option (ℕ × ℕ))
nodes_broken f paths nodes =
    ruled 5 (rule_5 f nodes)
    ∷ ruled 6 (rule_6 f nodes)
    ∷ ruled 7 (rule_7 f paths nodes)
    ∷ ruled 8 (rule_8 nodes)
    ∷ ruled 9 (rule_9 f nodes)
    ∷ ruled 10 (rule_10 f nodes)
    ∷ ruled 11 (rule_11 nodes)
    ∷ ruled 12 (rule_12 nodes)
    ∷ []

-- the rules from 3 on, of bytes with the form's name
abbrev pub named_broken : Form → List ℕ → Option (ℕ × ℕ)
named_broken f bytes =
    or_first (ruled 3 (rule_3 f bytes))
    (or_first (ruled 4 (rule_4 bytes))
    (firsts (nodes_broken f (path_count bytes) (nodes_in f bytes))))

-- the first rule that bytes break, and the offset where they break it
abbrev pub first_broken : List ℕ → Option (ℕ × ℕ)
first_broken bytes =
    or_first (ruled 1 (rule_1 bytes))
    (or_first (ruled 2 (rule_2 (first_form ∷ []) bytes)) (named_broken first_form bytes))

-- bytes of a transducer
abbrev pub IsValid : List ℕ → Type 0
IsValid bytes = first_broken bytes ≡ None
