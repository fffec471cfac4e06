-- What is true of the definitions. Source: this project's own.
use Rattle.std.specs.Prelude.{◌≡◌, ℕ, ◌<◌, ◌^◌, List, None, [], ◌⊎◌, length}
use Rattle.std.specs.List.{sum_by}
use Rattle.sg_base.specs.declared.node.Edge.{Edge}
use Rattle.fst_code.specs.Bytes.{first_form, encoding, nodes_of, path_count}
use Rattle.fst_code.specs.Lists.{list_of}
use Rattle.fst_code.specs.Rules.{IsValid, firsts, nodes_broken}
use Rattle.fst_code.specs.Shapes.{AreShaped, IsBytes}
use Rattle.fst_code.specs.Transducers.{IsTransducer}
use Rattle.fst_code.specs.ValidNodes.{AreValid}

-- valid nodes have valid bytes, from which they are read again
abbrev pub EncodingLaw : Type 0
EncodingLaw =
    (paths : ℕ) (ns : List (List Edge)) → AreValid paths ns → length ns < 2 ^ 32
    → sum_by (λ (n : List Edge). length n) ns < 2 ^ 32
    → IsValid (encoding first_form paths ns) × (nodes_of (encoding first_form paths ns) ≡ ns)

-- nodes of the right shape that break no rule are valid
abbrev pub ReadingLaw : Type 0
ReadingLaw =
    (paths : ℕ) (ns : List (List Edge)) → AreShaped ns
    → firsts (nodes_broken first_form paths ns) ≡ None → AreValid paths ns

-- valid bytes are the encoding of their nodes, and these are none or valid
abbrev pub ValidLaw : Type 0
ValidLaw =
    (bytes : List ℕ) → IsBytes bytes → IsValid bytes
    → (bytes ≡ encoding first_form (path_count bytes) (nodes_of bytes))
    × (((nodes_of bytes ≡ []) × (path_count bytes ≡ 0))
    ⊎ AreValid (path_count bytes) (nodes_of bytes))

-- the nodes of valid bytes are those of a transducer
abbrev pub TransducerLaw : Type 0
TransducerLaw = (bytes : List ℕ) → IsBytes bytes → IsValid bytes → IsTransducer (nodes_of bytes)

-- two valid texts that map one list are the same text
abbrev pub OneText : Type 0
OneText =
    (a b : List ℕ) → IsBytes a → IsBytes b → IsValid a → IsValid b → list_of a ≡ list_of b → a ≡ b
