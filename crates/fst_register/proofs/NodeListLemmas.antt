-- Nodes one behind the other, and one node more.
use Rattle.std.proofs.Common.{◌≡◌, ◌<◌, ◌≤◌, ◌+◌, ◌-◌, ℕ, zero, suc, List, [], ◌∷◌, ◌++◌, take}
use Rattle.std.proofs.Common.{drop, length, get_or, refl, ap, subst, sym, length-append, ◌∙◌, arith}
use Rattle.std.proofs.lemmas.List.{take_all, drop-append-le, take-append-le, length-drop}
use Rattle.std.proofs.Math.Seq.{drop-append_seam}
use Rattle.sg_base.specs.declared.node.Edge.{Edge}
use Rattle.fst_register.specs.NodeLists.{AreContiguous, nodes_between, begins_at, EndsAt}

pub get_or-nodes_between : (from : ℕ) (ends : List ℕ) (edges : List Edge) (id : ℕ)
    → id < length ends
    → get_or (nodes_between from ends edges) id []
    ≡ take (get_or ends id 0 - begins_at from ends id) (drop (begins_at from ends id) edges)
get_or-nodes_between from [] edges id h = absurd (omega (arith, h))
get_or-nodes_between from (e ∷ es) edges zero h = refl
get_or-nodes_between from (e ∷ es) edges (suc zero) h =
    get_or-nodes_between e es edges zero (omega (arith, h))
get_or-nodes_between from (e ∷ es) edges (suc (suc id)) h =
    get_or-nodes_between e es edges (suc id) (omega (arith, h))

pub length-nodes_between : (from : ℕ) (ends : List ℕ) (edges : List Edge)
    → length (nodes_between from ends edges) ≡ length ends
length-nodes_between from [] edges = refl
length-nodes_between from (e ∷ es) edges = ap suc (length-nodes_between e es edges)

pub from_le : (from : ℕ) (ends : List ℕ) (total : ℕ) → EndsAt from ends total → from ≤ total
from_le from [] total h = omega (arith, h)
from_le from (e ∷ es) total h = let k = from_le e es total h.1 in omega (arith, h.0, k)

pub rises : (from : ℕ) (ends : List ℕ) (total id : ℕ) → EndsAt from ends total → id < length ends
    → begins_at from ends id ≤ get_or ends id 0
rises from [] total id h k = absurd (omega (arith, k))
rises from (e ∷ es) total zero h k = h.0
rises from (e ∷ es) total (suc zero) h k = rises e es total zero h.1 (omega (arith, k))
rises from (e ∷ es) total (suc (suc id)) h k = rises e es total (suc id) h.1 (omega (arith, k))

pub within : (from : ℕ) (ends : List ℕ) (total id : ℕ) → EndsAt from ends total → id < length ends
    → get_or ends id 0 ≤ total
within from [] total id h k = absurd (omega (arith, k))
within from (e ∷ es) total zero h k = from_le e es total h.1
within from (e ∷ es) total (suc id) h k = within e es total id h.1 (omega (arith, k))

pub ends_push : (from : ℕ) (ends : List ℕ) (total more : ℕ) → EndsAt from ends total
    → EndsAt from (ends ++ (total + more) ∷ []) (total + more)
ends_push from [] total more h = (omega (arith, h), refl)
ends_push from (e ∷ es) total more h = (h.0, ends_push e es total more h.1)

pub nodes_push : (from : ℕ) (ends : List ℕ) (edges node : List Edge)
    → EndsAt from ends (length edges)
    → nodes_between from (ends ++ (length edges + length node) ∷ []) (edges ++ node)
    ≡ nodes_between from ends edges ++ node ∷ []
nodes_push from [] edges node h =
    let d : drop from (edges ++ node) ≡ node =
    ap (λ k. drop k (edges ++ node)) h ∙ drop-append_seam edges node in
    let n : length edges + length node - from ≡ length node = omega (arith, h) in
    ap (λ (x : List Edge). x ∷ [])
    (ap (λ k. take k (drop from (edges ++ node))) n ∙ ap (take (length node)) d
    ∙ take_all (length node) node (omega arith))
nodes_push from (e ∷ es) edges node h =
    let upto : e ≤ length edges = from_le e es (length edges) h.1 in
    let a : drop from (edges ++ node) ≡ drop from edges ++ node =
    drop-append-le from edges node (omega (arith, upto, h.0)) in
    let l : length (drop from edges) ≡ length edges - from = length-drop from edges in
    let b : take (e - from) (drop from edges ++ node) ≡ take (e - from) (drop from edges) =
    take-append-le (e - from) (drop from edges) node (omega (arith, upto, l)) in
    let ih : nodes_between e (es ++ (length edges + length node) ∷ []) (edges ++ node)
    ≡ nodes_between e es edges ++ node ∷ [] = nodes_push e es edges node h.1 in
    ap (λ (x : List Edge). x ∷ nodes_between e (es ++ (length edges + length node) ∷ [])
    (edges ++ node)) (ap (take (e - from)) a ∙ b)
    ∙ ap (λ (x : List (List Edge)). take (e - from) (drop from edges) ∷ x) ih

pub record ArePushed (ends : List ℕ) (edges : List Edge) (nodes : List (List Edge)) : Type 0 where
  pub contiguous : AreContiguous ends edges
  pub nodes_are : nodes_between 0 ends edges ≡ nodes

-- the vectors with a node more, by what the calls on them say
pub pushed : (ends : List ℕ) (edges node : List Edge) (total : ℕ) (ends2 : List ℕ)
    (edges2 : List Edge) → AreContiguous ends edges → edges2 ≡ edges ++ node
    → total ≡ length edges2 → ends2 ≡ ends ++ total ∷ []
    → ArePushed ends2 edges2 (nodes_between 0 ends edges ++ node ∷ [])
pushed ends edges node total ends2 edges2 a ed t en =
    let count : length (edges ++ node) ≡ length edges + length node = length-append edges node in
    let all : total ≡ length edges + length node =
    t ∙ ap (λ (x : List Edge). length x) ed ∙ count in
    let e : ends2 ≡ ends ++ (length edges + length node) ∷ [] =
    en ∙ ap (λ (k : ℕ). ends ++ k ∷ []) all in
    record {
      contiguous = rw (ed, e) (record {
        ends_at = subst (EndsAt 0 (ends ++ (length edges + length node) ∷ [])) (sym count)
            (ends_push 0 ends (length edges) (length node) a.ends_at);
      });
      nodes_are = rw (ed, e) (nodes_push 0 ends edges node a.ends_at);
    }
