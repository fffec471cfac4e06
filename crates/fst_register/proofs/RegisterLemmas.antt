-- What a register keeps when a node is appended.
use Rattle.std.proofs.Common.{◌≡◌, ◌<◌, ◌≤◌, ◌+◌, ℕ, false, true, List, [], ◌∷◌, ◌++◌, length}
use Rattle.std.proofs.Common.{get_or, set, length-set, sym, ap, ◌∙◌, arith, ◌⊎◌, inl, inr}
use Rattle.std.proofs.Common.{refl}
use Rattle.std.proofs.lemmas.List.{get_or_append_left, get_or_push, length_push}
use Rattle.std.proofs.lemmas.Bool.{cases_lt, cases_order}
use Rattle.sg_base.specs.declared.node.Edge.{Edge}
use Rattle.sg_base.specs.Hashes.{bucket}
use Rattle.sg_base.specs.Nodes.{same_edges, holds_same}
use Rattle.sg_base.specs.Chains.{Chained, bucket_in}
use Rattle.sg_base.proofs.ChainLemmas.{chained_push}
use Rattle.sg_base.proofs.EqualNodes.{held_each, same_both}
use Rattle.fst_register.specs.Registers.{AreDistinct, IsOnlyEqual, IsRegister}

distinct_at : (nodes : List (List Edge)) (node : List Edge) (i j : ℕ) → AreDistinct nodes
    → holds_same node nodes ≡ false → i < j → j < length nodes + 1
    → (j < length nodes) ⊎ (length nodes ≤ j)
    → same_edges (get_or (nodes ++ node ∷ []) i []) (get_or (nodes ++ node ∷ []) j []) ≡ false
distinct_at nodes node i j once absent h k (inl l) =
    let before : i < length nodes = omega (arith, h, l) in
    rw (
      get_or_append_left nodes (node ∷ []) [] i before,
      get_or_append_left nodes (node ∷ []) [] j l,
    ) (once i j h l)
distinct_at nodes node i j once absent h k (inr l) =
    let last : length nodes ≡ j = omega (arith, k, l) in
    let before : i < length nodes = omega (arith, h, last) in
    rw (get_or_append_left nodes (node ∷ []) [] i before, get_or_push nodes node [] j last)
    (held_each node nodes absent i before)

pub distinct_push : (nodes : List (List Edge)) (node : List Edge) → AreDistinct nodes
    → holds_same node nodes ≡ false → AreDistinct (nodes ++ node ∷ [])
distinct_push nodes node once absent i j h k =
    let n = length_push nodes node in
    distinct_at nodes node i j once absent h (omega (arith, n, k)) (cases_lt j (length nodes))

only_by : (nodes : List (List Edge)) (i id : ℕ) → AreDistinct nodes → i < length nodes
    → id < length nodes → same_edges (get_or nodes i []) (get_or nodes id []) ≡ true
    → same_edges (get_or nodes id []) (get_or nodes i []) ≡ true
    → (i ≡ id) ⊎ ((i < id) ⊎ (id < i)) → i ≡ id
only_by nodes i id once h k e f (inl same) = same
only_by nodes i id once h k e f (inr (inl less)) = absurd (let d = once i id less k in cc)
only_by nodes i id once h k e f (inr (inr more)) = absurd (let d = once id i more h in cc)

-- an equal node is the only one where no two are equal
pub only_equal : (nodes : List (List Edge)) (edges : List Edge) (id : ℕ) → AreDistinct nodes
    → id < length nodes → same_edges (get_or nodes id []) edges ≡ true
    → IsOnlyEqual nodes edges id
only_equal nodes edges id once there same = record {
  there = there;
  same = same;
  only = λ i h e. only_by nodes i id once h there
      (same_both (get_or nodes i []) (get_or nodes id []) edges e same)
      (same_both (get_or nodes id []) (get_or nodes i []) edges same e)
      (cases_order i id);
}

-- the chains with a node more
chains_push : (heads chain : List ℕ) (nodes : List (List Edge)) (node : List Edge) (b : ℕ)
    → IsRegister heads chain nodes → b ≡ bucket (length heads) node → b < length heads
    → Chained (set heads b (length nodes + 1)) (λ i. get_or (chain ++ get_or heads b 0 ∷ []) i 0)
    (bucket_in (length heads) (nodes ++ node ∷ [])) (length nodes + 1)
chains_push heads chain nodes node b r is below =
    let next = chain ++ get_or heads b 0 ∷ [] in
    chained_push heads (λ i. get_or chain i 0) (λ i. get_or next i 0)
    (bucket_in (length heads) nodes) (bucket_in (length heads) (nodes ++ node ∷ [])) b
    (length nodes) r.chained below
    (ap (bucket (length heads)) (get_or_push nodes node [] (length nodes) refl) ∙ sym is)
    (λ i h. ap (bucket (length heads)) (get_or_append_left nodes (node ∷ []) [] i h))
    (get_or_push chain (get_or heads b 0) 0 (length nodes) r.cells)
    (λ i h. get_or_append_left chain (get_or heads b 0 ∷ []) 0 i (omega (arith, h, r.cells)))

pub register_push : (heads chain : List ℕ) (nodes : List (List Edge)) (node : List Edge) (b : ℕ)
    → IsRegister heads chain nodes → holds_same node nodes ≡ false → length nodes < 4294967295
    → length nodes < length heads → b ≡ bucket (length heads) node → b < length heads
    → IsRegister (set heads b (length nodes + 1)) (chain ++ get_or heads b 0 ∷ [])
    (nodes ++ node ∷ [])
register_push heads chain nodes node b r absent few some is below =
    let count : length (nodes ++ node ∷ []) ≡ length nodes + 1 = length_push nodes node in
    let cells : length (chain ++ get_or heads b 0 ∷ []) ≡ length chain + 1 =
    length_push chain (get_or heads b 0) in
    let wide : length (set heads b (length nodes + 1)) ≡ length heads =
    length-set heads b (length nodes + 1) in
    record {
      once = distinct_push nodes node r.once absent;
      cells = omega (arith, count, cells, r.cells);
      few = omega (arith, count, few);
      buckets = omega (arith, wide, r.buckets);
      room = omega (arith, count, wide, some);
      chained = rw (count, wide) (chains_push heads chain nodes node b r is below);
    }

-- the same by what the calls say
pub appended : (heads chain : List ℕ) (nodes : List (List Edge)) (node : List Edge) (b count : ℕ)
    (chain2 : List ℕ) (nodes2 : List (List Edge)) → IsRegister heads chain nodes
    → holds_same node nodes ≡ false → length nodes < 4294967295 → length nodes < length heads
    → b ≡ bucket (length heads) node → b < length heads → count ≡ length nodes
    → chain2 ≡ chain ++ get_or heads b 0 ∷ [] → nodes2 ≡ nodes ++ node ∷ []
    → IsRegister (set heads b (count + 1)) chain2 nodes2
appended heads chain nodes node b count chain2 nodes2 r absent few some is below c ch n =
    rw (c, ch, n) (register_push heads chain nodes node b r absent few some is below)
