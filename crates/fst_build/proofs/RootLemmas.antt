-- The root keeps its costs, and is none of the frozen nodes.
use Rattle.std.proofs.Common.{◌≡◌, ◌<◌, ◌≤◌, ◌+◌, ◌-◌, ℕ, zero, suc, Bool, true, false, List, []}
use Rattle.std.proofs.Common.{◌∷◌, ◌++◌, length, get_or, refl, sym, ap, subst, ◌∙◌, arith, ◌⊎◌, inl}
use Rattle.std.proofs.Common.{inr}
use Rattle.std.specs.List.{AllByRecursion}
use Rattle.std.proofs.lemmas.Bool.{cases_order}
use Rattle.std.proofs.lemmas.List.{get_or_append_left, get_or_push, get_or_past, length_push}
use Rattle.sg_base.specs.declared.node.Edge.{Edge}
use Rattle.sg_base.specs.Nodes.{same_edges}
use Rattle.fst_code.specs.Tails.{Tail, mapped, counted, dearest, longest, table, tails, counts}
use Rattle.fst_code.specs.Rules.{is_free, from_to, postorder}
use Rattle.fst_code.specs.ValidNodes.{AreValid, Rising, CountedFrom}
use Rattle.fst_build.specs.Building.{Frame, ways_of, known, count_at, cost_at, length_at, IsEdge}
use Rattle.fst_build.specs.Building.{IsNode, AreFrozen, IsOpen, frame_paths, last_edge_of}
use Rattle.fst_build.specs.Building.{finished_edges}
use Rattle.fst_code.proofs.TableLemmas.{Falls, table_at, mapped_local, counted_local, dearest_local}
use Rattle.fst_code.proofs.TableLemmas.{longest_local}
use Rattle.fst_code.proofs.WalkLemmas.{root_differs, new_walk, postorder_deep}
use Rattle.sg_base.proofs.EqualNodes.{alike_of}
use Rattle.fst_build.proofs.NodeLemmas.{below_alike, mapped_ways, counted_total, ways_local}
use Rattle.fst_build.proofs.NodeLemmas.{total_local, counted_from_local, ways_push, behind_along}
use Rattle.fst_build.proofs.NodeLemmas.{all_map, greatest_le}
use Rattle.fst_build.proofs.FreezeLemmas.{grows_push, falls_of, falls_push, node_more, once_push}
use Rattle.fst_build.proofs.FreezeLemmas.{bound_push, closing}

not_true : (b : Bool) → (b ≡ true → ⊥) → b ≡ false
not_true true h = absurd (h refl)
not_true false h = refl

-- a property of all nodes when a root is put behind them
every : (P : ℕ → List Edge → Type 0) (ns : List (List Edge)) (x : List Edge) → ((id : ℕ) → P id [])
    → ((id : ℕ) → id < length ns → P id (get_or ns id [])) → P (length ns) x → (id : ℕ)
    → (id ≡ length ns) ⊎ ((id < length ns) ⊎ (length ns < id)) → P id (get_or (ns ++ x ∷ []) id [])
every P ns x none old new id (inl e) =
    subst (λ (k : ℕ). P k (get_or (ns ++ x ∷ []) k [])) (sym e)
    (subst (P (length ns)) (sym (get_or_push ns x [] (length ns) refl)) new)
every P ns x none old new id (inr (inl h)) =
    subst (P id) (sym (get_or_append_left ns (x ∷ []) [] id h)) (old id h)
every P ns x none old new id (inr (inr h)) =
    let l = length_push ns x in
    subst (P id) (sym (get_or_past (ns ++ x ∷ []) id [] (omega (arith, l, h)))) (none id)

-- what holds of the end and of the later frozen nodes
frozen_each : (P : ℕ → List Edge → Type 0) (ns : List (List Edge)) → AreFrozen ns → P 0 []
    → ((id : ℕ) (es : List Edge) → IsNode ns id es → P id es) → (id : ℕ) → id < length ns
    → P id (get_or ns id [])
frozen_each P ns a first rest zero h = subst (P 0) (sym a.end_is) first
frozen_each P ns a first rest (suc id) h =
    rest (suc id) (get_or ns (suc id) []) (a.nodes (suc id) (omega arith) h)

some_at : (ns : List (List Edge)) (x : List Edge) → AreFrozen ns → 0 < length x → (id : ℕ) → 0 < id
    → id < length (ns ++ x ∷ []) → (id ≡ length ns) ⊎ ((id < length ns) ⊎ (length ns < id))
    → 0 < length (get_or (ns ++ x ∷ []) id [])
some_at ns x a some id p h (inl e) =
    let at : get_or (ns ++ x ∷ []) id [] ≡ x =
    get_or_push ns x [] id (sym e) in subst (λ (es : List Edge). 0 < length es) (sym at) some
some_at ns x a some id p h (inr (inl k)) =
    subst (λ (es : List Edge). 0 < length es) (sym (get_or_append_left ns (x ∷ []) [] id k))
    (a.nodes id p k).some
some_at ns x a some id p h (inr (inr k)) =
    let l = length_push ns x in absurd (omega (arith, l, h, k))

frozen_before : (ns : List (List Edge)) (x : List Edge) → AreFrozen ns → (id : ℕ) → id < length ns
    → CountedFrom (counts (ns ++ x ∷ [])) 0 (get_or ns id [])
frozen_before ns x a zero h = subst (CountedFrom (counts (ns ++ x ∷ [])) 0) (sym a.end_is) tt
frozen_before ns x a (suc id) h =
    (node_more ns (ns ++ x ∷ []) (suc id) (get_or ns (suc id) []) (grows_push ns x)
    (omega (arith, h)) (a.nodes (suc id) (omega arith) h)).before

pub root_step : (ns : List (List Edge)) (f : Frame) (id cost count : ℕ)
    → IsOpen ns (f ∷ []) id cost count → f.count + count ≤ 4194304
    → AreValid (f.count + count) (ns ++ finished_edges f id cost ∷ [])
    × (tails (ns ++ finished_edges f id cost ∷ []) (length ns) ≡ frame_paths ns (f ∷ []) id cost)
unfolding tails
root_step ns f id cost count opened few =
    let a = opened.frozen in
    let x = finished_edges f id cost in
    let all = ns ++ x ∷ [] in
    let n = length ns in
    let c = closing ns [] f id cost count opened in
    let falls = falls_of ns a in
    let falls2 : Falls all = falls_push ns x falls c.below in
    let g = grows_push ns x in
    let len : length all ≡ n + 1 = length_push ns x in
    let last : get_or all n [] ≡ x = get_or_push ns x [] n refl in
    let there : n < length all = omega (arith, len) in
    let pos = a.some in
    let mapped_at : tails all n ≡ ways_of (known ns) x =
    table_at [] mapped mapped_local all n there falls2 ∙ ap (mapped (known all)) last
    ∙ mapped_ways (known all) x c.some
    ∙ ways_local (known all) (known ns) n x c.below g.known_kept in
    let counted_at : count_at all n ≡ f.count + count =
    table_at 0 counted counted_local all n there falls2 ∙ ap (counted (counts all)) last
    ∙ counted_total (counts all) x c.some
    ∙ total_local (counts all) (counts ns) n x c.below g.counts_kept ∙ c.total in
    let cost_is : cost_at all n ≡ dearest (table dearest [] all) x =
    table_at 0 dearest dearest_local all n there falls2
    ∙ ap (dearest (table dearest [] all)) last in
    let long_is : length_at all n ≡ longest (table longest [] all) x =
    table_at 0 longest longest_local all n there falls2
    ∙ ap (longest (table longest [] all)) last in
    let dear_all : AllByRecursion (λ (e : Edge). 0 + (e.cost + cost_at all e.target.0) ≤ 2147483647)
    x =
    all_map (IsEdge ns 0) (λ (e : Edge). 0 + (e.cost + cost_at all e.target.0) ≤ 2147483647) x
    (λ e p. let k = g.cost_kept e.target.0 p.there in let d = p.dear in omega (arith, k, d))
    c.edges_are in
    let long_all : AllByRecursion (λ (e : Edge). 0 + (1 + length_at all e.target.0) ≤ 324) x =
    all_map (IsEdge ns 0) (λ (e : Edge). 0 + (1 + length_at all e.target.0) ≤ 324) x
    (λ e p. let k = g.length_kept e.target.0 p.there in let d = p.long in omega (arith, k, d))
    c.edges_are in
    let dear_le =
    greatest_le (λ (e : Edge). e.cost + cost_at all e.target.0) 0 2147483647 x (omega arith)
    dear_all in
    let long_le =
    greatest_le (λ (e : Edge). 1 + length_at all e.target.0) 0 324 x (omega arith) long_all in
    let differs : (i : ℕ) → i < n → same_edges (get_or ns i []) x ≡ false =
    λ i h. not_true (same_edges (get_or ns i []) x)
    (λ yes. root_differs ns i x falls
    (below_alike i (get_or ns i []) x (alike_of (get_or ns i []) x yes) (falls i)) h c.walk) in
    let top : length all - 1 ≡ n = omega (arith, len) in
    let end_count : 0 < n = pos in
    let walk : postorder (length all) all (length all - 1) [] ≡ from_to (length all) 0 =
    ap (λ (k : ℕ). postorder (length all) all k []) top
    ∙ postorder_deep (length all) (suc n) all n [] falls2 there (omega arith)
    ∙ new_walk ns all x [] falls g.kept last c.below c.walk
    ∙ ap (λ (k : ℕ). from_to k 0) (sym len) in (
      record {
        two = omega (arith, len, pos);
        end_is = get_or_append_left ns (x ∷ []) [] 0 pos ∙ a.end_is;
        some = λ i p h. some_at ns x a c.some i p h (cases_order i n);
        rising = λ i. every (λ k es. Rising es) ns x (λ k. tt)
            (frozen_each (λ k es. Rising es) ns a tt (λ k es node. node.rising)) c.rising i
            (cases_order i n);
        labels = λ i. every (λ k es. AllByRecursion (λ (e : Edge). e.label < 256) es) ns x (λ k. tt)
            (frozen_each (λ k es. AllByRecursion (λ (e : Edge). e.label < 256) es) ns a tt
            (λ k es node. node.labels))
            (all_map (IsEdge ns 0) (λ (e : Edge). e.label < 256) x (λ e p. p.label) c.edges_are) i
            (cases_order i n);
        below = falls2;
        before = λ i. every (λ k es. CountedFrom (counts all) 0 es) ns x (λ k. tt)
            (frozen_before ns x a)
            (counted_from_local (counts ns) (counts all) n 0 x c.below
            (λ k l. sym (g.counts_kept k l)) c.before) i (cases_order i n);
        many = λ i. bound_push counted 4194304 ns x a.many (omega (arith, counted_at, few)) i
            (cases_order i n);
        paths_are = sym counted_at ∙ ap (count_at all) (sym top);
        once = λ i j h k. once_push ns x a.once differs i j h k (cases_order j n);
        free = λ i p h. ap is_free (get_or_append_left ns (x ∷ []) [] i (omega (arith, h, len)))
            ∙ a.free i p (omega (arith, h, len));
        dear = λ i. bound_push dearest 2147483647 ns x a.dear (omega (arith, cost_is, dear_le)) i
            (cases_order i n);
        long = λ i. bound_push longest 324 ns x a.long (omega (arith, long_is, long_le)) i
            (cases_order i n);
        walk = walk;
      },
      mapped_at ∙ ways_push (known ns) f.edges (last_edge_of f id cost)
          ∙ ap (λ (r : List Tail). ways_of (known ns) f.edges ++ r)
          (sym (behind_along (last_edge_of f id cost) (tails ns id))),
    )
