-- Freezing the deepest node of the open path.
use Rattle.std.proofs.Common.{◌≡◌, ◌<◌, ◌≤◌, ◌+◌, ◌-◌, ℕ, zero, suc, true, false, List}
use Rattle.std.proofs.Common.{[], ◌∷◌, ◌++◌, map, length, get_or, refl, sym, ap, subst, ◌∙◌, arith}
use Rattle.std.proofs.Common.{◌⊎◌, inl, inr}
use Rattle.std.specs.List.{AllByRecursion}
use Rattle.std.proofs.lemmas.Bool.{cases_lt, cases_order}
use Rattle.std.proofs.lemmas.List.{get_or_append_left, get_or_push, get_or_past, length_push}
use Rattle.std.proofs.lemmas.List.{length-map}
use Rattle.sg_base.specs.declared.node.Edge.{Edge}
use Rattle.sg_base.specs.Nodes.{same_edges, holds_same}
use Rattle.fst_code.specs.Tails.{Tail, mapped, counted, dearest, longest, table, tails, counts}
use Rattle.fst_code.specs.Rules.{for_targets, is_free, from_to}
use Rattle.fst_code.specs.Rules.{visit}
use Rattle.fst_build.specs.Building.{Frame, ways_of, with_cost, paths_under, least_of, lowered_arc}
use Rattle.fst_build.specs.Building.{known, count_at, cost_at, length_at, visited, Rising}
use Rattle.fst_build.specs.Building.{CountedFrom, total_count, IsEdge, IsFrame, AreFrames, IsNode}
use Rattle.fst_build.specs.Building.{AreFrozen, IsOpen, frame_paths, last_edge_of, finished_edges}
use Rattle.fst_build.specs.Building.{lowered_node, IsHeld}
use Rattle.fst_code.proofs.TableLemmas.{Below, Falls, table_at, table_old, length-table}
use Rattle.fst_code.proofs.TableLemmas.{mapped_local, counted_local, dearest_local, longest_local}
use Rattle.fst_code.proofs.WalkLemmas.{targets_push, found_walk, new_walk}
use Rattle.fst_build.proofs.WalkLemmas.{FramesBelow, walked_more, walked_push}
use Rattle.sg_base.proofs.EqualNodes.{Alike, alike_of, held_each}
use Rattle.fst_build.proofs.LoweringLemmas.{all_last}
use Rattle.fst_build.proofs.NodeLemmas.{below_alike, ways_alike, total_alike, some_same}
use Rattle.fst_build.proofs.NodeLemmas.{dearest_alike, longest_alike, mapped_ways, counted_total}
use Rattle.fst_build.proofs.NodeLemmas.{ways_local, total_local, counted_from_local, ways_push}
use Rattle.fst_build.proofs.NodeLemmas.{total_push, counted_from_push, rising_push, all_push}
use Rattle.fst_build.proofs.NodeLemmas.{all_map, all_both, all_less, targets_less, rising_less}
use Rattle.fst_build.proofs.NodeLemmas.{counted_from_less, total_less, lowered, behind_along}
use Rattle.fst_build.proofs.NodeLemmas.{least_le, free_least, greatest_le, open_push, open_local}
use Rattle.fst_build.proofs.NodeLemmas.{frames_front, frames_last}

-- What stands at the old nodes stays.
pub record Grows (ns more : List (List Edge)) : Type 0 where
  pub at_least : length ns ≤ length more
  pub kept : (i : ℕ) → i < length ns → get_or more i [] ≡ get_or ns i []
  pub known_kept : (i : ℕ) → i < length ns → get_or (known more) i [] ≡ get_or (known ns) i []
  pub counts_kept : (i : ℕ) → i < length ns → get_or (counts more) i 0 ≡ get_or (counts ns) i 0
  pub cost_kept : (i : ℕ) → i < length ns → cost_at more i ≡ cost_at ns i
  pub length_kept : (i : ℕ) → i < length ns → length_at more i ≡ length_at ns i

pub grows_same : (ns : List (List Edge)) → Grows ns ns
grows_same ns =
    record {
      at_least =
          omega (arith);
      kept =
          λ i h. refl;
      known_kept =
          λ i h. refl;
      counts_kept = λ i h. refl;
      cost_kept = λ i h. refl;
      length_kept = λ i h. refl;
    }

pub grows_push : (ns : List (List Edge)) (x : List Edge) → Grows ns (ns ++ x ∷ [])
grows_push ns x = record {
  at_least = (let l = length_push ns x in omega (arith, l));
  kept = λ i h. get_or_append_left ns (x ∷ []) [] i h;
  known_kept = λ i h. table_old [] mapped ns x i h;
  counts_kept = λ i h. table_old 0 counted ns x i h;
  cost_kept = λ i h. table_old 0 dearest ns x i h;
  length_kept = λ i h. table_old 0 longest ns x i h;
}

grows_by : (ns more : List (List Edge)) (id : ℕ) (x : List Edge)
    → (more ≡ ns) ⊎ ((more ≡ ns ++ x ∷ []) × (id ≡ length ns) × (holds_same x ns ≡ false))
    → Grows ns more
grows_by ns more id x (inl e) = subst (Grows ns) (sym e) (grows_same ns)
grows_by ns more id x (inr e) = subst (Grows ns) (sym e.0) (grows_push ns x)

-- targets fall
falls_at : (ns : List (List Edge)) → AreFrozen ns → (id : ℕ) → (id < length ns) ⊎ (length ns ≤ id)
    → Below id (get_or ns id [])
falls_at ns a zero h = subst (Below 0) (sym a.end_is) tt
falls_at ns a (suc id) (inl h) = (a.nodes (suc id) (omega arith) h).below
falls_at ns a (suc id) (inr h) = subst (Below (suc id)) (sym (get_or_past ns (suc id) [] h)) tt

pub falls_of : (ns : List (List Edge)) → AreFrozen ns → Falls ns
falls_of ns a id = falls_at ns a id (cases_lt id (length ns))

falls_push_at : (ns : List (List Edge)) (x : List Edge) → Falls ns → Below (length ns) x → (id : ℕ)
    → (id ≡ length ns) ⊎ ((id < length ns) ⊎ (length ns < id))
    → Below id (get_or (ns ++ x ∷ []) id [])
falls_push_at ns x falls below id (inl e) =
    subst (λ (k : ℕ). Below k (get_or (ns ++ x ∷ []) k [])) (sym e)
    (subst (Below (length ns)) (sym (get_or_push ns x [] (length ns) refl)) below)
falls_push_at ns x falls below id (inr (inl h)) =
    subst (Below id) (sym (get_or_append_left ns (x ∷ []) [] id h)) (falls id)
falls_push_at ns x falls below id (inr (inr h)) =
    let l = length_push ns x in
    subst (Below id) (sym (get_or_past (ns ++ x ∷ []) id [] (omega (arith, l, h)))) tt

pub falls_push : (ns : List (List Edge)) (x : List Edge) → Falls ns → Below (length ns) x
    → Falls (ns ++ x ∷ [])
falls_push ns x falls below id = falls_push_at ns x falls below id (cases_order id (length ns))

falls_by : (ns more : List (List Edge)) (id : ℕ) (x : List Edge) → Falls ns → Below (length ns) x
    → (more ≡ ns) ⊎ ((more ≡ ns ++ x ∷ []) × (id ≡ length ns) × (holds_same x ns ≡ false))
    → Falls more
falls_by ns more id x falls below (inl e) = subst Falls (sym e) falls
falls_by ns more id x falls below (inr e) = subst Falls (sym e.0) (falls_push ns x falls below)

-- what is frozen stays so with one node more
pub node_more : (ns more : List (List Edge)) (id : ℕ) (es : List Edge) → Grows ns more
    → id ≤ length ns → IsNode ns id es → IsNode more id es
node_more ns more id es g h n = record {
  some = n.some;
  rising = n.rising;
  labels = n.labels;
  below = n.below;
  before = counted_from_local (counts ns) (counts more) id 0 es n.below
      (λ i l. sym (g.counts_kept i (omega (arith, l, h)))) n.before;
}

-- a property of all nodes when there is one more
each_push : (P : ℕ → List Edge → Type 0) (ns : List (List Edge)) (x : List Edge)
    → ((id : ℕ) → 0 < id → id < length ns → P id (get_or ns id [])) → P (length ns) x → (id : ℕ)
    → 0 < id → id < length (ns ++ x ∷ []) → (id ≡ length ns) ⊎ ((id < length ns) ⊎ (length ns < id))
    → P id (get_or (ns ++ x ∷ []) id [])
each_push P ns x old new id p h (inl e) =
    subst (λ (k : ℕ). P k (get_or (ns ++ x ∷ []) k [])) (sym e)
    (subst (P (length ns)) (sym (get_or_push ns x [] (length ns) refl)) new)
each_push P ns x old new id p h (inr (inl k)) =
    subst (P id) (sym (get_or_append_left ns (x ∷ []) [] id k)) (old id p k)
each_push P ns x old new id p h (inr (inr k)) =
    let l = length_push ns x in absurd (omega (arith, l, h, k))

-- a measure of all nodes when there is one more
pub bound_push : (step : List ℕ → List Edge → ℕ) (most : ℕ) (ns : List (List Edge)) (x : List Edge)
    → ((id : ℕ) → get_or (table step [] ns) id 0 ≤ most)
    → get_or (table step [] (ns ++ x ∷ [])) (length ns) 0 ≤ most → (id : ℕ)
    → (id ≡ length ns) ⊎ ((id < length ns) ⊎ (length ns < id))
    → get_or (table step [] (ns ++ x ∷ [])) id 0 ≤ most
bound_push step most ns x old new id (inl e) =
    subst (λ (k : ℕ). get_or (table step [] (ns ++ x ∷ [])) k 0 ≤ most) (sym e) new
bound_push step most ns x old new id (inr (inl k)) =
    let t = table_old 0 step ns x id k in let o = old id in omega (arith, t, o)
bound_push step most ns x old new id (inr (inr k)) =
    let l = length_push ns x in
    let len = length-table step [] (ns ++ x ∷ []) in
    let p = get_or_past (table step [] (ns ++ x ∷ [])) id 0 (omega (arith, l, len, k)) in
    omega (arith, p)

pub once_push : (ns : List (List Edge)) (x : List Edge)
    → ((i j : ℕ) → i < j → j < length ns → same_edges (get_or ns i []) (get_or ns j []) ≡ false)
    → ((i : ℕ) → i < length ns → same_edges (get_or ns i []) x ≡ false) → (i j : ℕ) → i < j
    → j < length (ns ++ x ∷ []) → (j ≡ length ns) ⊎ ((j < length ns) ⊎ (length ns < j))
    → same_edges (get_or (ns ++ x ∷ []) i []) (get_or (ns ++ x ∷ []) j []) ≡ false
once_push ns x old new i j h k (inl e) =
    let low : i < length ns = omega (arith, h, e) in
    let a : get_or (ns ++ x ∷ []) i [] ≡ get_or ns i [] = get_or_append_left ns (x ∷ []) [] i low in
    let b : get_or (ns ++ x ∷ []) j [] ≡ x =
    ap (λ (m : ℕ). get_or (ns ++ x ∷ []) m []) e ∙ get_or_push ns x [] (length ns) refl in
    ap (λ (es : List Edge). same_edges es (get_or (ns ++ x ∷ []) j [])) a
    ∙ ap (same_edges (get_or ns i [])) b ∙ new i low
once_push ns x old new i j h k (inr (inl l)) =
    let a : get_or (ns ++ x ∷ []) i [] ≡ get_or ns i [] =
    get_or_append_left ns (x ∷ []) [] i (omega (arith, h, l)) in
    let b : get_or (ns ++ x ∷ []) j [] ≡ get_or ns j [] = get_or_append_left ns (x ∷ []) [] j l in
    ap (λ (es : List Edge). same_edges es (get_or (ns ++ x ∷ []) j [])) a
    ∙ ap (same_edges (get_or ns i [])) b ∙ old i j h l
once_push ns x old new i j h k (inr (inr l)) =
    let len = length_push ns x in absurd (omega (arith, len, k, l))

pub frozen_push : (ns : List (List Edge)) (x : List Edge) → AreFrozen ns → IsNode ns (length ns) x
    → is_free x ≡ true → holds_same x ns ≡ false → count_at (ns ++ x ∷ []) (length ns) ≤ 4194304
    → cost_at (ns ++ x ∷ []) (length ns) ≤ 2147483647 → length_at (ns ++ x ∷ []) (length ns) ≤ 324
    → AreFrozen (ns ++ x ∷ [])
frozen_push ns x a node free absent many dear long =
    let more = ns ++ x ∷ [] in
    let g = grows_push ns x in
    record {
      some = (let l = length_push ns x in omega (arith, l));
      end_is = get_or_append_left ns (x ∷ []) [] 0 a.some ∙ a.end_is;
      nodes = λ id p h. each_push (IsNode more) ns x
          (λ i q k. node_more ns more i (get_or ns i []) g (omega (arith, k)) (a.nodes i q k))
          (node_more ns more (length ns) x g (omega arith) node) id p h
          (cases_order id (length ns));
      free = λ id p h. each_push (λ i es. is_free es ≡ true) ns x a.free free id p h
          (cases_order id (length ns));
      once = λ i j h k. once_push ns x a.once (λ m l. held_each x ns absent m l) i j h k
          (cases_order j (length ns));
      many = λ id. bound_push counted 4194304 ns x a.many many id (cases_order id (length ns));
      dear = λ id. bound_push dearest 2147483647 ns x a.dear dear id (cases_order id (length ns));
      long = λ id. bound_push longest 324 ns x a.long long id (cases_order id (length ns));
    }

-- frames stay
edge_more : (ns more : List (List Edge)) (depth : ℕ) (e : Edge) → Grows ns more → IsEdge ns depth e
    → IsEdge more depth e
edge_more ns more depth e g h =
    let c = g.cost_kept e.target.0 h.there in
    let l = g.length_kept e.target.0 h.there in
    let t = h.there in let at_least = g.at_least in let d = h.dear in let k = h.long in
    record {
      there =
          omega (arith, t, at_least);
      label =
          h.label;
      dear = omega (arith, c, d);
      long = omega (arith, l, k);
    }

edges_below : (ns : List (List Edge)) (depth : ℕ) (es : List Edge)
    → AllByRecursion (IsEdge ns depth) es → Below (length ns) es
edges_below ns depth es all =
    all_map (IsEdge ns depth) (λ (e : Edge). e.target.0 < length ns) es (λ e h. h.there) all

frame_more : (ns more : List (List Edge)) (depth : ℕ) (f : Frame) → Grows ns more
    → IsFrame ns depth f → IsFrame more depth f
frame_more ns more depth f g h =
    let below = edges_below ns depth f.edges h.edges_are in
    record {
      rises = h.rises;
      label_fits = h.label_fits;
      before = counted_from_local (counts ns) (counts more) (length ns) 0 f.edges below
          (λ i l. sym (g.counts_kept i l)) h.before;
      count_is =
          h.count_is
          ∙ total_local (counts ns) (counts more) (length ns) f.edges below
          (λ i l. sym (g.counts_kept i l));
      edges_are =
          all_map (IsEdge ns depth) (IsEdge more depth) f.edges
          (λ e k. edge_more ns more depth e g k) h.edges_are;
    }

pub frames_more : (ns more : List (List Edge)) (depth : ℕ) (fs : List Frame) → Grows ns more
    → AreFrames ns depth fs → AreFrames more depth fs
frames_more ns more depth [] g all = tt
frames_more ns more depth (f ∷ fs) g all =
    (frame_more ns more depth f g all.0, frames_more ns more (depth + 1) fs g all.1)

pub frames_below : (ns : List (List Edge)) (depth : ℕ) (fs : List Frame) → AreFrames ns depth fs
    → FramesBelow (length ns) fs
frames_below ns depth [] all = tt
frames_below ns depth (f ∷ fs) all =
    (edges_below ns depth f.edges all.0.edges_are, frames_below ns (depth + 1) fs all.1)

-- all that is known of a frame's edges once its path's rest is frozen
pub record IsClosed (ns : List (List Edge)) (depth count : ℕ) (es : List Edge)
    (done : List ℕ) : Type 0 where
  pub some : 0 < length es
  pub rising : Rising es
  pub before : CountedFrom (counts ns) 0 es
  pub total : total_count (counts ns) es ≡ count
  pub edges_are : AllByRecursion (IsEdge ns depth) es
  pub below : Below (length ns) es
  pub cheap : least_of es ≤ 2147483647
  pub shallow : depth ≤ 324
  pub walk : for_targets (visit ns) es done ≡ from_to (length ns) 0

some_push : (es : List Edge) (e : Edge) → 0 < length (es ++ e ∷ [])
some_push es e = let l = length_push es e in omega (arith, l)

pub closing : (ns : List (List Edge)) (fs : List Frame) (f : Frame) (id cost count : ℕ)
    → IsOpen ns (fs ++ f ∷ []) id cost count
    → IsClosed ns (length fs) (f.count + count) (finished_edges f id cost) (visited ns fs [])
closing ns fs f id cost count opened =
    let e = last_edge_of f id cost in
    let c = opened.carried in
    let fr : IsFrame ns (length fs) f =
    subst (λ (d : ℕ). IsFrame ns d f) (omega arith) (frames_last ns 0 fs f opened.frames) in
    let len : length (fs ++ f ∷ []) ≡ length fs + 1 = length_push fs f in
    let long = c.long in
    let one : IsEdge ns (length fs) e =
    record {
      there =
          c.there;
      label = fr.label_fits;
      dear = c.dear;
      long = omega (arith, len, long);
    } in
    let all : AllByRecursion (IsEdge ns (length fs)) (finished_edges f id cost) =
    all_push (IsEdge ns (length fs)) f.edges e fr.edges_are one in
    let low : least_of (finished_edges f id cost) ≤ cost =
    all_last (λ (d : Edge). least_of (finished_edges f id cost) ≤ d.cost) f.edges e
    (least_le (finished_edges f id cost)) in
    let dear = c.dear in
    record {
      some = some_push f.edges e;
      rising = rising_push f.edges e fr.rises;
      before = counted_from_push (counts ns) 0 f.edges e fr.before
          (let k = fr.count_is in omega (arith, k));
      total = (let t =
          total_push (counts ns) f.edges e in let k =
          fr.count_is in let n = c.count_is in omega (arith, t, k, n));
      edges_are = all;
      below = edges_below ns (length fs) (finished_edges f id cost) all;
      cheap = omega (arith, low, dear);
      shallow = omega (arith, len, long);
      walk = targets_push (visit ns) f.edges e (visited ns fs [])
          ∙ ap (visit ns id) (sym (walked_push ns fs f [])) ∙ c.walk;
    }

length-lowered_node : (es : List Edge) → length (lowered_node es) ≡ length es
length-lowered_node es = length-map es (lowered_arc (least_of es))

some_lowest : (es : List Edge) → 0 < length es → 0 < length (lowered_node es)
some_lowest es h = let l = length-lowered_node es in omega (arith, l, h)

-- what the frozen node has in the tables
pub record Measures (more : List (List Edge)) (id depth count : ℕ) (es : List Edge) : Type 0 where
  pub maps : map (with_cost (least_of es)) (tails more id) ≡ ways_of (known more) es
  pub count_is : count_at more id ≡ count
  pub dear : least_of es + cost_at more id ≤ 2147483647
  pub long : depth + length_at more id ≤ 324

measures : (ns more : List (List Edge)) (id depth count : ℕ) (es : List Edge) (done : List ℕ)
    → Grows ns more → Falls more → IsClosed ns depth count es done → id < length more
    → Alike (get_or more id []) (lowered_node es) → Measures more id depth count es
unfolding tails
measures ns more id depth count es done g falls c there same =
    let x = lowered_node es in
    let some = some_lowest es c.some in
    let mapped_at : tails more id ≡ ways_of (known more) x =
    table_at [] mapped mapped_local more id there falls
    ∙ mapped_ways (known more) (get_or more id []) (some_same (get_or more id []) x same some)
    ∙ ways_alike (known more) (get_or more id []) x same in
    let counted_at : count_at more id ≡ total_count (counts more) x =
    table_at 0 counted counted_local more id there falls
    ∙ counted_total (counts more) (get_or more id []) (some_same (get_or more id []) x same some)
    ∙ total_alike (counts more) (get_or more id []) x same in
    let cost_is : cost_at more id ≡ dearest (table dearest [] more) x =
    table_at 0 dearest dearest_local more id there falls
    ∙ dearest_alike (table dearest [] more) (get_or more id []) x same in
    let long_is : length_at more id ≡ longest (table longest [] more) x =
    table_at 0 longest longest_local more id there falls
    ∙ longest_alike (table longest [] more) (get_or more id []) x same in
    let dear_all : AllByRecursion
    (λ (e : Edge). least_of es + (e.cost + cost_at more e.target.0) ≤ 2147483647) x =
    all_less (λ (e : Edge). least_of es + (e.cost + cost_at more e.target.0) ≤ 2147483647)
    (least_of es) es
    (all_both (IsEdge ns depth) (λ (e : Edge). least_of es ≤ e.cost)
    (λ (e : Edge). least_of es + (e.cost - least_of es + cost_at more e.target.0) ≤ 2147483647)
    es
    (λ e p q. let k = g.cost_kept e.target.0 p.there in let d = p.dear in omega (arith, k, d, q))
    c.edges_are (least_le es)) in
    let long_all : AllByRecursion (λ (e : Edge). depth + (1 + length_at more e.target.0) ≤ 324) x =
    all_less (λ (e : Edge). depth + (1 + length_at more e.target.0) ≤ 324) (least_of es) es
    (all_map (IsEdge ns depth) (λ (e : Edge). depth + (1 + length_at more e.target.0) ≤ 324) es
    (λ e p. let k = g.length_kept e.target.0 p.there in let d = p.long in omega (arith, k, d))
    c.edges_are) in
    let dear_is =
    greatest_le (λ (e : Edge). e.cost + cost_at more e.target.0) (least_of es) 2147483647 x
    c.cheap dear_all in
    let long_at =
    greatest_le (λ (e : Edge). 1 + length_at more e.target.0) depth 324 x c.shallow long_all in
    record {
      maps = ap (map (with_cost (least_of es))) mapped_at
          ∙ lowered (known more) (least_of es) es (least_le es);
      count_is =
          counted_at ∙ total_less (counts more) (least_of es) es
          ∙ total_local (counts more) (counts ns) (length ns) es c.below g.counts_kept ∙ c.total;
      dear = subst (λ (k : ℕ). least_of es + k ≤ 2147483647) (sym cost_is) dear_is;
      long = subst (λ (k : ℕ). depth + k ≤ 324) (sym long_is) long_at;
    }

frozen_by : (ns more : List (List Edge)) (id depth count : ℕ) (es : List Edge) (done : List ℕ)
    → AreFrozen ns → IsClosed ns depth count es done → count ≤ 4194304
    → Measures more id depth count es
    → (more ≡ ns)
    ⊎ ((more ≡ ns ++ lowered_node es ∷ []) × (id ≡ length ns)
    × (holds_same (lowered_node es) ns ≡ false)) → AreFrozen more
frozen_by ns more id depth count es done a c few m (inl e) = subst AreFrozen (sym e) a
frozen_by ns more id depth count es done a c few m (inr e) =
    let x = lowered_node es in
    let d = m.dear in let l = m.long in let k = m.count_is in
    let many : count_at more id ≤ 4194304 = omega (arith, k, few) in
    let many2 : count_at more (length ns) ≤ 4194304 =
    subst (λ (k : ℕ). count_at more k ≤ 4194304) e.1 many in
    let dear : cost_at more id ≤ 2147483647 = omega (arith, d) in
    let long : length_at more id ≤ 324 = omega (arith, l) in
    let dear2 : cost_at more (length ns) ≤ 2147483647 =
    subst (λ (k : ℕ). cost_at more k ≤ 2147483647) e.1 dear in
    let long2 : length_at more (length ns) ≤ 324 =
    subst (λ (k : ℕ). length_at more k ≤ 324) e.1 long in
    subst AreFrozen (sym e.0)
    (frozen_push ns x a
    (record {
      some = some_lowest es c.some;
      rising = rising_less (least_of es) es c.rising;
      labels = all_less (λ (e : Edge). e.label < 256) (least_of es) es
          (all_map (IsEdge ns depth) (λ (e : Edge). e.label < 256) es (λ e p. p.label) c.edges_are);
      below = all_less (λ (e : Edge). e.target.0 < length ns) (least_of es) es c.below;
      before = counted_from_less (counts ns) 0 (least_of es) es c.before;
    })
    (free_least es c.some) e.2
    (subst (λ (m : List (List Edge)). count_at m (length ns) ≤ 4194304) e.0 many2)
    (subst (λ (m : List (List Edge)). cost_at m (length ns) ≤ 2147483647) e.0 dear2)
    (subst (λ (m : List (List Edge)). length_at m (length ns) ≤ 324) e.0 long2))

walk_by : (ns more : List (List Edge)) (id : ℕ) (x : List Edge) (done : List ℕ) → Falls ns
    → Below (length ns) x → for_targets (visit ns) x done ≡ from_to (length ns) 0 → id < length more
    → Alike (get_or more id []) x
    → (more ≡ ns) ⊎ ((more ≡ ns ++ x ∷ []) × (id ≡ length ns) × (holds_same x ns ≡ false))
    → visit more id done ≡ from_to (length more) 0
walk_by ns more id x done falls below walk there same (inl e) =
    let there2 : id < length ns = subst (λ (m : List (List Edge)). id < length m) e there in
    let same2 : Alike (get_or ns id []) x =
    subst (λ (m : List (List Edge)). Alike (get_or m id []) x) e same in
    subst (λ (m : List (List Edge)). visit m id done ≡ from_to (length m) 0) (sym e)
    (found_walk ns id x done falls (below_alike id (get_or ns id []) x same2 (falls id)) there2
    walk)
walk_by ns more id x done falls below walk there same (inr e) =
    let len = length_push ns x in
    let total : length more ≡ length ns + 1 = ap (λ (m : List (List Edge)). length m) e.0 ∙ len in
    let kept : (i : ℕ) → i < length ns → get_or more i [] ≡ get_or ns i [] =
    λ i h. ap (λ (m : List (List Edge)). get_or m i []) e.0
    ∙ get_or_append_left ns (x ∷ []) [] i h in
    let new : get_or more (length ns) [] ≡ x =
    ap (λ (m : List (List Edge)). get_or m (length ns) []) e.0
    ∙ get_or_push ns x [] (length ns) refl in
    ap (λ (k : ℕ). visit more k done) e.1 ∙ new_walk ns more x done falls kept new below walk
    ∙ ap (λ (k : ℕ). from_to k 0) (sym total)

-- One level up: the deepest frame is frozen and carried by the frame above it.
pub freeze_step : (ns more : List (List Edge)) (fs : List Frame) (f : Frame)
    (id cost count next : ℕ) → IsOpen ns (fs ++ f ∷ []) id cost count → f.count + count ≤ 4194304
    → IsHeld ns more next (lowered_node (finished_edges f id cost))
    → IsOpen more fs next (least_of (finished_edges f id cost)) (f.count + count)
    × (frame_paths more fs next (least_of (finished_edges f id cost))
    ≡ frame_paths ns (fs ++ f ∷ []) id cost)
unfolding tails
freeze_step ns more fs f id cost count next opened few held =
    let es = finished_edges f id cost in
    let x = lowered_node es in
    let c = closing ns fs f id cost count opened in
    let falls = falls_of ns opened.frozen in
    let g = grows_by ns more next x held.either in
    let below : Below (length ns) x =
    all_less (λ (e : Edge). e.target.0 < length ns) (least_of es) es c.below in
    let falls2 = falls_by ns more next x falls below held.either in
    let same = alike_of (get_or more next []) x held.same in
    let m = measures ns more next (length fs) (f.count + count) es (visited ns fs []) g falls2 c
    held.there same in
    let fronts : AreFrames ns 0 fs = frames_front ns 0 fs f opened.frames in
    let fbelow = frames_below ns 0 fs fronts in
    let still : visited more fs [] ≡ visited ns fs [] =
    walked_more ns more fs [] falls g.kept fbelow in (
      record {
        frozen = frozen_by ns more next (length fs) (f.count + count) es (visited ns fs [])
            opened.frozen c few m held.either;
        frames = frames_more ns more 0 fs g fronts;
        carried = record {
          there = held.there;
          dear = m.dear;
          long = m.long;
          count_is = sym m.count_is;
          pos = (let q = opened.carried.pos in omega (arith, q));
          walk = ap (visit more next) still
              ∙ walk_by ns more next x (visited ns fs []) falls below
              (targets_less (visit ns) (least_of es) es (visited ns fs []) ∙ c.walk) held.there same
              held.either;
        };
      },
      ap (paths_under (known more) fs)
          (m.maps ∙ ways_local (known more) (known ns) (length ns) es c.below g.known_kept)
          ∙ open_local (known more) (known ns) (length ns) fs (ways_of (known ns) es) fbelow
          g.known_kept
          ∙ ap (paths_under (known ns) fs)
          (ways_push (known ns) f.edges (last_edge_of f id cost)
          ∙ ap (λ (r : List Tail). ways_of (known ns) f.edges ++ r)
          (sym (behind_along (last_edge_of f id cost) (tails ns id))))
          ∙ sym (open_push (known ns) fs f (map (with_cost cost) (tails ns id))),
    )
