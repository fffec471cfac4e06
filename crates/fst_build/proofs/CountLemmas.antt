-- How many paths there are.
use Rattle.std.proofs.Common.{◌≡◌, ◌≤◌, ◌+◌, ℕ, List, [], ◌∷◌, ◌++◌, map, length, get_or}
use Rattle.std.proofs.Common.{refl, sym, arith, length-append}
use Rattle.std.proofs.lemmas.List.{length-map}
use Rattle.sg_base.specs.declared.node.Edge.{Edge}
use Rattle.fst_code.specs.Tails.{Tail, along, tails, counts}
use Rattle.fst_build.specs.Building.{Frame, ways_of, with_label, with_cost, paths_under, known}
use Rattle.fst_build.specs.Building.{count_at, total_count, AreFrames, frame_paths}
use Rattle.fst_code.proofs.OneTextLemmas.{count_is}

length-ways : (ns : List (List Edge)) (es : List Edge)
    → length (ways_of (known ns) es) ≡ total_count (counts ns) es
length-ways ns [] = refl
length-ways ns (e ∷ es) =
    let a = length-append (map (along e) (get_or (known ns) e.target.0 []))
    (ways_of (known ns) es) in
    let b = length-map (get_or (known ns) e.target.0 []) (along e) in
    let c = count_is ns e.target.0 in
    let ih = length-ways ns es in
    omega (arith, a, b, c, ih)

pub length-tails : (ns : List (List Edge)) (id : ℕ) → length (tails ns id) ≡ count_at ns id
unfolding tails
length-tails ns id = sym (count_is ns id)

abbrev pub total_counts : List Frame → ℕ
total_counts [] = 0
total_counts (f ∷ fs) = f.count + total_counts fs

length-open : (ns : List (List Edge)) (depth : ℕ) (fs : List Frame) (inner : List Tail)
    → AreFrames ns depth fs
    → length (paths_under (known ns) fs inner) ≡ total_counts fs + length inner
length-open ns depth [] inner all = omega (arith)
length-open ns depth (f ∷ fs) inner all =
    let a = length-append (ways_of (known ns) f.edges)
    (map (with_label f.label) (paths_under (known ns) fs inner)) in
    let b = length-map (paths_under (known ns) fs inner) (with_label f.label) in
    let w = length-ways ns f.edges in
    let c = all.0.count_is in
    let ih = length-open ns (depth + 1) fs inner all.1 in
    omega (arith, a, b, w, c, ih)

pub length-frame_paths : (ns : List (List Edge)) (fs : List Frame) (id cost : ℕ) → AreFrames ns 0 fs
    → length (frame_paths ns fs id cost) ≡ total_counts fs + count_at ns id
length-frame_paths ns fs id cost all =
    let a = length-open ns 0 fs (map (with_cost cost) (tails ns id)) all in
    let b = length-map (tails ns id) (with_cost cost) in
    let c = length-tails ns id in
    omega (arith, a, b, c)

total_counts_push : (fs : List Frame) (f : Frame)
    → total_counts (fs ++ f ∷ []) ≡ total_counts fs + f.count
total_counts_push [] f = omega (arith)
total_counts_push (g ∷ fs) f = let ih = total_counts_push fs f in omega (arith, ih)

pub count_le : (ns : List (List Edge)) (fs : List Frame) (f : Frame) (id cost : ℕ)
    → AreFrames ns 0 (fs ++ f ∷ [])
    → f.count + count_at ns id ≤ length (frame_paths ns (fs ++ f ∷ []) id cost)
count_le ns fs f id cost all =
    let a = length-frame_paths ns (fs ++ f ∷ []) id cost all in
    let b = total_counts_push fs f in
    omega (arith, a, b)
