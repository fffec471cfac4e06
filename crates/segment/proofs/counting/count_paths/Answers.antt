-- One document more.
use Rattle.std.proofs.Common.{◌≡◌, ◌≤◌, ◌<◌, ◌+◌, ◌-◌, ◌*◌, ℕ, zero, suc, List, [], ◌∷◌}
use Rattle.std.proofs.Common.{length, map}
use Rattle.std.proofs.Common.{take, drop, refl, ap, arith, length-append}
use Rattle.std.proofs.lemmas.List.{length-map}
use Rattle.sg_paths.specs.Operations.{PlainNumbered}
use Rattle.sg_paths.specs.Paths.{paths}
use Rattle.sg_paths.specs.AllPaths.{path_entries, entry_of}
use Rattle.segment.proofs.counting.count_paths.Goals as goal

-- how many entries documents have doesn't depend on the place of the first
from_any : (n m : ℕ) (ds : List PlainNumbered)
    → length (path_entries n ds) ≡ length (path_entries m ds)
from_any n m [] = refl
from_any n m (d ∷ ds) =
    let a = length-append (map (entry_of n) (paths d.document)) (path_entries (n + 1) ds) in
    let b = length-append (map (entry_of m) (paths d.document)) (path_entries (m + 1) ds) in
    let e = length-map (paths d.document) (entry_of n) in
    let f = length-map (paths d.document) (entry_of m) in
    let g = from_any (n + 1) (m + 1) ds in
    omega (arith, a, b, e, f, g)

one_more : (ds : List PlainNumbered) (i : ℕ) → i < length ds
    → length (path_entries 0 (drop i ds))
    ≡ length (path_entries 0 (take 1 (drop i ds))) + length (path_entries 0 (drop (suc i) ds))
one_more [] i h = absurd (omega (arith, h))
one_more (d ∷ ds) zero h =
    let a = length-append (map (entry_of 0) (paths d.document)) (path_entries 1 ds) in
    let b = length-append (map (entry_of 0) (paths d.document)) (path_entries 1 []) in
    let g = from_any 1 0 ds in
    omega (arith, a, b, g)
one_more (d ∷ ds) (suc i) h = one_more ds i (omega (arith, h))

counted : (ds : List PlainNumbered) (i count one : ℕ) → i < length ds → count ≤ 256 * i → one ≤ 256
    → one ≡ length (path_entries 0 (take (i + 1 - i) (drop i ds)))
    → count + length (path_entries 0 (drop i ds)) ≡ length (path_entries 0 ds)
    → (count + one ≤ 256 * (i + 1))
    × (count + one + length (path_entries 0 (drop (i + 1) ds)) ≡ length (path_entries 0 ds))
counted ds i count one h most few is whole =
    let a = one_more ds i h in
    let b : i + 1 - i ≡ 1 = omega arith in
    let c = ap (λ n. length (path_entries 0 (take n (drop i ds)))) b in
    let s : i + 1 ≡ suc i = omega arith in
    let d = ap (λ n. length (path_entries 0 (drop n ds))) s in
    (omega (arith, most, few), omega (arith, a, c, d, is, whole))

pub loop-i-preserved : goal.loop-i-preserved
loop-i-preserved c =
    counted c.args.docs.now c.loop-i.i c.loop-i.count c.in_ok-count.field-0 (omega arith)
    c.loop-i.invariant.0 c.in_ok-count.ensures.most c.in_ok-count.ensures.value
    c.loop-i.invariant.1
