-- One context ends before the other.
use Rattle.std.proofs.Common.{◌≡◌, ◌≤◌, ◌<◌, ◌+◌, ◌++◌, ◌∷◌, [], ℕ, List, length, drop, get_or}
use Rattle.std.proofs.Common.{refl, sym, ap, ◌∙◌, arith, Ordering}
use Rattle.std.proofs.lemmas.List.{drop_more, drop_all}
use Rattle.std.specs.Cmp.Lexicographic.{slice_cmp}
use Rattle.std.specs.Ordering.{nat_cmp, ordering_then}
use Rattle.std.specs.declared.cmp.Ordering.TheVariants.{Less, Greater}
use Rattle.sg_paths.proofs.entry.compare_contexts.Goals as goal
use Rattle.sg_paths.proofs.entry.compare_contexts.Goals.{then-loop-i-test+else-i-second}
use Rattle.sg_paths.proofs.entry.compare_contexts.Goals.{else-loop-i-test}

longer : (xs : List ℕ) → slice_cmp nat_cmp (xs ++ 29 ∷ []) [] ≡ Greater
longer [] = refl
longer (x ∷ xs) = refl

shorter : (xs : List ℕ) → slice_cmp nat_cmp [] (xs ++ 29 ∷ []) ≡ Less
shorter [] = refl
shorter (x ∷ xs) = refl

first_more : (f s : List ℕ) (i : ℕ) → i < length f → length s ≤ i
    → slice_cmp nat_cmp (drop i f ++ 29 ∷ []) (drop i s ++ 29 ∷ [])
    ≡ ordering_then (nat_cmp (get_or f i 0) 29) Greater
first_more f s i h k =
    ap (λ z. slice_cmp nat_cmp (z ++ 29 ∷ []) (drop i s ++ 29 ∷ [])) (drop_more f i 0 h)
    ∙ ap (λ z. slice_cmp nat_cmp (get_or f i 0 ∷ (drop (i + 1) f ++ 29 ∷ [])) (z ++ 29 ∷ []))
    (drop_all i s k)
    ∙ ap (λ o. ordering_then (nat_cmp (get_or f i 0) 29) o) (longer (drop (i + 1) f))

second_more : (f s : List ℕ) (i : ℕ) → length f ≤ i → i < length s
    → slice_cmp nat_cmp (drop i f ++ 29 ∷ []) (drop i s ++ 29 ∷ [])
    ≡ ordering_then (nat_cmp 29 (get_or s i 0)) Less
second_more f s i h k =
    ap (λ z. slice_cmp nat_cmp (z ++ 29 ∷ []) (drop i s ++ 29 ∷ [])) (drop_all i f h)
    ∙ ap (λ z. slice_cmp nat_cmp (29 ∷ []) (z ++ 29 ∷ [])) (drop_more s i 0 k)
    ∙ ap (λ o. ordering_then (nat_cmp 29 (get_or s i 0)) o) (shorter (drop (i + 1) s))

pub returns-then-i-first : goal.returns-then-i-first
returns-then-i-first c =
    let i = c.loop-i.i in
    let f = c.args.first.now in
    let s = c.args.second.now in
    let k : length s ≤ i =
    elim c.loop-i-test.branch [
      | then-loop-i-test+else-i-second w ↦ omega arith
      | else-loop-i-test w ↦ absurd (omega arith)
    ] in
    (c.then.ensures ∙ ap (λ (o : Ordering). ordering_then o Greater) c.cmp-then-i-first.ensures)
    ∙ sym (first_more f s i (omega arith) k) ∙ c.loop-i.invariant.same

pub returns-then-i-second-2 : goal.returns-then-i-second-2
returns-then-i-second-2 c =
    let i = c.loop-i.i in
    let f = c.args.first.now in
    let s = c.args.second.now in
    (c.then-then-i-second-2.ensures
    ∙ ap (λ (o : Ordering). ordering_then o Less) c.cmp-then-i-second-2.ensures)
    ∙ sym (second_more f s i (omega arith) (omega arith)) ∙ c.loop-i.invariant.same
