-- The number of a path is how many entries with its context and key come before it.
use Rattle.std.proofs.Common.{◌≡◌, ◌<◌, ◌+◌, ℕ, Bool, true, false, ◌&&◌, ◌||◌}
use Rattle.std.proofs.Common.{cond, nat_eq, nat_lt, ◌⊎◌, inl, inr, Ordering, Some, None}
use Rattle.std.proofs.Common.{List, [], ◌∷◌, ◌++◌, refl, sym, ap, ◌∙◌, subst, arith}
use Rattle.std.specs.Prelude.{bytes_eq, count_by}
use Rattle.std.specs.List.{AllByRecursion}
use Rattle.std.specs.Cmp.{IsTotalOrder, IsStrictWeakOrder, then_total}
use Rattle.std.specs.Cmp.Lexicographic.{slice_cmp, on_texts, bytes_decides}
use Rattle.std.specs.Ordering.{nat_cmp, on, then_cmp, is_lt, ordering_then, ordering_reverse}
use Rattle.std.specs.declared.cmp.Ordering.TheVariants.{Less, Equal, Greater}
use Rattle.std.specs.FinMap.{nat_cmp-IsAntisymmetric, slice_cmp-IsAntisymmetric}
use Rattle.std.proofs.lemmas.Cmp.{nat_list_cmp_total, tied_itself}
use Rattle.std.proofs.lemmas.List.{append_cancel_right}
use Rattle.std.proofs.lemmas.List.Elements.{All-from_recursion}
use Rattle.std.proofs.lemmas.List.Sorted.{ranks_by}
use Rattle.std.proofs.lemmas.List.Sums.{sum_by-cons}
use Rattle.std.proofs.lemmas.Bool.{and_parts, and_from}
use Rattle.std.proofs.lemmas.Bool.Decides.{nat_tests}
use Rattle.sg_base.specs.Lists.{Pairs}
use Rattle.sg_base.specs.Ranking.{in_order}
use Rattle.sg_base.proofs.ListLemmas.{each_in, all_of}
use Rattle.sg_base.proofs.Sorting.{rises-in_order, Rises, total_of, total_of-in_order}
use Rattle.sg_paths.specs.AllPaths.{Entry, FullPath, path_entries, entry_cmp, entry_cmp_total}
use Rattle.sg_paths.specs.AllPaths.{is_alike, number_after, numbered, all_paths}
use Rattle.sg_paths.specs.PathLaws.{comes_before, NumbersCountEarlierEntries}
use Rattle.sg_paths.proofs.RiseLemmas.{entry_cmp_exact}
use Rattle.sg_paths.proofs.ApartLemmas.{Differ, all_apart}

clash : {A : Type 0} → true ≡ false → A
clash e = absurd cc

-- entries with one context and key
alike_parts : (e f : Entry) → is_alike e f ≡ true → (e.context ≡ f.context) × (e.key ≡ f.key)
alike_parts e f h =
    let p = and_parts (bytes_eq e.context f.context) (bytes_eq e.key f.key) h in
    ((bytes_decides e.context f.context).0 p.0, (bytes_decides e.key f.key).0 p.1)

alike_from : (e f : Entry) → e.context ≡ f.context → e.key ≡ f.key → is_alike e f ≡ true
alike_from e f a b =
    and_from (bytes_eq e.context f.context) (bytes_eq e.key f.key)
    ((bytes_decides e.context f.context).1 a) ((bytes_decides e.key f.key).1 b)

alike_turn : (e f : Entry) → is_alike e f ≡ true → is_alike f e ≡ true
alike_turn e f h = let p = alike_parts e f h in alike_from f e (sym p.0) (sym p.1)

alike_chain : (e f g : Entry) → is_alike e f ≡ true → is_alike f g ≡ true → is_alike e g ≡ true
alike_chain e f g h k =
    let p = alike_parts e f h in
    let q = alike_parts f g k in
    alike_from e g (p.0 ∙ q.0) (p.1 ∙ q.1)

-- the order of contexts and keys alone
abbrev head_cmp : Entry → Entry → Ordering
head_cmp =
    then_cmp (on (λ e. e.context ++ 29 ∷ []) (slice_cmp nat_cmp))
    (on (λ e. e.key) (slice_cmp nat_cmp))

head_total : IsTotalOrder head_cmp
head_total =
    then_total (on_texts (λ (e : Entry). e.context ++ 29 ∷ [])) (on_texts (λ (e : Entry). e.key))

head_strict : IsStrictWeakOrder (λ x y. is_lt (head_cmp x y))
head_strict = ranks_by head_total (λ (x : Entry). x)

first_of_then : (o p : Ordering) → is_lt (ordering_then o p) ≡ false → is_lt o ≡ false
first_of_then Less p h = h
first_of_then Equal p h = refl
first_of_then Greater p h = refl

heads_rise : (e f : Entry) → is_lt (entry_cmp f e) ≡ false → is_lt (head_cmp f e) ≡ false
heads_rise e f h =
    first_of_then (head_cmp f e) (nat_cmp e.weight f.weight)
    (first_of_then _ (nat_cmp f.doc e.doc) (first_of_then _ (nat_cmp f.place e.place) h))

itself : (x y : List ℕ) → x ≡ y → slice_cmp nat_cmp x y ≡ Equal
itself x y e =
    subst (λ z. slice_cmp nat_cmp x z ≡ Equal) e (tied_itself nat_list_cmp_total x)

alike_ties : (e f : Entry) → is_alike e f ≡ true → head_cmp e f ≡ Equal
alike_ties e f h =
    let p = alike_parts e f h in
    ap (λ o. ordering_then o (slice_cmp nat_cmp e.key f.key))
    (itself (e.context ++ 29 ∷ []) (f.context ++ 29 ∷ []) (ap (λ z. z ++ 29 ∷ []) p.0))
    ∙ itself e.key f.key p.1

each_ties : (o p : Ordering) → ordering_then o p ≡ Equal → (o ≡ Equal) × (p ≡ Equal)
each_ties Less p h = cc
each_ties Equal p h = (refl, h)
each_ties Greater p h = cc

tied_alike : (e f : Entry) → head_cmp e f ≡ Equal → is_alike e f ≡ true
tied_alike e f h =
    let p = each_ties _ (slice_cmp nat_cmp e.key f.key) h in
    alike_from e f
    (append_cancel_right e.context f.context (29 ∷ [])
    (slice_cmp-IsAntisymmetric nat_cmp-IsAntisymmetric _ _ p.0))
    (slice_cmp-IsAntisymmetric nat_cmp-IsAntisymmetric e.key f.key p.1)

neither : (e f : Entry) (o : Ordering) → head_cmp e f ≡ o → is_lt (head_cmp e f) ≡ false
    → is_lt (head_cmp f e) ≡ false → head_cmp e f ≡ Equal
neither e f Less is p q = clash (sym (ap is_lt is) ∙ p)
neither e f Equal is p q = is
neither e f Greater is p q =
    let back : head_cmp f e ≡ Less = head_total.antisymm f e ∙ ap ordering_reverse is in
    clash (sym (ap is_lt back) ∙ q)

-- between two that are alike stand none but these
alike_between : (x e f : Entry) → is_lt (entry_cmp e x) ≡ false → is_lt (entry_cmp f e) ≡ false
    → is_alike x f ≡ true → is_alike e f ≡ true
alike_between x e f h k a =
    let not_up : is_lt (head_cmp x f) ≡ false = ap is_lt (alike_ties x f a) in
    let not_down : is_lt (head_cmp e f) ≡ false =
    head_strict.chain e x f (heads_rise x e h) not_up in
    tied_alike e f (neither e f (head_cmp e f) refl not_down (heads_rise e f k))

-- the order among those that are alike
more_of : (x y : ℕ) → nat_cmp x y ≡ Greater → y < x
more_of x y e = grind (arith, nat_tests)

weigh : (c d e : Ordering) (v w i j : ℕ) → nat_cmp w v ≡ c → nat_cmp j i ≡ d → (i ≡ j → ⊥)
    → is_lt (ordering_then (ordering_then c d) e) ≡ false → (v < w) ⊎ ((w ≡ v) × (i < j))
weigh Less d e v w i j r s n h = clash h
weigh Greater d e v w i j r s n h = inl (more_of w v r)
weigh Equal Less e v w i j r s n h = clash h
weigh Equal Equal e v w i j r s n h = absurd (n (sym (nat_cmp-IsAntisymmetric j i s)))
weigh Equal Greater e v w i j r s n h =
    inr (nat_cmp-IsAntisymmetric w v r, more_of j i s)

-- x stands before y in the order
abbrev Stands : Entry → Entry → Type 0
Stands x y = (is_lt (entry_cmp y x) ≡ false) × Differ x y

heavier_or_earlier : (x y : Entry) → Stands x y → is_alike x y ≡ true
    → (y.weight < x.weight) ⊎ ((x.weight ≡ y.weight) × (x.doc < y.doc))
heavier_or_earlier x y s a =
    let p = alike_parts x y a in
    weigh (nat_cmp x.weight y.weight) (nat_cmp y.doc x.doc) (nat_cmp y.place x.place)
    y.weight x.weight x.doc y.doc refl refl (λ d. s.1 d p.0 p.1)
    (subst (λ (o : Ordering). is_lt (ordering_then (ordering_then (ordering_then o
    (nat_cmp x.weight y.weight)) (nat_cmp y.doc x.doc)) (nat_cmp y.place x.place)) ≡ false)
    (alike_ties y x (alike_turn x y a)) s.0)

tests_yes : (v w i j : ℕ) → (v < w) ⊎ ((w ≡ v) × (i < j))
    → (nat_lt v w || (nat_eq w v && nat_lt i j)) ≡ true
tests_yes v w i j (inl h) = grind (arith, nat_tests)
tests_yes v w i j (inr h) = let a = h.0 in let b = h.1 in grind (arith, nat_tests)

tests_no : (v w i j : ℕ) → (v < w) ⊎ ((w ≡ v) × (i < j))
    → (nat_lt w v || (nat_eq v w && nat_lt j i)) ≡ false
tests_no v w i j (inl h) = grind (arith, nat_tests)
tests_no v w i j (inr h) = let a = h.0 in let b = h.1 in grind (arith, nat_tests)

test_itself : (w i : ℕ) → (nat_lt w w || (nat_eq w w && nat_lt i i)) ≡ false
test_itself w i = grind (arith, nat_tests)

and_false : (b : Bool) → (b && false) ≡ false
and_false true = refl
and_false false = refl

before_is : (x y : Entry) → Stands x y → comes_before x y ≡ is_alike x y
before_is x y s = at (is_alike x y) refl
  where
    at : (b : Bool) → is_alike x y ≡ b
        → (b && (nat_lt y.weight x.weight || (nat_eq x.weight y.weight && nat_lt x.doc y.doc))) ≡ b
    at true a = tests_yes y.weight x.weight x.doc y.doc (heavier_or_earlier x y s a)
    at false a = refl

not_before : (x y : Entry) → Stands x y → comes_before y x ≡ false
not_before x y s = at (is_alike y x) refl
  where
    at : (b : Bool) → is_alike y x ≡ b
        → (b && (nat_lt x.weight y.weight || (nat_eq y.weight x.weight && nat_lt y.doc x.doc)))
        ≡ false
    at true a =
        tests_no y.weight x.weight x.doc y.doc (heavier_or_earlier x y s (alike_turn y x a))
    at false a = refl

not_itself : (x : Entry) → comes_before x x ≡ false
not_itself x = ap (λ b. is_alike x x && b) (test_itself x.weight x.doc) ∙ and_false (is_alike x x)

-- how many of a list come before f
abbrev one : Bool → ℕ
one b = cond b 1 0

abbrev earlier : Entry → List Entry → ℕ
earlier f [] = 0
earlier f (x ∷ xs) = one (comes_before x f) + earlier f xs

none_later : (f : Entry) (ys : List Entry) → AllByRecursion (λ y. Stands f y) ys
    → earlier f ys ≡ 0
none_later f [] a = refl
none_later f (y ∷ ys) a =
    let here : one (comes_before y f) ≡ 0 = ap one (not_before f y a.0) in
    let there = none_later f ys a.1 in
    omega (arith, here, there)

none_from : (f : Entry) (ys : List Entry) → AllByRecursion (λ y. Stands f y) ys
    → earlier f (f ∷ ys) ≡ 0
none_from f ys a =
    let here : one (comes_before f f) ≡ 0 = ap one (not_itself f) in
    let there = none_later f ys a in
    omega (arith, here, there)

alike_same : (x e f : Entry) → is_alike e f ≡ true → is_alike x f ≡ is_alike x e
alike_same x e f a = at (is_alike x f) (is_alike x e) refl refl
  where
    at : (b c : Bool) → is_alike x f ≡ b → is_alike x e ≡ c → b ≡ c
    at true true h k = refl
    at false false h k = refl
    at true false h k = clash (sym (alike_chain x f e h (alike_turn e f a)) ∙ k)
    at false true h k = clash (sym (alike_chain x e f k a) ∙ h)

same_earlier : (e f : Entry) (xs : List Entry) → is_alike e f ≡ true
    → AllByRecursion (λ x. Stands x e) xs → AllByRecursion (λ x. Stands x f) xs
    → earlier f xs ≡ earlier e xs
same_earlier e f [] a p q = refl
same_earlier e f (x ∷ xs) a p q =
    let here : one (comes_before x f) ≡ one (comes_before x e) =
    ap one (before_is x f q.0 ∙ alike_same x e f a ∙ sym (before_is x e p.0)) in
    let there = same_earlier e f xs a p.1 q.1 in
    omega (arith, here, there)

not_alike : (x e f : Entry) → is_alike e f ≡ false → Stands x e → Stands e f
    → is_alike x f ≡ false
not_alike x e f h p q = at (is_alike x f) refl
  where
    at : (b : Bool) → is_alike x f ≡ b → b ≡ false
    at true a = clash (sym (alike_between x e f p.0 q.0 a) ∙ h)
    at false a = refl

none_earlier : (e f : Entry) (xs : List Entry) → is_alike e f ≡ false → Stands e f
    → AllByRecursion (λ x. Stands x e) xs → AllByRecursion (λ x. Stands x f) xs
    → earlier f xs ≡ 0
none_earlier e f [] a s p q = refl
none_earlier e f (x ∷ xs) a s p q =
    let here : one (comes_before x f) ≡ 0 =
    ap one (before_is x f q.0 ∙ not_alike x e f a p.0 s) in
    let there = none_earlier e f xs a s p.1 q.1 in
    omega (arith, here, there)

-- the number of the next
next_number : (e f : Entry) (before : List Entry) (m : ℕ)
    → AllByRecursion (λ x. Stands x e) before → m ≡ earlier e before
    → AllByRecursion (λ x. Stands x f) (e ∷ before)
    → number_after (Some (e, m)) f ≡ earlier f (e ∷ before)
next_number e f before m p is q = at (is_alike e f) refl
  where
    at : (b : Bool) → is_alike e f ≡ b
        → cond b (m + 1) 0 ≡ one (comes_before e f) + earlier f before
    at true a =
        let here : one (comes_before e f) ≡ 1 = ap one (before_is e f q.0 ∙ a) in
        let there = same_earlier e f before a p q.1 in
        omega (arith, here, there, is)
    at false a =
        let here : one (comes_before e f) ≡ 0 = ap one (before_is e f q.0 ∙ a) in
        let there = none_earlier e f before a q.0 p q.1 in
        omega (arith, here, there)

-- each stands before those behind it
abbrev AllStand : List Entry → Type 0
AllStand [] = Unit {0}
AllStand (x ∷ xs) = AllByRecursion (λ y. Stands x y) xs × AllStand xs

joined : (x : Entry) (xs rest : List Entry)
    → AllByRecursion (λ f. AllByRecursion (λ y. Stands y f) xs) rest
    → AllByRecursion (λ f. Stands x f) rest
    → AllByRecursion (λ f. AllByRecursion (λ y. Stands y f) (x ∷ xs)) rest
joined x xs [] a b = tt
joined x xs (f ∷ rest) a b = ((b.0, a.0), joined x xs rest a.1 b.1)

alone : (x : Entry) (rest : List Entry) → AllByRecursion (λ f. Stands x f) rest
    → AllByRecursion (λ f. AllByRecursion (λ y. Stands y f) (x ∷ [])) rest
alone x [] b = tt
alone x (f ∷ rest) b = ((b.0, tt), alone x rest b.1)

numbers_after : (all before : List Entry) (e : Entry) (m : ℕ) (rest : List Entry)
    → AllByRecursion (λ x. Stands x e) before → m ≡ earlier e before
    → AllByRecursion (λ f. AllByRecursion (λ x. Stands x f) (e ∷ before)) rest → AllStand rest
    → ((g : Entry) → earlier g all ≡ earlier g (e ∷ before) + earlier g rest)
    → AllByRecursion (λ p. p.n ≡ earlier p.entry all) (numbered (Some (e, m)) rest)
numbers_after all before e m [] p is later pairs sums = tt
numbers_after all before e m (f ∷ rest) p is later pairs sums =
    let n = number_after (Some (e, m)) f in
    let value : n ≡ earlier f (e ∷ before) = next_number e f before m p is later.0 in
    let split = sums f in
    let none = none_from f rest pairs.0 in
    let whole : n ≡ earlier f all = omega (arith, value, split, none) in (
      whole,
      numbers_after all (e ∷ before) f n rest later.0 value
          (joined f (e ∷ before) rest later.1 pairs.0) pairs.1
          (λ g. let h = sums g in omega (arith, h)),
    )

numbers_all : (es : List Entry) → AllStand es
    → AllByRecursion (λ p. p.n ≡ earlier p.entry es) (numbered None es)
numbers_all [] pairs = tt
numbers_all (e ∷ es) pairs = (
  sym (none_from e es pairs.0),
  numbers_after (e ∷ es) [] e 0 es tt refl (alone e es pairs.0) pairs.1 (λ g. omega arith),
)

-- entries in order
stand_from : (xs : List Entry) → Rises entry_cmp entry_cmp_total entry_cmp_exact xs
    → Pairs Differ xs → AllStand xs
stand_from [] r p = tt
stand_from (x ∷ xs) r p = (
  all_of (λ y. Stands x y) xs
      (λ y i. (each_in (λ z. is_lt (entry_cmp z x) ≡ false) y xs r.0 i, p.0 y i)),
  stand_from xs r.1 p.1,
)

earlier_total : (f : Entry) (xs : List Entry) → earlier f xs
    ≡ total_of entry_cmp entry_cmp_total entry_cmp_exact (λ x. one (comes_before x f)) xs
earlier_total f [] = refl
earlier_total f (x ∷ xs) = ap (λ n. one (comes_before x f) + n) (earlier_total f xs)

earlier-in_order : (f : Entry) (xs : List Entry)
    → earlier f (in_order entry_cmp xs) ≡ earlier f xs
earlier-in_order f xs =
    earlier_total f (in_order entry_cmp xs)
    ∙ total_of-in_order entry_cmp entry_cmp_total entry_cmp_exact (λ x. one (comes_before x f)) xs
    ∙ sym (earlier_total f xs)

count-earlier : (f : Entry) (xs : List Entry) → count_by (λ e. comes_before e f) xs ≡ earlier f xs
count-earlier f [] = refl
count-earlier f (x ∷ xs) =
    sum_by-cons (λ (e : Entry). one (comes_before e f)) x xs
    ∙ ap (λ n. one (comes_before x f) + n) (count-earlier f xs)

counted : (es all : List Entry) (ps : List FullPath)
    → ((f : Entry) → earlier f es ≡ count_by (λ e. comes_before e f) all)
    → AllByRecursion (λ p. p.n ≡ earlier p.entry es) ps
    → AllByRecursion (λ p. p.n ≡ count_by (λ e. comes_before e p.entry) all) ps
counted es all [] h a = tt
counted es all (p ∷ ps) h a = (a.0 ∙ h p.entry, counted es all ps h a.1)

pub numbers_count : NumbersCountEarlierEntries
numbers_count docs =
    let es = path_entries 0 docs in
    let sorted = in_order entry_cmp es in
    All-from_recursion (λ (p : FullPath). p.n ≡ count_by (λ e. comes_before e p.entry) es)
    (all_paths docs)
    (counted sorted es (all_paths docs)
    (λ f. earlier-in_order f es ∙ sym (count-earlier f es))
    (numbers_all sorted
    (stand_from sorted (rises-in_order entry_cmp entry_cmp_total entry_cmp_exact es)
    (all_apart docs))))
