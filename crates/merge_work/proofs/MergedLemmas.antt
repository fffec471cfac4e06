-- Two lists by number, merged, are both in order.
use Rattle.std.proofs.Common.{◌≡◌, ◌≤◌, ◌<◌, ℕ, zero, suc, Bool, true, false, cond, List, []}
use Rattle.std.proofs.Common.{◌∷◌, ◌++◌, ◌-◌, take, drop, length, get_or, refl, sym, ap, ◌∙◌, arith}
use Rattle.std.specs.Prelude.{nat_lt}
use Rattle.std.specs.List.{flat_map}
use Rattle.std.specs.Ordering.{is_lt, nat_cmp}
use Rattle.std.proofs.lemmas.Bool.Decides.{nat_tests}
use Rattle.sg_base.specs.Ranking.{put_in, in_order}
use Rattle.sg_paths.specs.Operations.{PlainNumbered}
use Rattle.segment.specs.Pieces.{PlainPiece}
use Rattle.segment.specs.Represents.{RiseFrom, NumbersRise}
use Rattle.merge_work.specs.Merging.{document_cmp}
use Rattle.merge_work.specs.Working.{count_below, merged, live_of}

-- the numbers rise, or stay, from one on
abbrev pub RisesFrom : ℕ → List PlainNumbered → Type 0
RisesFrom n [] = Unit {0}
RisesFrom n (d ∷ ds) = (n ≤ d.seq) × RisesFrom d.seq ds

-- ---- tests

is_below : (m n : ℕ) → m < n → is_lt (nat_cmp m n) ≡ true
is_below m n less = grind (arith, nat_tests)

not_below : (m n : ℕ) → n ≤ m → is_lt (nat_cmp m n) ≡ false
not_below m n less = grind (arith, nat_tests)

below_from : (m n : ℕ) → is_lt (nat_cmp m n) ≡ true → m ≤ n
below_from m n is = grind (arith, nat_tests)

not_below_from : (m n : ℕ) → is_lt (nat_cmp m n) ≡ false → n ≤ m
not_below_from m n is = grind (arith, nat_tests)

-- ---- rising lists

rises_less : (m n : ℕ) (ds : List PlainNumbered) → m ≤ n → RisesFrom n ds → RisesFrom m ds
rises_less m n [] less up = tt
rises_less m n (d ∷ ds) less up = (omega (arith, less, up.0), up.1)

rises-drop : (n k : ℕ) (ds : List PlainNumbered) → RisesFrom n ds → RisesFrom n (drop k ds)
rises-drop n zero ds up = up
rises-drop n (suc k) [] up = up
rises-drop n (suc k) (d ∷ ds) up = rises-drop n k ds (rises_less n d.seq ds up.0 up.1)

rises-put_at : (n : ℕ) (x z : PlainNumbered) (zs : List PlainNumbered) (b : Bool)
    → is_lt (nat_cmp z.seq x.seq) ≡ b → n ≤ x.seq → n ≤ z.seq → RisesFrom z.seq zs
    → (z.seq ≤ x.seq → RisesFrom z.seq (put_in document_cmp x zs))
    → RisesFrom n (cond b (z ∷ put_in document_cmp x zs) (x ∷ (z ∷ zs)))
rises-put_at n x z zs true is nx nz up again = (nz, again (below_from z.seq x.seq is))
rises-put_at n x z zs false is nx nz up again = (nx, (not_below_from z.seq x.seq is, up))

rises-put_in : (n : ℕ) (x : PlainNumbered) (zs : List PlainNumbered) → n ≤ x.seq → RisesFrom n zs
    → RisesFrom n (put_in document_cmp x zs)
rises-put_in n x [] nx up = (nx, tt)
rises-put_in n x (z ∷ zs) nx up =
    rises-put_at n x z zs (is_lt (nat_cmp z.seq x.seq)) refl nx up.0 up.1
    (λ less. rises-put_in z.seq x zs less up.1)

pub rises-in_order : (ds : List PlainNumbered) → RisesFrom 0 (in_order document_cmp ds)
rises-in_order [] = tt
rises-in_order (d ∷ ds) =
    rises-put_in 0 d (in_order document_cmp ds) (omega arith) (rises-in_order ds)

-- ---- documents put in, one after the other

abbrev puts : List PlainNumbered → List PlainNumbered → List PlainNumbered
puts [] zs = zs
puts (d ∷ ds) zs = put_in document_cmp d (puts ds zs)

in_order-puts : (ds xs : List PlainNumbered)
    → in_order document_cmp (ds ++ xs) ≡ puts ds (in_order document_cmp xs)
in_order-puts [] xs = refl
in_order-puts (d ∷ ds) xs = ap (put_in document_cmp d) (in_order-puts ds xs)

rises-puts : (n : ℕ) (ds zs : List PlainNumbered) → RisesFrom n ds → RisesFrom n zs
    → RisesFrom n (puts ds zs)
rises-puts n [] zs up more = more
rises-puts n (d ∷ ds) zs up more =
    rises-put_in n d (puts ds zs) up.0
    (rises-puts n ds zs (rises_less n d.seq ds up.0 up.1) more)

-- one below all of them stays in front
puts_behind : (n : ℕ) (ds zs : List PlainNumbered) (z : PlainNumbered) → z.seq < n → RisesFrom n ds
    → puts ds (z ∷ zs) ≡ z ∷ puts ds zs
puts_behind n [] zs z less up = refl
puts_behind n (d ∷ ds) zs z less up =
    let below : z.seq < d.seq = omega (arith, less, up.0) in
    let test = is_below z.seq d.seq below in
    ap (put_in document_cmp d) (puts_behind d.seq ds zs z below up.1) ∙ rw test refl

-- one that none is below comes first
in_front : (d : PlainNumbered) (zs : List PlainNumbered) → RisesFrom d.seq zs
    → put_in document_cmp d zs ≡ d ∷ zs
in_front d [] up = refl
in_front d (z ∷ zs) up = let test = not_below z.seq d.seq up.0 in rw test refl

-- ---- two lists

-- behind those of the later list with lesser numbers
put_between : (d : PlainNumbered) (ds later : List PlainNumbered) (n : ℕ) → RisesFrom d.seq ds
    → RisesFrom n later
    → put_in document_cmp d (puts ds later)
    ≡ take (count_below d.seq later) later ++ d ∷ puts ds (drop (count_below d.seq later) later)
put_between d ds [] n up more = in_front d (puts ds []) (rises-puts d.seq ds [] up tt)
put_between d ds (z ∷ zs) n up more =
    by_test (nat_lt z.seq d.seq) refl (put_between d ds zs z.seq up more.1)
  where
    by_test : (b : Bool) → nat_lt z.seq d.seq ≡ b
        → put_in document_cmp d (puts ds zs)
        ≡ take (count_below d.seq zs) zs ++ d ∷ puts ds (drop (count_below d.seq zs) zs)
        → put_in document_cmp d (puts ds (z ∷ zs))
        ≡ take (cond b (suc (count_below d.seq zs)) 0) (z ∷ zs)
        ++ d ∷ puts ds (drop (cond b (suc (count_below d.seq zs)) 0) (z ∷ zs))
    by_test true is again =
        let less : z.seq < d.seq = grind (arith, nat_tests) in
        let test = is_below z.seq d.seq less in
        ap (put_in document_cmp d) (puts_behind d.seq ds zs z less up)
        ∙ rw test (ap (λ (xs : List PlainNumbered). z ∷ xs) again)
    by_test false is again =
        let less : d.seq ≤ z.seq = grind (arith, nat_tests) in
        in_front d (puts ds (z ∷ zs)) (rises-puts d.seq ds (z ∷ zs) up (less, more.1))

merged-puts : (m n : ℕ) (ds later : List PlainNumbered) → RisesFrom m ds → RisesFrom n later
    → merged ds later ≡ puts ds later
merged-puts m n [] later up more = refl
merged-puts m n (d ∷ ds) later up more =
    let k = count_below d.seq later in
    ap (λ (zs : List PlainNumbered). take k later ++ d ∷ zs)
    (merged-puts d.seq n ds (drop k later) up.1 (rises-drop n k later more))
    ∙ sym (put_between d ds later n up.1 more)

weakly : (n : ℕ) (ds : List PlainNumbered) → RiseFrom n ds → RisesFrom n ds
weakly n [] up = tt
weakly n (d ∷ ds) up = (omega (arith, up.0), weakly d.seq ds up.1)

-- one source more
pub merged_more : (ds xs : List PlainNumbered) → NumbersRise ds
    → merged ds (in_order document_cmp xs) ≡ in_order document_cmp (ds ++ xs)
merged_more [] xs up = refl
merged_more (d ∷ ds) xs up =
    merged-puts 0 0 (d ∷ ds) (in_order document_cmp xs) (omega arith, weakly d.seq ds up)
    (rises-in_order xs)
    ∙ sym (in_order-puts (d ∷ ds) xs)

-- ---- live documents rise

rise_less : (m n : ℕ) (ds : List PlainNumbered) → m ≤ n → RiseFrom n ds → RiseFrom m ds
rise_less m n [] less up = tt
rise_less m n (d ∷ ds) less up = (omega (arith, less, up.0), up.1)

rise-live_of : (n : ℕ) (ds : List PlainNumbered) (ms : List Bool) → RiseFrom n ds
    → RiseFrom n (live_of ds ms)
rise-live_of n [] ms up = tt
rise-live_of n (d ∷ ds) [] up = tt
rise-live_of n (d ∷ ds) (true ∷ ms) up = (up.0, rise-live_of d.seq ds ms up.1)
rise-live_of n (d ∷ ds) (false ∷ ms) up =
    rise_less n d.seq (live_of ds ms) (omega (arith, up.0)) (rise-live_of d.seq ds ms up.1)

rise_of : (n : ℕ) (ds : List PlainNumbered) → RiseFrom n ds → NumbersRise ds
rise_of n [] up = tt
rise_of n (d ∷ ds) up = up.1

pub numbers_rise-live_of : (ds : List PlainNumbered) (ms : List Bool) → NumbersRise ds
    → NumbersRise (live_of ds ms)
numbers_rise-live_of [] ms up = tt
numbers_rise-live_of (d ∷ ds) [] up = tt
numbers_rise-live_of (d ∷ ds) (true ∷ ms) up = rise-live_of d.seq ds ms up
numbers_rise-live_of (d ∷ ds) (false ∷ ms) up =
    rise_of d.seq (live_of ds ms) (rise-live_of d.seq ds ms up)

drop_at : (ps : List PlainPiece) (n : ℕ) (p : PlainPiece) → n < length ps → p ≡ get_or ps n p
    → drop n ps ≡ p ∷ drop (suc n) ps
drop_at [] n p less is = absurd (omega (arith, less))
drop_at (x ∷ ps) zero p less is = ap (λ (q : PlainPiece). q ∷ ps) (sym is)
drop_at (x ∷ ps) (suc n) p less is = drop_at ps n p (omega (arith, less)) is

-- one source more, in front of those that are merged
pub source_more : (kept : PlainPiece → List PlainNumbered) (ps : List PlainPiece) (at : ℕ)
    (p : PlainPiece) → 0 < at → at ≤ length ps → p ≡ get_or ps (at - 1) p → NumbersRise (kept p)
    → merged (kept p) (in_order document_cmp (flat_map kept (drop at ps)))
    ≡ in_order document_cmp (flat_map kept (drop (at - 1) ps))
source_more kept ps at p some within is up =
    let next : at ≡ suc (at - 1) = omega (arith, some) in
    let split : drop (at - 1) ps ≡ p ∷ drop at ps =
    drop_at ps (at - 1) p (omega (arith, some, within)) is
    ∙ ap (λ (n : ℕ). p ∷ drop n ps) (sym next) in
    merged_more (kept p) (flat_map kept (drop at ps)) up
    ∙ ap (λ (qs : List PlainPiece). in_order document_cmp (flat_map kept qs)) (sym split)
