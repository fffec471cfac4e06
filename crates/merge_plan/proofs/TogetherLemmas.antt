-- What the first ten of a level have together, as one pass over all sizes adds it up.
use Rattle.std.proofs.Common.{◌≡◌, ◌<◌, ◌+◌, ◌-◌, ◌&&◌, ℕ, zero, suc, Bool, true, false, nat_lt}
use Rattle.std.proofs.Common.{List, [], ◌∷◌, length, take, drop, get_or, refl, sym, ap, ◌∙◌, arith}
use Rattle.std.specs.Prelude.{filter, sum_by}
use Rattle.std.proofs.lemmas.Bool.{ltb-true}
use Rattle.std.proofs.lemmas.Bool.Decides.{nat_tests}
use Rattle.std.proofs.lemmas.List.Sums.{sum_by-cons}
use Rattle.merge_plan.specs.declared.size.Size.{Size}
use Rattle.merge_plan.specs.Levels.{first_of_level, is_of, LeavesRoom}

take-one : (free : ℕ) (s : Size) (ss : List Size) → 0 < free
    → take free (s ∷ ss) ≡ s ∷ take (free - 1) ss
take-one zero s ss some = absurd (omega arith)
take-one (suc n) s ss some = let e : suc n - 1 ≡ n = omega arith in rw e refl

taken : (p : Size → Bool) (free : ℕ) (s : Size) (ss : List Size) → 0 < free → p s ≡ true
    → take free (filter p (s ∷ ss)) ≡ s ∷ take (free - 1) (filter p ss)
taken p free s ss some is = rw is (take-one free s (filter p ss) some)

passed : (p : Size → Bool) (free : ℕ) (s : Size) (ss : List Size)
    → (nat_lt 0 free && p s) ≡ false → take free (filter p (s ∷ ss)) ≡ take free (filter p ss)
passed p zero s ss is = refl
passed p (suc n) s ss is =
    let some : nat_lt 0 (suc n) ≡ true = grind (arith, nat_tests) in
    let other : p s ≡ false = sym (ap (λ b. b && p s) some) ∙ is in
    rw other refl

both : (a b : Bool) → (a && b) ≡ true → (a ≡ true) × (b ≡ true)
both true b is = (refl, is)
both false b is = absurd cc

drop_at : (sizes : List Size) (i : ℕ) (d : Size) → i < length sizes
    → drop i sizes ≡ get_or sizes i d ∷ drop (i + 1) sizes
drop_at [] i d within = absurd (omega arith)
drop_at (s ∷ ss) zero d within = refl
drop_at (s ∷ ss) (suc i) d within =
    let e : suc i + 1 ≡ suc (i + 1) = omega arith in
    rw e (drop_at ss i d (omega (arith, within)))

-- those so far are together what they are, and those to come are the rest of the first ten
pub record Going (level : ℕ) (sizes rest : List Size) (free documents paths : ℕ) : Type 0 where
  pub count : free + length (first_of_level level sizes)
      ≡ 10 + length (take free (filter (is_of level) rest))
  pub all_documents : documents + sum_by (λ s. s.documents) (take free (filter (is_of level) rest))
      ≡ sum_by (λ s. s.documents) (first_of_level level sizes)
  pub all_paths : paths + sum_by (λ s. s.paths) (take free (filter (is_of level) rest))
      ≡ sum_by (λ s. s.paths) (first_of_level level sizes)
  pub few_documents : LeavesRoom free documents
  pub few_paths : LeavesRoom free paths

-- one more joins them
pub going-taken : {level : ℕ} {sizes : List Size} {i free documents paths : ℕ} (d : Size)
    (free' documents' paths' : ℕ)
    → Going level sizes (drop i sizes) free documents paths → i < length sizes
    → (nat_lt 0 free && is_of level (get_or sizes i d)) ≡ true → free' + 1 ≡ free
    → documents' ≡ documents + (get_or sizes i d).documents
    → paths' ≡ paths + (get_or sizes i d).paths
    → LeavesRoom free' documents' × LeavesRoom free' paths'
    → Going level sizes (drop (i + 1) sizes) free' documents' paths'
going-taken {level = level} {sizes = sizes} {i = i} {free = free} d free' documents' paths' g within
    is less more_documents more_paths room =
    let s : Size = get_or sizes i d in
    let later : List Size = filter (is_of level) (drop (i + 1) sizes) in
    let tests = both (nat_lt 0 free) (is_of level s) is in
    let some : 0 < free = ltb-true 0 free tests.0 in
    let same : free - 1 ≡ free' = omega (arith, less) in
    let all : take free (filter (is_of level) (drop i sizes)) ≡ s ∷ take free' later =
    ap (λ ss. take free (filter (is_of level) ss)) (drop_at sizes i d within)
    ∙ taken (is_of level) free s (drop (i + 1) sizes) some tests.1
    ∙ ap (λ n. s ∷ take n later) same in
    let n : length (take free (filter (is_of level) (drop i sizes)))
    ≡ length (s ∷ take free' later) =
    ap length all in
    let ds : sum_by (λ z. z.documents) (take free (filter (is_of level) (drop i sizes)))
    ≡ s.documents + sum_by (λ z. z.documents) (take free' later) =
    ap (λ ss. sum_by (λ (z : Size). z.documents) ss) all
    ∙ sum_by-cons (λ (z : Size). z.documents) s (take free' later) in
    let ps : sum_by (λ z. z.paths) (take free (filter (is_of level) (drop i sizes)))
    ≡ s.paths + sum_by (λ z. z.paths) (take free' later) =
    ap (λ ss. sum_by (λ (z : Size). z.paths) ss) all
    ∙ sum_by-cons (λ (z : Size). z.paths) s (take free' later) in
    record {
      count = omega (arith, g.count, n, less);
      all_documents = omega (arith, g.all_documents, ds, more_documents);
      all_paths = omega (arith, g.all_paths, ps, more_paths);
      few_documents = room.0;
      few_paths = room.1;
    }

-- or doesn't
pub going-passed : {level : ℕ} {sizes : List Size} {i free documents paths : ℕ} (d : Size)
    → Going level sizes (drop i sizes) free documents paths → i < length sizes
    → (nat_lt 0 free && is_of level (get_or sizes i d)) ≡ false
    → Going level sizes (drop (i + 1) sizes) free documents paths
going-passed {level = level} {sizes = sizes} {i = i} {free = free} d g within other =
    let s = get_or sizes i d in
    let all : take free (filter (is_of level) (drop i sizes))
    ≡ take free (filter (is_of level) (drop (i + 1) sizes)) =
    ap (λ ss. take free (filter (is_of level) ss)) (drop_at sizes i d within)
    ∙ passed (is_of level) free s (drop (i + 1) sizes) other in
    let n = ap length all in
    let ds = ap (λ ss. sum_by (λ (z : Size). z.documents) ss) all in
    let ps = ap (λ ss. sum_by (λ (z : Size). z.paths) ss) all in
    record {
      count = omega (arith, g.count, n);
      all_documents = omega (arith, g.all_documents, ds);
      all_paths = omega (arith, g.all_paths, ps);
      few_documents = g.few_documents;
      few_paths = g.few_paths;
    }
