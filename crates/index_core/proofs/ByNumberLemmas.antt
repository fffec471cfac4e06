-- Filters of one rising list, put together in order: the documents that a merge keeps.
use Rattle.std.proofs.Common.{◌≡◌, ◌<◌, ◌+◌, ℕ, Bool, true, false, cond, not, nat_eq}
use Rattle.std.proofs.Common.{◌&&◌, ◌||◌, List, [], ◌∷◌, ◌++◌, refl, ap, ◌∙◌, arith, Ordering}
use Rattle.std.specs.Prelude.{filter}
use Rattle.std.specs.Ordering.{is_lt, nat_cmp}
use Rattle.std.specs.List.{AllByRecursion, flat_map, list_any}
use Rattle.std.specs.Cmp.{IsStrictWeakOrder, nat_cmp_total}
use Rattle.std.proofs.lemmas.Bool.Decides.{nat_tests}
use Rattle.std.proofs.lemmas.List.Sorted.{ranks_by}
use Rattle.std.proofs.lemmas.List.Elements.{filter-append, filter_agree}
use Rattle.sg_base.specs.Ranking.{put_in, in_order}
use Rattle.sg_paths.specs.Operations.{PlainOp, adds, updates, deletes, PlainNumbered}
use Rattle.sg_paths.specs.Operations.{documents_from}
use Rattle.sg_paths.specs.LiveDocuments.{is_deleted}
use Rattle.index_core.specs.Histories.{Record, is_among}
use Rattle.index_core.specs.Generations.{is_kept_by, holders_of, documents_of}
use Rattle.index_core.specs.EndedMerges.{document_cmp, OneHolds, MergedByNumber}

module _ {X : Type 0} (R : X → X → Ordering)
    (one_way : (x y : X) → is_lt (R x y) ≡ true → is_lt (R y x) ≡ false) where
  -- each below all later ones
  abbrev Climbs : List X → Type 0
  Climbs [] = Unit {0}
  Climbs (x ∷ xs) = AllByRecursion (λ y. is_lt (R x y) ≡ true) xs × Climbs xs

  -- items put in, one after the other
  abbrev puts : List X → List X → List X
  puts [] zs = zs
  puts (y ∷ ys) zs = put_in R y (puts ys zs)

  in_order-puts : (ys xs : List X) → in_order R (ys ++ xs) ≡ puts ys (in_order R xs)
  in_order-puts [] xs = refl
  in_order-puts (y ∷ ys) xs = ap (put_in R y) (in_order-puts ys xs)

  puts_behind : (ys zs : List X) (b : X) → AllByRecursion (λ y. is_lt (R b y) ≡ true) ys
      → puts ys (b ∷ zs) ≡ b ∷ puts ys zs
  puts_behind [] zs b less = refl
  puts_behind (y ∷ ys) zs b less = ap (put_in R y) (puts_behind ys zs b less.1) ∙ rw less.0 refl

  in_front : (b : X) (zs : List X) → AllByRecursion (λ z. is_lt (R b z) ≡ true) zs
      → put_in R b zs ≡ b ∷ zs
  in_front b [] less = refl
  in_front b (z ∷ zs) less =
      let no : is_lt (R z b) ≡ false = one_way b z less.0 in rw no refl

  all_filter : (P : X → Type 0) (p : X → Bool) (xs : List X) → AllByRecursion P xs
      → AllByRecursion P (filter p xs)
  all_filter P p [] all = tt
  all_filter P p (x ∷ xs) all = by_test (p x) all.0 (all_filter P p xs all.1)
    where
      by_test : (b : Bool) → P x → AllByRecursion P (filter p xs)
          → AllByRecursion P (cond b (x ∷ filter p xs) (filter p xs))
      by_test true here later = (here, later)
      by_test false here later = later

  -- two filters that share no item
  both : (p q : X → Bool) (bs : List X) → Climbs bs
      → AllByRecursion (λ x. p x ≡ true → q x ≡ false) bs
      → puts (filter p bs) (filter q bs) ≡ filter (λ x. p x || q x) bs
  both p q [] up apart = refl
  both p q (b ∷ bs) up apart =
      by_tests (p b) (q b) refl refl (both p q bs up.1 apart.1)
      (all_filter (λ y. is_lt (R b y) ≡ true) p bs up.0)
      (all_filter (λ y. is_lt (R b y) ≡ true) (λ x. p x || q x) bs up.0)
    where
      by_tests : (c d : Bool) → p b ≡ c → q b ≡ d
          → puts (filter p bs) (filter q bs) ≡ filter (λ x. p x || q x) bs
          → AllByRecursion (λ y. is_lt (R b y) ≡ true) (filter p bs)
          → AllByRecursion (λ y. is_lt (R b y) ≡ true) (filter (λ x. p x || q x) bs)
          → puts (cond c (b ∷ filter p bs) (filter p bs)) (cond d (b ∷ filter q bs) (filter q bs))
          ≡ cond (c || d) (b ∷ filter (λ x. p x || q x) bs) (filter (λ x. p x || q x) bs)
      by_tests true true pb qb e less more =
          let no : q b ≡ false = apart.0 pb in cc
      by_tests true false pb qb e less more =
          ap (put_in R b) e ∙ in_front b (filter (λ x. p x || q x) bs) more
      by_tests false true pb qb e less more =
          puts_behind (filter p bs) (filter q bs) b less ∙ ap (λ (zs : List X). b ∷ zs) e
      by_tests false false pb qb e less more = e

  -- one at most of the tests is passed
  abbrev pub OnePasses : {G : Type 0} → (G → X → Bool) → X → List G → Type 0
  OnePasses p x [] = Unit {0}
  OnePasses p x (g ∷ gs) = (p g x ≡ true → list_any (λ h. p h x) gs ≡ false) × OnePasses p x gs

  apart_first : {G : Type 0} (p : G → X → Bool) (g : G) (gs : List G) (bs : List X)
      → AllByRecursion (λ x. OnePasses p x (g ∷ gs)) bs
      → AllByRecursion (λ x. p g x ≡ true → list_any (λ h. p h x) gs ≡ false) bs
  apart_first p g gs [] all = tt
  apart_first p g gs (b ∷ bs) all = (all.0.0, apart_first p g gs bs all.1)

  apart_later : {G : Type 0} (p : G → X → Bool) (g : G) (gs : List G) (bs : List X)
      → AllByRecursion (λ x. OnePasses p x (g ∷ gs)) bs
      → AllByRecursion (λ x. OnePasses p x gs) bs
  apart_later p g gs [] all = tt
  apart_later p g gs (b ∷ bs) all = (all.0.1, apart_later p g gs bs all.1)

  none_pass : (bs : List X) → [] ≡ filter (λ _. false) bs
  none_pass [] = refl
  none_pass (b ∷ bs) = none_pass bs

  pub put_together : {G : Type 0} (p : G → X → Bool) (gs : List G) (bs : List X) → Climbs bs
      → AllByRecursion (λ x. OnePasses p x gs) bs
      → in_order R (flat_map (λ g. filter (p g) bs) gs)
      ≡ filter (λ x. list_any (λ g. p g x) gs) bs
  put_together p [] bs up all = none_pass bs
  put_together p (g ∷ gs) bs up all =
      in_order-puts (filter (p g) bs) (flat_map (λ h. filter (p h) bs) gs)
      ∙ ap (puts (filter (p g) bs)) (put_together p gs bs up (apart_later p g gs bs all))
      ∙ both (p g) (λ x. list_any (λ h. p h x) gs) bs up (apart_first p g gs bs all)

-- ---- documents

by_number : IsStrictWeakOrder (λ x y. is_lt (document_cmp x y))
by_number = ranks_by nat_cmp_total (λ (d : PlainNumbered). d.seq)

less_number : (m n : ℕ) → m < n → is_lt (nat_cmp m n) ≡ true
less_number m n less = grind (arith, nat_tests)

over : (k n : ℕ) (ops : List PlainOp) → k < n
    → AllByRecursion (λ (d : PlainNumbered). is_lt (nat_cmp k d.seq) ≡ true)
    (documents_from n ops)
over k n [] less = tt
over k n (adds d ∷ ops) less = (less_number k n less, over k (n + 1) ops (omega (arith, less)))
over k n (updates d ∷ ops) less = (less_number k n less, over k (n + 1) ops (omega (arith, less)))
over k n (deletes id ∷ ops) less = over k (n + 1) ops (omega (arith, less))

climb : (n : ℕ) (ops : List PlainOp) → Climbs document_cmp by_number.one_way (documents_from n ops)
climb n [] = tt
climb n (adds d ∷ ops) = (over n (n + 1) ops (omega arith), climb (n + 1) ops)
climb n (updates d ∷ ops) = (over n (n + 1) ops (omega arith), climb (n + 1) ops)
climb n (deletes id ∷ ops) = climb (n + 1) ops

-- ---- the documents of a merge

flipped : (a b : ℕ) → nat_eq a b ≡ nat_eq b a
flipped a b = by_cases (nat_eq a b) (nat_eq b a) refl refl
  where
    by_cases : (c d : Bool) → nat_eq a b ≡ c → nat_eq b a ≡ d → c ≡ d
    by_cases true true p q = refl
    by_cases false false p q = refl
    by_cases true false p q = grind (arith, nat_tests)
    by_cases false true p q = grind (arith, nat_tests)

none_any : (xs : List ℕ) → list_any (λ g. is_among g []) xs ≡ false
none_any [] = refl
none_any (x ∷ xs) = none_any xs

one_any : (y : ℕ) (ys xs : List ℕ)
    → list_any (λ g. is_among g (y ∷ ys)) xs
    ≡ (is_among y xs || list_any (λ g. is_among g ys) xs)
one_any y ys [] = refl
one_any y ys (x ∷ xs) =
    ap (λ (b : Bool). (nat_eq x y || is_among x ys) || b) (one_any y ys xs)
    ∙ ap (λ (b : Bool). (b || is_among x ys)
    || (is_among y xs || list_any (λ g. is_among g ys) xs)) (flipped x y)
    ∙ mixed (nat_eq y x) (is_among x ys) (is_among y xs) (list_any (λ g. is_among g ys) xs)
  where
    mixed : (a b c d : Bool) → ((a || b) || (c || d)) ≡ ((a || c) || (b || d))
    mixed true b c d = refl
    mixed false true true d = refl
    mixed false true false d = refl
    mixed false false c d = refl

-- sharing a number is mutual
shared : (xs ys : List ℕ)
    → list_any (λ g. is_among g xs) ys ≡ list_any (λ g. is_among g ys) xs
shared [] ys = none_any ys
shared (x ∷ xs) ys = one_any x xs ys ∙ ap (λ (b : Bool). is_among x ys || b) (shared xs ys)

any_and : (t : ℕ → Bool) (c : Bool) (gs : List ℕ)
    → list_any (λ g. t g && c) gs ≡ (list_any t gs && c)
any_and t c [] = refl
any_and t c (g ∷ gs) = ap (λ (b : Bool). (t g && c) || b) (any_and t c gs)
    ∙ spread (t g) (list_any t gs) c
  where
    spread : (a b d : Bool) → ((a && d) || (b && d)) ≡ ((a || b) && d)
    spread true true true = refl
    spread true true false = refl
    spread true false true = refl
    spread true false false = refl
    spread false b d = refl

filter_twice : (p q : PlainNumbered → Bool) (ds : List PlainNumbered)
    → filter q (filter p ds) ≡ filter (λ d. p d && q d) ds
filter_twice p q [] = refl
filter_twice p q (d ∷ ds) = by_tests (p d) refl (filter_twice p q ds)
  where
    by_tests : (b : Bool) → p d ≡ b → filter q (filter p ds) ≡ filter (λ e. p e && q e) ds
        → filter q (cond b (d ∷ filter p ds) (filter p ds))
        ≡ cond (b && q d) (d ∷ filter (λ e. p e && q e) ds) (filter (λ e. p e && q e) ds)
    by_tests true is e = ap (λ (zs : List PlainNumbered). cond (q d) (d ∷ zs) zs) e
    by_tests false is e = e

filter_spread : (r : Record) (q : PlainNumbered → Bool) (gs : List ℕ)
    → filter q (flat_map (documents_of r) gs)
    ≡ flat_map (λ g. filter (λ d. is_among g (holders_of r d) && q d)
    (documents_from 1 r.journal)) gs
filter_spread r q [] = refl
filter_spread r q (g ∷ gs) =
    filter-append q (documents_of r g) (flat_map (documents_of r) gs)
    ∙ ap (λ (ds : List PlainNumbered). ds ++ filter q (flat_map (documents_of r) gs))
    (filter_twice (λ d. is_among g (holders_of r d)) q (documents_from 1 r.journal))
    ∙ ap (λ (ds : List PlainNumbered).
    filter (λ d. is_among g (holders_of r d) && q d) (documents_from 1 r.journal) ++ ds)
    (filter_spread r q gs)

one_passes : (r : Record) (q : PlainNumbered → Bool) (d : PlainNumbered) (gs : List ℕ)
    → OneHolds r d gs
    → OnePasses document_cmp by_number.one_way (λ g x. is_among g (holders_of r x) && q x) d gs
one_passes r q d [] one = tt
one_passes r q d (g ∷ gs) one = (
  λ is. any_and (λ h. is_among h (holders_of r d)) (q d) gs
      ∙ none (list_any (λ h. is_among h (holders_of r d)) gs) (q d)
      (one.0 (first (is_among g (holders_of r d)) (q d) is)),
  one_passes r q d gs one.1,
)
  where
    first : (a b : Bool) → (a && b) ≡ true → a ≡ true
    first true b h = refl
    first false b h = h

    none : (a b : Bool) → a ≡ false → (a && b) ≡ false
    none true b h = let no : true ≡ false = h in cc
    none false b h = refl

one_passes_all : (r : Record) (q : PlainNumbered → Bool) (gs : List ℕ)
    (ds : List PlainNumbered) → AllByRecursion (λ d. OneHolds r d gs) ds
    → AllByRecursion (λ d. OnePasses document_cmp by_number.one_way
    (λ g x. is_among g (holders_of r x) && q x) d gs) ds
one_passes_all r q gs [] all = tt
one_passes_all r q gs (d ∷ ds) all =
    (one_passes r q d gs all.0, one_passes_all r q gs ds all.1)

pub by_numbers : MergedByNumber
by_numbers r m one =
    let q : PlainNumbered → Bool = λ d. not (is_deleted r.journal m.upto d) in
    let docs = documents_from 1 r.journal in
    ap (in_order document_cmp) (filter_spread r q m.generations)
    ∙ put_together document_cmp by_number.one_way (λ g x. is_among g (holders_of r x) && q x)
    m.generations docs (climb 1 r.journal) (one_passes_all r q m.generations docs one)
    ∙ filter_agree (λ d. list_any (λ g. is_among g (holders_of r d) && q d) m.generations)
    (λ d. is_kept_by r.journal d (holders_of r d) m)
    (λ d. any_and (λ g. is_among g (holders_of r d)) (q d) m.generations
    ∙ ap (λ (b : Bool). b && q d) (shared (holders_of r d) m.generations)) docs
