-- What a report says of its segments, over all documents.
use Rattle.std.proofs.Common.{◌≡◌, ◌≤◌, ◌<◌, ◌+◌, ◌-◌, ◌*◌, ℕ, zero, suc, Bool, true, false, cond}
use Rattle.std.proofs.Common.{not, ◌&&◌, ◌||◌, List, [], ◌∷◌, ◌++◌, length, map, Option, Some, None}
use Rattle.std.proofs.Common.{refl, sym, ap, ◌∙◌, subst, arith, max, take}
use Rattle.std.specs.Prelude.{filter, nat_lt, nat_le, nat_eq, fold, Contains, is_some, bytes_eq}
use Rattle.std.specs.Prelude.{◌/◌}
use Rattle.std.specs.List.{AllByRecursion, flat_map, list_any, starts_with}
use Rattle.std.specs.Cmp.Lexicographic.{nat_list_eq_equiv, bytes_decides}
use Rattle.std.proofs.Math.Nat.{le-div_iff_mul-le, mul-le-mul_left, mul-le-mul_right}
use Rattle.std.proofs.lemmas.Bool.Decides.{nat_tests}
use Rattle.std.proofs.lemmas.List.Elements.{filter-append}
use Rattle.std.proofs.lemmas.List.{length-append}
use Rattle.sg_base.specs.Cuts.{PlainCut, precedes}
use Rattle.sg_base.specs.Ranking.{rank_cmp, rank_cmp_total}
use Rattle.sg_base.specs.declared.rank.Rank.{Rank}
use Rattle.sg_base.proofs.RankLemmas.{rank_cmp_exact}
use Rattle.sg_context.specs.Boosts.{boost_of}
use Rattle.sg_context.specs.Queries.{PlainQuery}
use Rattle.sg_paths.specs.Operations.{PlainNumbered}
use Rattle.sg_paths.specs.Paths.{PlainPath, paths, distinct_texts}
use Rattle.sg_answers.specs.Answers.{document_row, matching_ranks, answer}
use Rattle.sg_answers.specs.Reports.{ViewedSegment, live_in, most_paths, queue_size}
use Rattle.sg_answers.specs.Reports.{matching, asked_contexts, is_upto, count}
use Rattle.sg_answers.specs.declared.limits.TheConstants.{MOST_QUEUED}
use Rattle.sg_answers.specs.Reports.{TruncatesAt, IsTruncatedIn, IsSound, IsSoundOver}
use Rattle.segment.specs.Items.{total_of, HaveSameItems}
use Rattle.sg_shell.specs.Viewed.{ArePartOf, IsSegmentOf}
use Rattle.sg_answers.proofs.TakingLemmas.{filter_at_most}
use Rattle.sg_shell.proofs.SameItemLemmas.{same_in_order, same_filter_map}

-- the same documents have the same answer
pub same_answer : (query : PlainQuery) (ds es : List PlainNumbered) → HaveSameItems ds es
    → answer query ds ≡ answer query es
same_answer query ds es same =
    same_in_order rank_cmp rank_cmp_total rank_cmp_exact _ _
    (same_filter_map (document_row query) ds es same)

-- ---- counts over documents

count_spread : {X Y : Type 0} (t : Y → Bool) (f : X → List Y) (xs : List X)
    → length (filter t (flat_map f xs)) ≡ total_of (λ x. length (filter t (f x))) xs
count_spread t f [] = refl
count_spread t f (x ∷ xs) =
    ap (λ ys. length ys) (filter-append t (f x) (flat_map f xs))
    ∙ (let e = length-append (filter t (f x)) (filter t (flat_map f xs)) in
    let h = count_spread t f xs in omega (arith, e, h))

count_most : {X Y : Type 0} (t : Y → Bool) (f : X → List Y) (xs zs : List X) → ArePartOf xs zs
    → length (filter t (flat_map f xs)) ≤ length (filter t (flat_map f zs))
count_most t f xs zs part =
    let here = count_spread t f xs in
    let there = count_spread t f zs in
    let less = part (λ x. length (filter t (f x))) in
    omega (arith, here, there, less)

some_counted : {X : Type 0} (t : X → Bool) (xs : List X)
    → list_any t xs ≡ nat_lt 0 (length (filter t xs))
some_counted t [] = refl
some_counted t (x ∷ xs) = by_cases (t x) (some_counted t xs)
  where
    by_cases : (b : Bool) → list_any t xs ≡ nat_lt 0 (length (filter t xs))
        → (b || list_any t xs) ≡ nat_lt 0 (length (cond b (x ∷ filter t xs) (filter t xs)))
    by_cases true e = grind (arith, nat_tests)
    by_cases false e = e

-- what is met in a part is met in all
met_most : {X : Type 0} (t : X → Bool) (xs zs : List X)
    → length (filter t xs) ≤ length (filter t zs) → list_any t xs ≡ true → list_any t zs ≡ true
met_most t xs zs less is =
    let here : nat_lt 0 (length (filter t xs)) ≡ true = sym (some_counted t xs) ∙ is in
    some_counted t zs ∙ over (length (filter t xs)) (length (filter t zs)) less here
  where
    over : (m n : ℕ) → m ≤ n → nat_lt 0 m ≡ true → nat_lt 0 n ≡ true
    over m n h k = grind (arith, nat_tests)

-- ---- contexts

-- whether a text is in a list
abbrev has : List ℕ → List (List ℕ) → Bool
has x xs = list_any (bytes_eq x) xs

same_text : (x y : List ℕ) → bytes_eq x y ≡ true → x ≡ y
same_text x y e = (bytes_decides x y).0 e

itself : (x : List ℕ) → bytes_eq x x ≡ true
itself x = nat_list_eq_equiv.refl x

has_filter : (p : List ℕ → Bool) (x : List ℕ) (xs : List (List ℕ))
    → has x (filter p xs) ≡ (has x xs && p x)
has_filter p x [] = refl
has_filter p x (y ∷ ys) = by_cases (p y) (bytes_eq x y) refl refl (has_filter p x ys)
  where
    none : (b : Bool) → (b && false) ≡ false
    none true = refl
    none false = refl

    by_cases : (b c : Bool) → p y ≡ b → bytes_eq x y ≡ c → has x (filter p ys) ≡ (has x ys && p x)
        → has x (cond (p y) (y ∷ filter p ys) (filter p ys)) ≡ ((bytes_eq x y || has x ys) && p x)
    by_cases true true py xy e =
        let here : p x ≡ true = ap p (same_text x y xy) ∙ py in rw (py, xy) (sym here)
    by_cases true false py xy e = rw (py, xy) e
    by_cases false true py xy e =
        let here : p x ≡ false = ap p (same_text x y xy) ∙ py in
        rw (py, xy) (e ∙ ap (λ (b : Bool). has x ys && b) here ∙ none (has x ys) ∙ sym here)
    by_cases false false py xy e = rw (py, xy) e

-- each once
abbrev Once : List (List ℕ) → Type 0
Once [] = Unit {0}
Once (x ∷ xs) = (has x xs ≡ false) × Once xs

once_filter : (p : List ℕ → Bool) (xs : List (List ℕ)) → Once xs → Once (filter p xs)
once_filter p [] once = tt
once_filter p (x ∷ xs) once =
    by_cases (p x) (has_filter p x xs ∙ ap (λ (b : Bool). b && p x) once.0)
    (once_filter p xs once.1)
  where
    by_cases : (b : Bool) → has x (filter p xs) ≡ false → Once (filter p xs)
        → Once (cond b (x ∷ filter p xs) (filter p xs))
    by_cases true none later = (none, later)
    by_cases false none later = later

once_distinct : (xs : List (List ℕ)) → Once (distinct_texts xs)
once_distinct [] = tt
once_distinct (x ∷ xs) =
    let p : List ℕ → Bool = λ other. not (bytes_eq other x) in (
      has_filter p x (distinct_texts xs)
          ∙ ap (λ (b : Bool). has x (distinct_texts xs) && not b) (itself x)
          ∙ none (has x (distinct_texts xs)),
      once_filter p (distinct_texts xs) (once_distinct xs),
    )
  where
    none : (b : Bool) → (b && false) ≡ false
    none true = refl
    none false = refl

has_distinct : (x : List ℕ) (xs : List (List ℕ)) → has x (distinct_texts xs) ≡ has x xs
has_distinct x [] = refl
has_distinct x (y ∷ ys) =
    ap (λ (b : Bool). bytes_eq x y || b)
    (has_filter (λ other. not (bytes_eq other y)) x (distinct_texts ys)
    ∙ ap (λ (b : Bool). b && not (bytes_eq x y)) (has_distinct x ys))
    ∙ tidy (bytes_eq x y) (has x ys)
  where
    tidy : (a b : Bool) → (a || (b && not a)) ≡ (a || b)
    tidy true b = refl
    tidy false true = refl
    tidy false false = refl

-- one taken away
fewer_at : (x : List ℕ) (ys : List (List ℕ)) → has x ys ≡ true
    → length (filter (λ y. not (bytes_eq y x)) ys) + 1 ≤ length ys
fewer_at x [] is = absurd (let no : false ≡ true = is in cc)
fewer_at x (y ∷ ys) is =
    by_cases (bytes_eq y x) refl (λ h. fewer_at x ys h)
    (filter_at_most (λ z. not (bytes_eq z x)) ys)
  where
    by_cases : (b : Bool) → bytes_eq y x ≡ b
        → (has x ys ≡ true → length (filter (λ z. not (bytes_eq z x)) ys) + 1 ≤ length ys)
        → length (filter (λ z. not (bytes_eq z x)) ys) ≤ length ys
        → length (cond (not (bytes_eq y x)) (y ∷ filter (λ z. not (bytes_eq z x)) ys)
        (filter (λ z. not (bytes_eq z x)) ys)) + 1 ≤ length (y ∷ ys)
    by_cases true yx again most = rw yx (omega (arith, most))
    by_cases false yx again most =
        let other : bytes_eq x y ≡ false = nat_list_eq_equiv.symm x y ∙ yx in
        let later = again (ap (λ (b : Bool). b || has x ys) (sym other) ∙ is) in
        rw yx (omega (arith, later))

-- texts that are each there once are no more than those that have them all
pigeon : (us vs : List (List ℕ)) → Once us → ((x : List ℕ) → has x us ≡ true → has x vs ≡ true)
    → length us ≤ length vs
pigeon [] vs once inside = omega arith
pigeon (u ∷ us) vs once inside =
    let p : List ℕ → Bool = λ y. not (bytes_eq y u) in
    let first : has u (u ∷ us) ≡ true = ap (λ (b : Bool). b || has u us) (itself u) in
    let less = fewer_at u vs (inside u first) in
    let later = pigeon us (filter p vs) once.1
    (λ x there. has_filter p x vs
    ∙ ap (λ (b : Bool). b && p x)
    (inside x (ap (λ (b : Bool). bytes_eq x u || b) there ∙ or_true (bytes_eq x u)))
    ∙ ap not (other x there (bytes_eq x u) refl)) in
    omega (arith, less, later)
  where
    or_true : (b : Bool) → (b || true) ≡ true
    or_true true = refl
    or_true false = refl

    other : (x : List ℕ) → has x us ≡ true → (b : Bool) → bytes_eq x u ≡ b → bytes_eq x u ≡ false
    other x there true is =
        let no : has u us ≡ true = ap (λ (y : List ℕ). has y us) (sym (same_text x u is)) ∙ there in
        let yes : false ≡ true = sym once.0 ∙ no in cc
    other x there false is = is

-- the contexts of documents
abbrev contexts : List PlainNumbered → List (List ℕ)
contexts ds = map (λ p. p.context) (flat_map (λ d. paths d.document) ds)

has_context : (x : List ℕ) (ps : List PlainPath)
    → has x (map (λ p. p.context) ps) ≡ list_any (λ p. bytes_eq x p.context) ps
has_context x [] = refl
has_context x (p ∷ ps) = ap (λ (b : Bool). bytes_eq x p.context || b) (has_context x ps)

contexts_most : (query : PlainQuery) (ds added : List PlainNumbered) → ArePartOf ds added
    → length (asked_contexts query ds) ≤ length (asked_contexts query added)
contexts_most query ds added part =
    let asked : List ℕ → Bool = λ context. is_some (boost_of query.contexts context) in
    pigeon (asked_contexts query ds) (asked_contexts query added)
    (once_filter asked (distinct_texts (contexts ds)) (once_distinct (contexts ds)))
    (λ x there.
    let both = both_of (has x (distinct_texts (contexts ds))) (asked x)
    (sym (has_filter asked x (distinct_texts (contexts ds))) ∙ there) in
    let t : PlainPath → Bool = λ p. bytes_eq x p.context in
    let here : list_any t (flat_map (λ d. paths d.document) ds) ≡ true =
    sym (has_context x (flat_map (λ d. paths d.document) ds))
    ∙ sym (has_distinct x (contexts ds)) ∙ both.0 in
    let all : list_any t (flat_map (λ d. paths d.document) added) ≡ true =
    met_most t (flat_map (λ d. paths d.document) ds) (flat_map (λ d. paths d.document) added)
    (count_most t (λ d. paths d.document) ds added part) here in
    has_filter asked x (distinct_texts (contexts added))
    ∙ ap (λ (b : Bool). b && asked x) (has_distinct x (contexts added)
    ∙ has_context x (flat_map (λ d. paths d.document) added) ∙ all)
    ∙ both.1)
  where
    both_of : (a b : Bool) → (a && b) ≡ true → (a ≡ true) × (b ≡ true)
    both_of true b h = (refl, h)
    both_of false b h = let no : false ≡ true = h in cc

truncates_most : (query : PlainQuery) (ds added : List PlainNumbered) (c : PlainCut)
    → ArePartOf ds added → TruncatesAt query ds c → TruncatesAt query added c
truncates_most query ds added c part is =
    let most : (t : Rank → Bool) → count t (matching query ds) ≤ count t (matching query added) =
    λ t. count_most t (matching_ranks query) ds added part in
    record {
      crowded = (let h = most (λ r. nat_le c.score r.score) in omega (arith, is.crowded, h));
      in_query = is.in_query;
      met = met_most (λ r. nat_eq r.score c.score && starts_with nat_eq r.key c.key)
          (matching query ds) (matching query added)
          (most (λ r. nat_eq r.score c.score && starts_with nat_eq r.key c.key)) is.met;
      upto = (let h = most (is_upto c) in let k = contexts_most query ds added part in
          omega (arith, is.upto, h, k));
    }

-- ---- the queue size

from_here : (n : ℕ) (ds : List PlainNumbered)
    → n ≤ fold (λ most d. max most (length (paths d.document))) n ds
from_here n [] = omega arith
from_here n (d ∷ ds) =
    let later = from_here (max n (length (paths d.document))) ds in omega (arith, later)

-- a document that matches has a path
mostly_none : (query : PlainQuery) (ds : List PlainNumbered) (n : ℕ)
    → fold (λ most d. max most (length (paths d.document))) n ds ≡ 0
    → matching query ds ≡ []
mostly_none query [] n is = refl
mostly_none query (d ∷ ds) n is =
    let least = from_here (max n (length (paths d.document))) ds in
    let none : length (paths d.document) ≡ 0 = omega (arith, least, is) in
    let empty : paths d.document ≡ [] = no_items (paths d.document) none in
    let later = mostly_none query ds (max n (length (paths d.document))) is in
    let here : matching_ranks query d ≡ [] = rw empty refl in
    ap (λ (rs : List Rank). rs ++ matching query ds) here ∙ later
  where
    no_items : (ps : List PlainPath) → length ps ≡ 0 → ps ≡ []
    no_items [] h = refl
    no_items (p ∷ ps) h = absurd (omega (arith, h))

grows : (k p : ℕ) → k ≤ k * suc p
grows k p =
    let least : 1 ≤ suc p = omega arith in
    let e : k * 1 ≤ k * suc p = mul-le-mul_left k least in omega (arith, e)

product : (k p d l : ℕ) → 1 ≤ p → l ≤ d → k * l ≤ k * p * d
product k (suc p) d l some more =
    let first : k * l ≤ k * d = mul-le-mul_left k more in
    let second : k * d ≤ k * suc p * d = mul-le-mul_right d (grows k p) in
    omega (arith, first, second)
product k zero d l some more = absurd (omega (arith, some))

enough_room : (query : PlainQuery) (s : ViewedSegment) (room : ℕ) → query.k ≤ MOST_QUEUED
    → 0 < length s.live → length s.live ≤ length s.documents
    → 1 ≤ most_paths s.documents → query.k ≤ queue_size query.k s
enough_room query s room few live more some =
    let k = query.k in
    let l = length s.live in
    let n = k * most_paths s.documents * length s.documents in
    let least = product k (most_paths s.documents) (length s.documents) l some more in
    let round : k * l ≤ n + (l - 1) = omega (arith, least) in
    let up : k ≤ (n + (l - 1)) / l = (le-div_iff_mul-le live).1 round in
    omega (arith, few, up)

-- where more match than the queue holds, a document has a path
some_path : (query : PlainQuery) (ds : List PlainNumbered) (c : PlainCut)
    → TruncatesAt query ds c → 1 ≤ most_paths ds
some_path query ds c is = by_most (most_paths ds) refl
  where
    by_most : (n : ℕ) → most_paths ds ≡ n → 1 ≤ n
    by_most zero none =
        let crowd = is.crowded in
        let nothing = ap (λ (rs : List Rank). count (λ r. nat_le c.score r.score) rs)
        (mostly_none query ds 0 none) in
        absurd (omega (arith, crowd, nothing))
    by_most (suc n) some = omega arith

-- what is sound over segments is sound over all documents that were added and those that are live
pub sound_over_all : (query : PlainQuery) (segments : List ViewedSegment)
    (added live : List PlainNumbered) (ranks : List Rank) (cut : Option PlainCut)
    → query.k ≤ MOST_QUEUED → HaveSameItems (live_in segments) live
    → AllByRecursion (IsSegmentOf added) segments → IsSound query segments ranks cut
    → IsSoundOver query added live ranks cut
sound_over_all query segments added live ranks None few same are sound =
    sound ∙ ap (take query.k) (same_answer query (live_in segments) live same)
sound_over_all query segments added live ranks (Some c) few same are sound =
    let s = sound.2.0 in
    let is : IsTruncatedIn query s c = sound.2.2 in
    let of = contained segments s are sound.2.1 in
    let more = some_path query s.documents c is.point in
    let room = enough_room query s c.room few is.has_live of.fewer_live more in (
      sound.0 ∙ ap (filter (precedes c)) (same_answer query (live_in segments) live same),
      sound.1,
      omega (arith, room, is.room),
      omega (arith, is.room),
      truncates_most query s.documents added c of.part is.point,
    )
  where
    contained : (xs : List ViewedSegment) (t : ViewedSegment)
        → AllByRecursion (IsSegmentOf added) xs
        → Contains xs t → IsSegmentOf added t
    contained [] t all (k, within, at) = absurd (omega (arith, within))
    contained (x ∷ xs) t all (zero, within, at) = subst (IsSegmentOf added) at all.0
    contained (x ∷ xs) t all (suc k, within, at) =
        contained xs t all.1 (k, omega (arith, within), at)
