-- Where one context is asked for, the queue is spent on deleted paths exactly where the matching
-- paths by score and bytes are short of live documents.
use Rattle.std.proofs.Common.{◌≡◌, ◌≤◌, ℕ, zero, suc, inl, inr, Bool}
use Rattle.std.proofs.Common.{map, List, [], ◌∷◌, ◌++◌, length, take, refl, sym, ap, ◌∙◌, subst}
use Rattle.std.proofs.Common.{arith, Option, Some, None}
use Rattle.std.specs.Prelude.{slice_get}
use Rattle.std.specs.List.{AllByRecursion}
use Rattle.sg_base.specs.Cuts.{PlainCut}
use Rattle.sg_base.specs.Lists.{In}
use Rattle.sg_base.specs.Rows.{ranked}
use Rattle.sg_base.specs.declared.rank.Rank.{Rank}
use Rattle.sg_base.proofs.InOrderLemmas.{in-in_order}
use Rattle.sg_context.specs.Queries.{PlainQuery}
use Rattle.sg_paths.specs.Operations.{PlainNumbered}
use Rattle.sg_paths.specs.AllPaths.{path_entries, all_paths}
use Rattle.sg_paths.specs.PathLaws.{IsLegal}
use Rattle.sg_answers.specs.Reports.{ViewedSegment, viewed_segment, queue_size}
use Rattle.sg_answers.specs.Reports.{asked_contexts, path_order}
use Rattle.sg_answers.specs.Reports.{live_among, IsSpent, IsExactSearch}
use Rattle.best_first.specs.Exact.{match_cmp, IsInOrder, IsShort, IsExact}
use Rattle.best_first.specs.Listings.{IsListing}
use Rattle.best_first.specs.Matches.{Match, ranks_of}
use Rattle.best_first.specs.PathMatches.{matches_of}
use Rattle.best_first.proofs.CountLemmas.{begins-starts_with}
use Rattle.best_first.proofs.LiveLemmas.{Rising, documents_are_rows}
use Rattle.best_first.proofs.MemberLemmas.{in-left}
use Rattle.best_first.proofs.PathOrderLemmas.{order, order_is, is_in_order}

-- the item at a place of a mapped list
pub record Stands {X Y : Type 0} (f : X → Y) (xs : List X) (n : ℕ) (y : Y) : Type 0 where
  pub item : X
  pub after : List X
  pub is : xs ≡ take n xs ++ item ∷ after
  pub value : f item ≡ y
  pub as_many : length (take n xs) ≡ n

pub stands : {X Y : Type 0} (f : X → Y) (xs : List X) (n : ℕ) (y : Y)
    → slice_get (map f xs) n ≡ Some y → Stands f xs n y
stands f [] n y h = absurd cc
stands f (x ∷ xs) zero y h =
    record { item = x; after = xs; is = refl; value = let t : f x ≡ y = cc in t; as_many = refl }
stands f (x ∷ xs) (suc n) y h =
    let r = stands f xs n y h in record {
      item = r.item;
      after = r.after;
      is = ap (λ zs. x ∷ zs) r.is;
      value = r.value;
      as_many = ap suc r.as_many;
    }

take-map : {X Y : Type 0} (f : X → Y) (n : ℕ) (xs : List X)
    → take n (map f xs) ≡ map f (take n xs)
take-map f zero xs = refl
take-map f (suc n) [] = refl
take-map f (suc n) (x ∷ xs) = ap (λ zs. f x ∷ zs) (take-map f n xs)

in-take : {X : Type 0} (x : X) (n : ℕ) (xs : List X) → In x (take n xs) → In x xs
in-take x zero xs i = elim i [ ]
in-take x (suc n) [] i = i
in-take x (suc n) (y ∷ ys) (inl e) = inl e
in-take x (suc n) (y ∷ ys) (inr i) = inr (in-take x n ys i)

get-behind : {X Y : Type 0} (f : X → Y) (us vs : List X) (x : X) (n : ℕ) → length us ≡ n
    → slice_get (map f (us ++ x ∷ vs)) n ≡ Some (f x)
get-behind f [] vs x zero e = refl
get-behind f [] vs x (suc n) e = absurd (omega (arith, e))
get-behind f (u ∷ us) vs x zero e = absurd (omega (arith, e))
get-behind f (u ∷ us) vs x (suc n) e = get-behind f us vs x n (omega (arith, e))

take-behind : {X : Type 0} (us vs : List X) (n : ℕ) → length us ≡ n → take n (us ++ vs) ≡ us
take-behind [] vs zero e = refl
take-behind [] vs (suc n) e = absurd (omega (arith, e))
take-behind (u ∷ us) vs zero e = absurd (omega (arith, e))
take-behind (u ∷ us) vs (suc n) e = ap (λ zs. u ∷ zs) (take-behind us vs n (omega (arith, e)))

module _ (query : PlainQuery) (ds : List PlainNumbered) (starts : List (List ℕ))
    (marks : List Bool) (generation : ℕ) (u : Rising ds)
    (legal : AllByRecursion (λ p. IsLegal p.entry) (all_paths ds))
    (few : length (path_entries 0 ds) ≤ 4194304)
    (listing : IsListing (matches_of query ds starts marks) (length starts)) where
  abbrev matches : List Match
  matches = matches_of query ds starts marks

  abbrev s : ViewedSegment
  s = viewed_segment generation ds marks

  abbrev room : ℕ
  room = queue_size query.k s

  module _ (one : length (asked_contexts query ds) ≡ 1) (single : length starts ≤ 1) where
    abbrev by_score : List Match
    by_score = order query ds starts marks legal few one

    ranks_are : map (λ (m : Match). m.rank) by_score ≡ path_order query s
    ranks_are = order_is query ds starts marks legal few one (length starts) listing single

    inside : (m : Match) → In m by_score → In m matches
    inside m i = in-in_order match_cmp m matches i

    -- the first paths are of as many live documents as their ranking has rows
    first_rows : (first : List Match) → ((m : Match) → In m first → In m by_score)
        → length (live_among s (map (λ (m : Match). m.rank) first))
        ≡ length (ranked (ranks_of first))
    first_rows first i =
        documents_are_rows query ds starts marks u generation first (λ m j. inside m (i m j))

    -- short, where the queue is spent
    short : (next : Rank) → IsSpent query s next
        → (m : Match) × IsShort by_score query.k room m × (m.rank ≡ next)
    short next h =
        let place : slice_get (map (λ (m : Match). m.rank) by_score) room ≡ Some next =
        ap (λ rs. slice_get rs room) ranks_are ∙ h.next in
        let st = stands (λ (m : Match). m.rank) by_score room next place in
        let firsts : take room (path_order query s)
        ≡ map (λ (m : Match). m.rank) (take room by_score) =
        ap (take room) (sym ranks_are) ∙ take-map (λ (m : Match). m.rank) room by_score in
        let rows = first_rows (take room by_score) (λ m i. in-take m room by_score i) in
        let same = ap (λ rs. length (live_among s rs)) firsts in
        let less = h.few in (
          st.item,
          record {
            first = take room by_score;
            after = st.after;
            is = st.is;
            as_many = st.as_many;
            few = omega (arith, rows, same, less);
          },
          st.value,
        )

    member_first : (m next : Match) (first after : List Match)
        → by_score ≡ first ++ next ∷ after → In m first → In m by_score
    member_first m next first after is i =
        subst (In m) (sym is) (in-left m first (next ∷ after) i)

    -- spent, where it is short
    spent : (next : Match) → IsShort by_score query.k room next → IsSpent query s next.rank
    spent next h =
        let firsts : take room (path_order query s) ≡ map (λ (m : Match). m.rank) h.first =
        ap (take room) (sym ranks_are) ∙ take-map (λ (m : Match). m.rank) room by_score
        ∙ ap (map (λ (m : Match). m.rank))
        (ap (take room) h.is ∙ take-behind h.first (next ∷ h.after) room h.as_many) in
        let rows = first_rows h.first (λ m i. member_first m next h.first h.after h.is i) in
        let same = ap (λ rs. length (live_among s rs)) firsts in
        let less = h.few in
        record {
          next = ap (λ rs. slice_get rs room) (sym ranks_are)
              ∙ ap (λ ms. slice_get (map (λ (m : Match). m.rank) ms) room) h.is
              ∙ get-behind (λ (m : Match). m.rank) h.first h.after next room h.as_many;
          few = omega (arith, rows, same, less);
        }

    exact_at : (cut : Option PlainCut) → IsExact by_score query.k room cut
        → length (asked_contexts query ds) ≡ 1 → IsExactSearch query s cut
    exact_at None exact e =
        λ _ next h. let m = short next h in exact m.0 m.1
    exact_at (Some cut) exact e = λ _. record {
      next = exact.0.rank;
      spent = spent exact.0 exact.1;
      score = exact.2;
      key = sym (begins-starts_with cut.key exact.0.rank.key) ∙ exact.3;
    }

  -- the exact rule over the order of matching paths is that over the documents
  exact_from : (cut : Option PlainCut)
      → (length (asked_contexts query ds) ≡ 1 → IsExactSearch query s cut)
      → IsExactSearch query s cut
  exact_from None f = λ one. f one one
  exact_from (Some cut) f = λ one. f one one

  pub exact_by : (cut : Option PlainCut)
      → (length (asked_contexts query ds) ≡ 1 → length starts ≤ 1)
      → (length (asked_contexts query ds) ≡ 1 → (order : List Match) → IsInOrder matches order
      → IsExact order query.k room cut)
      → IsExactSearch query s cut
  exact_by cut single exact =
      exact_from cut (λ one. exact_at one (single one) cut
      (exact one (by_score one (single one))
      (is_in_order query ds starts marks legal few one)) one)
