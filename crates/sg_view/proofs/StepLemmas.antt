-- Segments with a live document, and the steps of all segments.
use Rattle.std.proofs.Common.{◌≡◌, ◌≤◌, ◌<◌, ◌+◌, ◌-◌, ℕ, zero, suc, Bool, false, cond, nat_eq}
use Rattle.std.proofs.Common.{List, [], ◌∷◌, length, get_or, map, drop, refl, sym, ap, ◌∙◌, subst}
use Rattle.std.proofs.Common.{arith}
use Rattle.std.proofs.lemmas.Bool.Decides.{nat_tests}
use Rattle.std.proofs.lemmas.List.{drop_more}
use Rattle.sg_context.specs.Queries.{PlainQuery}
use Rattle.sg_paths.specs.Paths.{paths}
use Rattle.sg_answers.specs.Reports.{ViewedSegment, queue_size, queue_size_of}
use Rattle.seg_live.specs.LiveDocs.{live_count}
use Rattle.seg_table.specs.Owners.{greatest}
use Rattle.best_first.proofs.SizingLemmas.{live-length, size-of}
use Rattle.sg_view.specs.Building.{IsCounted}
use Rattle.sg_view.specs.Rows.{no_segment}
use Rattle.sg_view.specs.Searched.{segment_at}
use Rattle.sg_view.specs.Searching.{queue_of, search_steps, segment_steps, view_steps}
use Rattle.sg_view.specs.Viewing.{LiveSegment, seen_segment}

none_of : {X : Type 0} (xs : List X) → length xs ≡ 0 → xs ≡ []
none_of [] e = refl
none_of (x ∷ xs) e = absurd (omega (arith, e))

-- where no document is live
pub none_live : (s : LiveSegment) → IsCounted s → live_count s.live_docs ≡ 0
    → (seen_segment s).live ≡ []
none_live s counted is =
    none_of (seen_segment s).live (live-length s.documents s.live_docs counted ∙ is)

pub some_live : (s : LiveSegment) → IsCounted s → 0 < live_count s.live_docs
    → 0 < length (seen_segment s).live
some_live s counted some =
    let n = live-length s.documents s.live_docs counted in omega (arith, n, some)

-- as many live docs are set
pub marked_live : (segments : List LiveSegment) (piece : ℕ) (s : LiveSegment)
    → s ≡ get_or segments piece no_segment → IsCounted (get_or segments piece no_segment)
    → 0 < length (segment_at segments piece).live → 0 < live_count s.live_docs
marked_live segments piece s is counted some =
    let there = get_or segments piece no_segment in
    let n = live-length there.documents there.live_docs counted in
    subst (λ (z : LiveSegment). 0 < live_count z.live_docs) (sym is) (omega (arith, n, some))

positive : (n : ℕ) → 0 < n → nat_eq n 0 ≡ false
positive n h = grind (arith, nat_tests)

-- the steps of a segment that is searched
pub steps-live : (query : PlainQuery) (s : ViewedSegment) → 0 < length s.live
    → segment_steps query s ≡ search_steps query s
steps-live query s some =
    ap (λ b. cond b 0 (search_steps query s)) (positive (length s.live) some)

-- the queue of a segment by its numbers
pub queue-none : (k : ℕ) (s : LiveSegment) → IsCounted s → live_count s.live_docs ≡ 0
    → 0 ≡ queue_of k (seen_segment s)
queue-none k s counted is =
    let n : length (seen_segment s).live ≡ 0 = live-length s.documents s.live_docs counted ∙ is in
    ap (λ m. cond (nat_eq m 0) 0 (queue_size k (seen_segment s))) (sym n)

pub queue-some : (size k most documents live : ℕ) (s : LiveSegment) → IsCounted s
    → 0 < live → live ≡ live_count s.live_docs → size ≡ queue_size_of k most documents live
    → most ≡ greatest (map (λ d. length (paths d.document)) s.documents)
    → documents ≡ length s.documents → size ≡ queue_of k (seen_segment s)
queue-some size k most documents live s counted some is size-is most-is documents-is =
    let seen = seen_segment s in
    let n = live-length s.documents s.live_docs counted in
    size-of size k k most documents live s.generation s.documents s.live_docs size-is refl most-is
    documents-is is counted
    ∙ sym (ap (λ b. cond b 0 (queue_size k seen))
    (positive (length seen.live) (omega (arith, n, some, is))))

-- where a count of the live docs isn't 0
pub live_by : (s : LiveSegment) (marks : List Bool) (count : ℕ) → marks ≡ s.live_docs
    → IsCounted s → count ≡ live_count marks → (count ≡ 0 → ⊥) → 0 < length (seen_segment s).live
live_by s marks count same counted is some =
    let n : count ≡ live_count s.live_docs = is ∙ ap live_count same in
    some_live s counted (omega (arith, n, some))

-- the steps of a search are those of its segment
pub steps_by : (query : PlainQuery) (s : ViewedSegment) (first later : ℕ) → 0 < length s.live
    → later ≤ first + search_steps query s → later ≤ first + segment_steps query s
steps_by query s first later some h =
    subst (λ n. later ≤ first + n) (sym (steps-live query s some)) h

abbrev seen_from : List LiveSegment → ℕ → List ViewedSegment
seen_from segments n = map seen_segment (drop n segments)

-- the segments from one place before
pub one_before : (segments : List LiveSegment) (n : ℕ) → 0 < n → n ≤ length segments
    → seen_from segments (n - 1) ≡ segment_at segments (n - 1) ∷ seen_from segments n
one_before segments n some within =
    let less : n - 1 < length segments = omega (arith, some, within) in
    let next : (n - 1) + 1 ≡ n = omega (arith, some) in
    ap (map seen_segment) (drop_more segments (n - 1) no_segment less)
    ∙ ap (λ m. segment_at segments (n - 1) ∷ seen_from segments m) next

module _ (query : PlainQuery) where
  pub steps_before : (segments : List LiveSegment) (n first now later : ℕ) → 0 < n
      → n ≤ length segments → now ≤ first + view_steps query (seen_from segments n)
      → later ≤ now + segment_steps query (segment_at segments (n - 1))
      → later ≤ first + view_steps query (seen_from segments (n - 1))
  steps_before segments n first now later some within so_far one =
      let more : view_steps query (seen_from segments (n - 1))
      ≡ segment_steps query (segment_at segments (n - 1))
      + view_steps query (seen_from segments n) =
      ap (view_steps query) (one_before segments n some within) in
      omega (arith, more, so_far, one)

  fewer : (segments : List LiveSegment) (n : ℕ)
      → view_steps query (seen_from segments n) ≤ view_steps query (map seen_segment segments)
  fewer [] n = fewer_none n
    where
      fewer_none : (n : ℕ) → view_steps query (seen_from [] n) ≤ 0
      fewer_none zero = omega arith
      fewer_none (suc n) = omega arith
  fewer (s ∷ segments) zero = omega arith
  fewer (s ∷ segments) (suc n) = let h = fewer segments n in omega (arith, h)

  pub steps_whole : (segments : List LiveSegment) (n first now : ℕ)
      → now ≤ first + view_steps query (seen_from segments n)
      → now ≤ first + view_steps query (map seen_segment segments)
  steps_whole segments n first now h = let f = fewer segments n in omega (arith, f, h)
