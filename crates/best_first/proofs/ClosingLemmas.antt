-- What the closed collector reports where a search is done, and where its queue is empty.
use Rattle.std.proofs.Common.{◌≡◌, ◌≤◌, ◌<◌, ℕ, Bool, true, false, cond, List, [], ◌∷◌, length, map}
use Rattle.std.proofs.Common.{refl, sym, ap, ◌∙◌, subst, arith}
use Rattle.std.specs.Prelude.{Option, Some, None, option_map, nat_le, filter}
use Rattle.std.proofs.lemmas.Bool.Decides.{nat_tests}
use Rattle.sg_base.specs.Cuts.{PlainCut, precedes}
use Rattle.sg_base.specs.declared.hit.Hit.{Hit}
use Rattle.sg_base.specs.declared.node.Edge.{Edge}
use Rattle.sg_base.specs.declared.rank.Rank.{Rank}
use Rattle.path_desk.specs.Desks.{PlainDesk, cut_at}
use Rattle.path_desk.specs.Entries.{Queued}
use Rattle.path_desk.specs.declared.entry.Entry.{Entry}
use Rattle.collector.specs.Tops.{PlainReport, report, preceding, closed}
use Rattle.collector.proofs.ListLemmas.{map-length}
use Rattle.best_first.specs.Ends.{last_row, is_done, IsOutcome, IsCutShort}
use Rattle.best_first.specs.Exact.{IsInOrder, IsExact}
use Rattle.best_first.specs.Matches.{Match}
use Rattle.best_first.specs.Segments.{Between, IsSegment}
use Rattle.best_first.proofs.DoneLemmas.{done}
use Rattle.best_first.proofs.EndLemmas.{end-complete, end-cut, none-dropped, some-dropped}
use Rattle.best_first.proofs.EndLemmas.{cut-short, begins-query, dropped-over}
use Rattle.best_first.proofs.ExactLemmas.{exact-none, exact-some, exact-when_done, few-rows}

rows_at : (row : Hit → Rank) (p : Rank → Bool) (h : Hit) (hits : List Hit) (b : Bool)
    → map row (filter (λ g. p (row g)) hits) ≡ filter p (map row hits)
    → map row (cond b (h ∷ filter (λ g. p (row g)) hits) (filter (λ g. p (row g)) hits))
    ≡ cond b (row h ∷ filter p (map row hits)) (filter p (map row hits))
rows_at row p h hits true e = ap (λ zs. row h ∷ zs) e
rows_at row p h hits false e = e

-- the rows of hits that pass are the rows that pass
pub map-filter : (row : Hit → Rank) (p : Rank → Bool) (hits : List Hit)
    → map row (filter (λ g. p (row g)) hits) ≡ filter p (map row hits)
map-filter row p [] = refl
map-filter row p (h ∷ hits) = rows_at row p h hits (p (row h)) (map-filter row p hits)

no_k : (n k : ℕ) → n < k → nat_le k n ≡ false
no_k n k h = grind (arith, nat_tests)

-- where fewer than k precede, they and the truncation point are the report
pub closed-short : (k : ℕ) (row : Hit → Rank) (hits : List Hit) (cut : PlainCut)
    → length (filter (precedes cut) (map row hits)) < k
    → closed k row hits (Some cut) ≡ report (preceding cut row hits) (Some cut)
closed-short k row hits cut few =
    let same = map-filter row (precedes cut) hits in
    let n : length (filter (precedes cut) (map row hits)) ≡ length (preceding cut row hits) =
    ap length (sym same) ∙ map-length row (preceding cut row hits) in
    let fails : nat_le k (length (preceding cut row hits)) ≡ false =
    no_k (length (preceding cut row hits)) k (omega (arith, n, few)) in
    rw fails refl

-- what a search answers: its report over the matching paths, and the exact rule with one start
pub record Answers (all : List Match) (prefix : List ℕ) (starts k room generation : ℕ)
    (rows : List Rank) (cut : Option PlainCut) : Type 0 where
  pub report : IsOutcome all prefix starts k room generation rows cut
  pub exact : starts ≤ 1 → (order : List Match) → IsInOrder all order → IsExact order k room cut

module _ (all : List Match) (P : Queued → Type 0) (nodes : List (List Edge))
    (match_at : ℕ → Match) (roots : List Entry) (prefix : List ℕ)
    (seg : IsSegment all P nodes match_at roots prefix) (reached : List Match) (k : ℕ)
    (d : PlainDesk) (row : Hit → Rank) (hits : List Hit)
    (b : Between all P reached k d (map row hits)) (one : Bool) (generation : ℕ) where
  abbrev rows : List Rank
  rows = map row hits

  abbrev Closed : Option PlainCut → Type 0
  Closed o = Answers all prefix (length roots) k d.room generation
      (map row (closed k row hits o).hits) (closed k row hits o).cut

  -- k rows are kept, and what is left doesn't matter to them
  pub closed-done : (one ≡ true → length roots ≤ 1) → is_done one d (last_row k rows) ≡ true
      → Closed None
  closed-done few h = record {
    report = done all P reached (length roots) k d rows b seg.listing one few h;
    exact = λ least order o. exact-when_done all order P reached (length roots) k d rows b
        seg.listing least o one h;
  }

  -- the queue is empty
  module _ (empty : d.waiting ≡ []) (some : 1 ≤ k)
      (going : is_done one d (last_row k rows) ≡ false) (is_one : length roots ≤ 1 → one ≡ true)
    where
      ended-none : None ≡ option_map (cut_at generation d.room) d.dropped → Closed None
      ended-none e =
          let none = none-dropped d.dropped generation d.room e in
          record {
            report = end-complete all P reached (length roots) k d rows b seg.listing empty none;
            exact = λ least order o. exact-none all order P reached (length roots) k d rows b
                seg.listing least o empty none;
          }

      short_at : (cut : PlainCut) → Some cut ≡ option_map (cut_at generation d.room) d.dropped
          → IsCutShort all prefix (length roots) k d.room generation (filter (precedes cut) rows)
          cut
      short_at cut e =
          let f = some-dropped d.dropped generation d.room cut e in
          let over = dropped-over all P reached k d rows b f.0 f.1 in
          let in_query = begins-query prefix f.0 seg.prefix_is_key (seg.under f.0 over) in
          cut-short all prefix (length roots) k d.room generation rows
          (filter (precedes cut) rows) cut f.0 f.2 refl
          (end-cut all P reached (length roots) k d rows b seg.listing f.0 empty f.1 generation
          prefix in_query one some going)

      ended-some : (cut : PlainCut) → Some cut ≡ option_map (cut_at generation d.room) d.dropped
          → Closed (Some cut)
      ended-some cut e =
          let f = some-dropped d.dropped generation d.room cut e in
          let short = short_at cut e in
          let is = closed-short k row hits cut short.few in
          let A : PlainReport → Type 0 = λ r.
          Answers all prefix (length roots) k d.room generation (map row r.hits) r.cut in
          subst A (sym is) (record {
            report = subst
                (λ zs. IsCutShort all prefix (length roots) k d.room generation zs cut)
                (sym (map-filter row (precedes cut) hits)) short;
            exact = λ least order o. exact-some all order P reached (length roots) k d rows b
                seg.listing least o f.0 empty f.1
                (few-rows k d rows one (is_one least) some going) generation cut f.2;
          })

      ended_at : (o : Option PlainCut) → o ≡ option_map (cut_at generation d.room) d.dropped
          → Closed o
      ended_at None e = ended-none e
      ended_at (Some cut) e = ended-some cut e

      pub closed-ended : (o : Option PlainCut)
          → o ≡ option_map (cut_at generation d.room) d.dropped → Closed o
      closed-ended o e = ended_at o e
