-- The current pieces after a merge has ended.
use Rattle.std.proofs.Common.{◌≡◌, ◌≤◌, ◌<◌, ℕ, Bool, true, false, cond, not, nat_eq, ◌&&◌}
use Rattle.std.proofs.Common.{Some, None, List, [], ◌∷◌, ◌++◌, map, refl, sym, ap, ◌∙◌}
use Rattle.std.proofs.Common.{subst, arith}
use Rattle.std.specs.Prelude.{filter}
use Rattle.std.specs.List.{AllByRecursion, filter_map, list_any}
use Rattle.std.proofs.lemmas.Bool.Decides.{nat_tests}
use Rattle.std.proofs.lemmas.List.{append-nil, map-append}
use Rattle.std.proofs.lemmas.List.Elements.{filter_map-append}
use Rattle.sg_paths.specs.Operations.{PlainNumbered, documents_from}
use Rattle.sg_paths.specs.LiveDocuments.{is_deleted}
use Rattle.segment.specs.Items.{total_of}
use Rattle.segment.specs.Pieces.{PlainPiece}
use Rattle.index_core.specs.Histories.{HistoryEvent, merge_end, merge_drop, Record}
use Rattle.index_core.specs.Histories.{Merge, is_among, last_of, built_generation}
use Rattle.index_core.specs.Records.{with_event, frozen, current, next_merge}
use Rattle.index_core.specs.Generations.{merges_of, holders_of, is_built}
use Rattle.index_core.specs.LegalHistories.{merged_documents}
use Rattle.index_core.specs.CurrentPieces.{IsPieceOf}
use Rattle.index_core.specs.EndedMerges.{merged_pieces}
use Rattle.index_core.specs.HeldGenerations.{RisesFrom}
use Rattle.index_core.specs.Keeping.{AreCurrent}
use Rattle.index_core.specs.MergedPieces.{IsEnding, brought_piece, MergesKeepPieces}
use Rattle.index_core.proofs.AppliedLemmas.{applied_last, piece_stays}
use Rattle.index_core.proofs.EventLemmas.{current-skip}
use Rattle.index_core.proofs.FreezeLemmas.{rises_more}
use Rattle.index_core.proofs.GenerationLemmas.{among_other, among_itself}
use Rattle.index_core.proofs.HeldEventLemmas.{undrawn_not_replaced}
use Rattle.index_core.proofs.HistoryLemmas.{skips, frozen-skip}
use Rattle.index_core.proofs.ListLemmas.{all_weaker, all_more}
use Rattle.index_core.proofs.MergeEventLemmas.{new_apart}
use Rattle.index_core.proofs.MergedPieceLemmas.{leaves, current_rises, live_after, kept_current}
use Rattle.index_core.proofs.MergedPieceLemmas.{current_below, pieces_below, all_kept, new}
use Rattle.index_core.proofs.MergedPieceLemmas.{below_all}
use Rattle.index_core.proofs.MergingLemmas.{bring, merges_stay}
use Rattle.index_core.proofs.OpenMergeLemmas.{current-begin}
use Rattle.index_core.proofs.ReplacedLemmas.{after_merge, current-after_none}
use Rattle.index_core.proofs.RisingLemmas.{rises-filter, among-filter}

-- ---- the piece that is brought

-- of what a test and another pass, all passes the other
passes_all : (a b : PlainNumbered → Bool) (ds : List PlainNumbered)
    → map (λ _. true) (filter (λ d. a d && b d) ds) ≡ map b (filter (λ d. a d && b d) ds)
passes_all a b [] = refl
passes_all a b (d ∷ ds) = by_tests (a d) (b d) refl (passes_all a b ds)
  where
    by_tests : (x y : Bool) → b d ≡ y
        → map (λ _. true) (filter (λ e. a e && b e) ds) ≡ map b (filter (λ e. a e && b e) ds)
        → map (λ _. true) (cond (x && y) (d ∷ filter (λ e. a e && b e) ds)
        (filter (λ e. a e && b e) ds))
        ≡ map b (cond (x && y) (d ∷ filter (λ e. a e && b e) ds)
        (filter (λ e. a e && b e) ds))
    by_tests true true is e =
        ap (λ (ms : List Bool). true ∷ ms) e
        ∙ ap (λ (c : Bool). c ∷ map b (filter (λ x. a x && b x) ds)) (sym is)
    by_tests true false is e = e
    by_tests false y is e = e

module _ (r : Record) (caller : ℕ) (m : Merge) (into : ℕ) (gone : List ℕ)
    (documents : List PlainNumbered) (pieces : List PlainPiece) (ending : IsEnding r m into)
    (is : documents ≡ merged_documents r m) (are : AreCurrent r pieces) where
  abbrev e : HistoryEvent
  e = merge_end caller m.merge (Some into) gone

  abbrev r' : Record
  r' = with_event r e

  frozen-same : frozen r' ≡ frozen r
  frozen-same = frozen-skip r.history e refl

  built-more : (g : ℕ) → is_built r' g ≡ is_among g (filter_map built_generation r.history
      ++ into ∷ [])
  built-more g = ap (is_among g) (filter_map-append built_generation r.history (e ∷ []))

  applied-into : (g : ℕ) (b : Bool) → nat_eq into g ≡ b
      → cond (nat_eq into g) (Some (last_of (map (λ x. x.upto) (merges_of r' m.merge)))) None
      ≡ cond b (Some m.upto) None
  applied-into g b same =
      ap (λ (c : Bool).
      cond c (Some (last_of (map (λ x. x.upto) (merges_of r' m.merge)))) None) same
      ∙ ap (λ (ms : List Merge). cond b (Some (last_of (map (λ x. x.upto) ms))) None)
      (merges_stay r e m.merge tt ending.begun.before ∙ ending.begun.alone)

  old_piece : (p : PlainPiece) → IsPieceOf r p × (p.generation < into) → IsPieceOf r' p
  old_piece p both =
      let less = both.1 in
      let other : nat_eq into p.generation ≡ false = grind (arith, nat_tests) in
      let turned : nat_eq p.generation into ≡ false = grind (arith, nat_tests) in
      piece_stays r e ending.begun.known tt p
      (λ same. absurd (let one : into ≡ p.generation = cc in omega (arith, one, less)))
      (applied-into p.generation false other)
      (built-more p.generation
      ∙ among_other p.generation into (filter_map built_generation r.history) turned)
      frozen-same both.0

  itself : nat_eq into into ≡ true
  itself = grind (arith, nat_tests)

  new_piece : IsPieceOf r' (brought_piece m into documents)
  new_piece = record {
    documents = is ∙ sym (bring r caller m into gone ending.begun);
    applied_through = sym (applied_last r e ending.begun.known tt into m.upto
        (applied-into into true itself));
    has_segment = built-more into ∙ among_itself into (filter_map built_generation r.history);
    live_docs = subst (λ (ds : List PlainNumbered).
        map (λ _. true) ds ≡ map (λ d. not (is_deleted r.journal m.upto d)) ds) (sym is)
        (passes_all (λ d. list_any (λ g. is_among g m.generations) (holders_of r d))
        (λ d. not (is_deleted r.journal m.upto d)) (documents_from 1 r.journal));
    fresh = tt;
    known = subst (λ (n : ℕ). m.upto ≤ n) (sym frozen-same) ending.upto_frozen;
    buildable = tt;
  }

  abbrev kept : List PlainPiece
  kept = filter (λ p. not (is_among p.generation m.generations)) pieces

  current-same : current r' ≡ filter (λ g. not (is_among g m.generations)) (current r) ++ into ∷ []
  current-same =
      after_merge r caller m into gone ending.begun.alone
      (undrawn_not_replaced r ending.were_drawn into (new r m into ending pieces are))
      (new_apart r m.generations into ending.in_use (new r m into ending pieces are))

  all_generations : map (λ p. p.generation) (kept ++ brought_piece m into documents ∷ [])
      ≡ current r'
  all_generations =
      map-append (λ (p : PlainPiece). p.generation) kept (brought_piece m into documents ∷ [])
      ∙ ap (λ (gs : List ℕ). gs ++ into ∷ []) (kept_current r m into ending pieces are)
      ∙ sym current-same

  rises : RisesFrom 1 (current r')
  rises =
      let left = filter (λ g. not (is_among g m.generations)) (current r) in
      subst (λ (gs : List ℕ). RisesFrom 1 gs) (sym current-same)
      (rises_more 1 into left
      (rises-filter (λ g. not (is_among g m.generations)) 1 (current r)
      (current_rises r m into ending pieces are))
      (below_all r m into ending pieces are left (λ g there.
      current_below r m into ending pieces are g
      (first (is_among g (current r)) (not (is_among g m.generations))
      (sym (among-filter (λ n. not (is_among n m.generations)) g (current r)) ∙ there))))
      ending.least)
    where
      first : (a b : Bool) → (a && b) ≡ true → a ≡ true
      first true b h = refl
      first false b h = h

  pub ended : AreCurrent r'
      (merged_pieces m.generations (brought_piece m into documents ∷ []) pieces)
  ended = record {
    generations = all_generations;
    rising = subst (λ (gs : List ℕ). RisesFrom 1 gs) (sym all_generations) rises;
    each = all_more (IsPieceOf r') kept (brought_piece m into documents)
        (all_weaker (λ p. IsPieceOf r p × (p.generation < into)) (IsPieceOf r') old_piece kept
        (all_kept r m into ending pieces are (λ p. IsPieceOf r p × (p.generation < into)) pieces
        (both_all pieces are.each (pieces_below r m into ending pieces are))))
        new_piece;
    live = rw frozen-same
        (live_after r m into ending pieces are (brought_piece m into documents ∷ [])
        (λ f. ap (total_of f) (append-nil documents ∙ is)));
  }
    where
      both_all : (ps : List PlainPiece) → AllByRecursion (IsPieceOf r) ps
          → AllByRecursion (λ p. p.generation < into) ps
          → AllByRecursion (λ p. IsPieceOf r p × (p.generation < into)) ps
      both_all [] all below = tt
      both_all (p ∷ ps) all below = ((all.0, below.0), both_all ps all.1 below.1)

-- ---- where it brings nothing

pub ended_empty : (r : Record) (caller : ℕ) (m : Merge) (into : ℕ) (gone : List ℕ)
    (pieces : List PlainPiece) → IsEnding r m into → merged_documents r m ≡ []
    → AreCurrent r pieces
    → AreCurrent (with_event r (merge_end caller m.merge None gone))
    (merged_pieces m.generations [] pieces)
ended_empty r caller m into gone pieces ending none are =
    let e = merge_end caller m.merge None gone in
    let kept = filter (λ p. not (is_among p.generation m.generations)) pieces in
    let frozen-same = frozen-skip r.history e refl in
    let left = filter (λ g. not (is_among g m.generations)) (current r) in
    let bare : kept ++ [] ≡ kept = append-nil kept in
    let generations : map (λ p. p.generation) (kept ++ []) ≡ current (with_event r e) =
    ap (λ (ps : List PlainPiece). map (λ p. p.generation) ps) bare
    ∙ kept_current r m into ending pieces are
    ∙ sym (current-after_none r caller m gone ending.begun.alone) in
    record {
      generations = generations;
      rising = subst (λ (gs : List ℕ). RisesFrom 1 gs)
          (sym (generations ∙ current-after_none r caller m gone ending.begun.alone))
          (rises-filter (λ g. not (is_among g m.generations)) 1 (current r)
          (current_rises r m into ending pieces are));
      each = subst (λ (ps : List PlainPiece). AllByRecursion (IsPieceOf (with_event r e)) ps)
          (sym bare)
          (all_weaker (IsPieceOf r) (IsPieceOf (with_event r e))
          (λ p is. piece_stays r e ending.begun.known tt p (λ same. absurd cc) refl
          (ap (is_among p.generation) (skips built_generation r.history e refl)) frozen-same is)
          kept (all_kept r m into ending pieces are (IsPieceOf r) pieces are.each));
      live = rw frozen-same
          (live_after r m into ending pieces are [] (λ f. ap (total_of f) (sym none)));
    }

-- ---- the law

pub merges_keep : MergesKeepPieces
merges_keep = record {
  leaves = leaves;
  begins = λ r caller gens new. record {
    next = refl;
    freezes = refl;
    draws = refl;
    builds = refl;
    applies = λ g. refl;
    same = current-begin r.history caller (next_merge r) gens new;
  };
  drops = λ r caller merge. record {
    next = tt;
    freezes = refl;
    draws = refl;
    builds = refl;
    applies = λ g. refl;
    same = current-skip r.history (merge_drop caller merge) (λ k. refl) refl refl;
  };
  ends = λ r caller m into gone documents pieces ending is are.
      ended r caller m into gone documents pieces ending is are;
  ends_empty = ended_empty;
}
