-- What one operation more leaves.
use Rattle.std.proofs.Common.{◌≡◌, ◌≤◌, ◌<◌, ◌+◌, ℕ, Bool, true, false, cond, not, ◌&&◌, ◌||◌}
use Rattle.std.proofs.Common.{Some, None, List, [], ◌∷◌, ◌++◌, length, take, refl, sym, ap, ◌∙◌}
use Rattle.std.proofs.Common.{subst, arith}
use Rattle.std.specs.Prelude.{filter, fold, nat_le, nat_eq}
use Rattle.std.specs.List.{AllByRecursion, filter_map, list_any}
use Rattle.std.proofs.lemmas.Bool.Decides.{nat_tests}
use Rattle.std.proofs.lemmas.List.{append-nil, take-append-le}
use Rattle.std.proofs.lemmas.List.Elements.{filter-append, filter_agree}
use Rattle.sg_paths.specs.Operations.{PlainOp, PlainNumbered, documents_from}
use Rattle.sg_paths.specs.LiveDocuments.{is_deleted, live_documents}
use Rattle.sg_paths.proofs.LiveDocumentsLemmas.{documents_from-append}
use Rattle.segment.specs.Pieces.{PlainPiece, piece_documents}
use Rattle.segment.specs.Views.{all_documents}
use Rattle.index_core.specs.Histories.{HistoryEvent, accept, freeze, begin, built}
use Rattle.index_core.specs.Histories.{live_docs_updated, merge_begin, merge_end, merge_drop}
use Rattle.index_core.specs.Histories.{view_end, Record, Merge, is_among, frozen_upto}
use Rattle.index_core.specs.Records.{with_event, accepted, frozen, begun_merges}
use Rattle.index_core.specs.Generations.{merges_of, is_kept_by, holders_after, holders_of}
use Rattle.index_core.specs.Generations.{documents_of, applied}
use Rattle.index_core.specs.Calls.{with_operation}
use Rattle.index_core.specs.CurrentPieces.{IsPieceOf}
use Rattle.index_core.specs.EndedMerges.{HasKnownMerges}
use Rattle.index_core.specs.Keeping.{AreCurrent, IsPlain}
use Rattle.index_core.proofs.AppliedLemmas.{applied_stay}
use Rattle.index_core.proofs.EventLemmas.{merges-skip, current-skip}
use Rattle.index_core.proofs.ListLemmas.{all_filter}
use Rattle.index_core.proofs.HistoryLemmas.{frozen-skip}
use Rattle.index_core.proofs.GenerationLemmas.{built_stays}
use Rattle.index_core.proofs.JournalLemmas.{deleted_stays, live_docs_stay, one_filtered}
use Rattle.index_core.proofs.JournalLemmas.{before_more}
use Rattle.index_core.proofs.KnownMergeLemmas.{known as known_merges}
use Rattle.index_core.proofs.ListLemmas.{all_weaker}
use Rattle.index_core.proofs.MergingLemmas.{holders_next}

-- merges are known, and all that is frozen or merged is of the journal
pub record AreWithin (r : Record) : Type 0 where
  pub known : HasKnownMerges r
  pub merges : AllByRecursion (λ m. m.upto ≤ length r.journal) (begun_merges r)
  pub freezes : AllByRecursion (λ n. n ≤ length r.journal) (filter_map frozen_upto r.history)
  pub frozen_within : frozen r ≤ length r.journal

-- ---- documents that nothing holds

none_kept : (journal : List PlainOp) (d : PlainNumbered) (ms : List Merge)
    → list_any (is_kept_by journal d []) ms ≡ false
none_kept journal d [] = refl
none_kept journal d (m ∷ ms) = none_kept journal d ms

unfrozen : (f u n g : ℕ) → u < n → cond (nat_le f n && nat_le n u) ([] ++ g ∷ []) [] ≡ []
unfrozen f u n g less = by_test (nat_le f n) (grind (arith, nat_tests, less))
  where
    by_test : (b : Bool) → nat_le n u ≡ false → cond (b && nat_le n u) ([] ++ g ∷ []) [] ≡ []
    by_test true out = rw out refl
    by_test false out = refl

-- a document after all that is frozen
pub unheld : (r : Record) (d : PlainNumbered) (h : List HistoryEvent)
    → AllByRecursion (λ u. u < d.seq) (filter_map frozen_upto h)
    → fold (holders_after r d) [] h ≡ []
unheld r d [] before = refl
unheld r d (accept c q ∷ h) before = unheld r d h before
unheld r d (freeze c g f u ∷ h) before =
    ap (λ (gs : List ℕ). fold (holders_after r d) gs h) (unfrozen f u d.seq g before.0)
    ∙ unheld r d h before.1
unheld r d (begin c v u gs ∷ h) before = unheld r d h before
unheld r d (built c g ∷ h) before = unheld r d h before
unheld r d (live_docs_updated c g a ∷ h) before = unheld r d h before
unheld r d (merge_begin c m gs ∷ h) before = unheld r d h before
unheld r d (merge_end c m None gone ∷ h) before = unheld r d h before
unheld r d (merge_end c m (Some into) gone ∷ h) before =
    ap (λ (b : Bool). fold (holders_after r d) (cond b ([] ++ into ∷ []) []) h)
    (none_kept r.journal d (merges_of r m))
    ∙ unheld r d h before
unheld r d (merge_drop c m ∷ h) before = unheld r d h before
unheld r d (view_end c v gone ∷ h) before = unheld r d h before

-- ---- a longer journal

kept_same : (journal more : List PlainOp) (d : PlainNumbered) (gens : List ℕ) (ms : List Merge)
    → AllByRecursion (λ m. m.upto ≤ length journal) ms
    → list_any (is_kept_by (journal ++ more) d gens) ms
    ≡ list_any (is_kept_by journal d gens) ms
kept_same journal more d gens [] within = refl
kept_same journal more d gens (m ∷ ms) within =
    ap (λ (b : Bool). (list_any (λ g. is_among g m.generations) gens && not b)
    || list_any (is_kept_by (journal ++ more) d gens) ms)
    (deleted_stays journal more m.upto d within.0)
    ∙ ap (λ (b : Bool). is_kept_by journal d gens m || b)
    (kept_same journal more d gens ms within.1)

module _ (history : List HistoryEvent) (journal more : List PlainOp) where
  abbrev short : Record
  short = record { history = history; journal = journal }

  abbrev long : Record
  long = record { history = history; journal = journal ++ more }

  holders_longer : (d : PlainNumbered) (gens : List ℕ) (e : HistoryEvent)
      → AllByRecursion (λ m. m.upto ≤ length journal) (begun_merges short)
      → holders_after long d gens e ≡ holders_after short d gens e
  holders_longer d gens (accept a b) within = refl
  holders_longer d gens (freeze a b f u) within = refl
  holders_longer d gens (begin a b u gs) within = refl
  holders_longer d gens (built a b) within = refl
  holders_longer d gens (live_docs_updated a b c) within = refl
  holders_longer d gens (merge_begin a b gs) within = refl
  holders_longer d gens (merge_end a b None gone) within = refl
  holders_longer d gens (merge_end a b (Some into) gone) within =
      ap (λ (c : Bool). cond c (gens ++ into ∷ []) gens)
      (kept_same journal more d gens (merges_of short b)
      (all_filter (λ m. m.upto ≤ length journal) (λ m. nat_eq m.merge b) (begun_merges short)
      within))
  holders_longer d gens (merge_drop a b) within = refl
  holders_longer d gens (view_end a b gone) within = refl

  pub fold_longer : (d : PlainNumbered) (h : List HistoryEvent) (gens : List ℕ)
      → AllByRecursion (λ m. m.upto ≤ length journal) (begun_merges short)
      → fold (holders_after long d) gens h ≡ fold (holders_after short d) gens h
  fold_longer d [] gens within = refl
  fold_longer d (e ∷ h) gens within =
      ap (λ (gs : List ℕ). fold (holders_after long d) gs h) (holders_longer d gens e within)
      ∙ fold_longer d h (holders_after short d gens e) within

-- ---- an operation more

module _ (r : Record) (within : AreWithin r) (caller : ℕ) (op : PlainOp) where
  abbrev e : HistoryEvent
  e = accept caller (accepted r + 1)

  abbrev r' : Record
  r' = with_operation caller op r

  merges_within : AllByRecursion (λ m. m.upto ≤ length r.journal) (begun_merges (with_event r e))
  merges_within =
      subst (λ (ms : List Merge). AllByRecursion (λ m. m.upto ≤ length r.journal) ms)
      (sym (merges-skip r.history e (λ n. refl))) within.merges

  pub holders_stay : (d : PlainNumbered) → holders_of r' d ≡ holders_of r d
  holders_stay d =
      fold_longer (r.history ++ e ∷ []) r.journal (op ∷ []) d (r.history ++ e ∷ []) []
      merges_within
      ∙ holders_next r e within.known tt d

  pub documents_stay : (g : ℕ) → documents_of r' g ≡ documents_of r g
  documents_stay g =
      let t : PlainNumbered → Bool = λ d. is_among g (holders_of r' d) in
      let t' : PlainNumbered → Bool = λ d. is_among g (holders_of r d) in
      let later = documents_from (1 + length r.journal) (op ∷ []) in
      ap (filter t) (documents_from-append 1 r.journal (op ∷ []))
      ∙ filter-append t (documents_from 1 r.journal) later
      ∙ ap (λ (ds : List PlainNumbered). filter t (documents_from 1 r.journal) ++ ds)
      (one_filtered t (1 + length r.journal) op (λ d is. ap (is_among g) (holders_stay d
      ∙ unheld r d r.history
      (before_more (length r.journal) d.seq (filter_map frozen_upto r.history) within.freezes
      (omega (arith, is))))))
      ∙ append-nil (filter t (documents_from 1 r.journal))
      ∙ filter_agree t t' (λ d. ap (is_among g) (holders_stay d)) (documents_from 1 r.journal)

  frozen-same : frozen r' ≡ frozen r
  frozen-same = frozen-skip r.history e refl

  pub applied_same : (g : ℕ) → applied r' g ≡ applied r g
  applied_same g = applied_stay r e within.known tt g refl

  pub piece_stays : (p : PlainPiece) → IsPieceOf r p → IsPieceOf r' p
  piece_stays p is = record {
    documents = is.documents ∙ sym (documents_stay p.generation);
    applied_through = is.applied_through ∙ sym (applied_same p.generation);
    has_segment = built_stays r e p.generation refl ∙ is.has_segment;
    live_docs = is.live_docs
        ∙ sym (live_docs_stay r.journal (op ∷ []) p.applied (piece_documents p)
        (omega (arith, is.known, within.frozen_within)));
    fresh = is.fresh;
    known = subst (λ (n : ℕ). p.applied ≤ n) (sym frozen-same) is.known;
    buildable = is.buildable;
  }

  pub accept_leaves : (pieces : List PlainPiece) → AreCurrent r pieces → AreCurrent r' pieces
  accept_leaves pieces are =
      let n = frozen r in
      let live : (ds : List PlainNumbered) → filter (λ d. not (is_deleted r'.journal n d)) ds
      ≡ filter (λ d. not (is_deleted r.journal n d)) ds =
      filter_agree (λ d. not (is_deleted r'.journal n d)) (λ d. not (is_deleted r.journal n d))
      (λ d. ap not (deleted_stays r.journal (op ∷ []) n d within.frozen_within)) in
      let first = take-append-le n r.journal (op ∷ []) within.frozen_within in
      let whole : live_documents r'.journal n ≡ live_documents r.journal n =
      live (documents_from 1 (take n r'.journal))
      ∙ ap (λ (ops : List PlainOp). filter (λ d. not (is_deleted r.journal n d))
      (documents_from 1 ops)) first in
      record {
        generations = are.generations
            ∙ sym (current-skip r.history e (λ k. refl) refl refl);
        rising = are.rising;
        each = all_weaker (IsPieceOf r) (IsPieceOf r') piece_stays pieces are.each;
        live = rw (frozen-same, live (all_documents pieces), whole) are.live;
      }

-- ---- a plain record

pub are_within : (r : Record) → IsPlain r → AreWithin r
are_within r plain =
    let inside = plain.frozen_within in
    record {
      known = known_merges r plain.merges;
      merges = all_weaker (λ (m : Merge). m.upto ≤ frozen r) (λ m. m.upto ≤ length r.journal)
          (λ m most. omega (arith, inside, most)) (begun_merges r) plain.merges.within;
      freezes = all_weaker (λ (n : ℕ). n ≤ frozen r) (λ n. n ≤ length r.journal)
          (λ n most. omega (arith, inside, most)) (filter_map frozen_upto r.history)
          plain.frozen_before;
      frozen_within = inside;
    }

pub accept_keeps : (r : Record) → IsPlain r → (caller : ℕ) (op : PlainOp)
    (pieces : List PlainPiece) → AreCurrent r pieces
    → AreCurrent (with_operation caller op r) pieces
accept_keeps r plain caller op = accept_leaves r (are_within r plain) caller op
