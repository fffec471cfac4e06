-- The current pieces once a generation has its segment, or live docs that know more.
use Rattle.std.proofs.Common.{◌≡◌, ◌≤◌, ℕ, Bool, true, false, cond}
use Rattle.std.proofs.Common.{nat_eq, List, [], ◌∷◌, ◌++◌, map, refl}
use Rattle.std.proofs.Common.{sym, ap, ◌∙◌, subst, arith, Option, Some, None}
use Rattle.std.specs.List.{AllByRecursion}
use Rattle.std.proofs.lemmas.Bool.Decides.{nat_tests}
use Rattle.sg_paths.specs.Operations.{PlainNumbered}
use Rattle.segment.specs.Pieces.{PieceBody, unbuilt, segment, PlainPiece, piece_documents}
use Rattle.segment.specs.Pieces.{live_docs_or_all, live_docs_at}
use Rattle.segment.specs.Views.{all_documents}
use Rattle.index_core.specs.Histories.{HistoryEvent, built}
use Rattle.index_core.specs.Histories.{live_docs_updated, Record}
use Rattle.index_core.specs.Records.{with_event, frozen}
use Rattle.index_core.specs.Generations.{documents_of, applied, is_built}
use Rattle.index_core.specs.CurrentPieces.{is_segment, IsFresh, IsPieceOf}
use Rattle.index_core.specs.HeldGenerations.{RisesFrom}
use Rattle.index_core.specs.Keeping.{AreCurrent, IsPlain, with_piece, with_segment}
use Rattle.index_core.specs.Keeping.{with_live_docs}
use Rattle.index_core.proofs.ListLemmas.{same_number}
use Rattle.index_core.proofs.AppliedLemmas.{applied_stay, applied_last}
use Rattle.index_core.proofs.EventLemmas.{current-skip}
use Rattle.index_core.proofs.HistoryLemmas.{frozen-skip}
use Rattle.index_core.proofs.GenerationLemmas.{built_stays, built_other, built_now}
use Rattle.index_core.proofs.KnownMergeLemmas.{known as known_merges}
use Rattle.index_core.proofs.MergedPieceLemmas.{none_some}
use Rattle.index_core.proofs.MergingLemmas.{stay}

-- ---- changing the pieces of one generation

kept_generation : (g : ℕ) (change : PlainPiece → PlainPiece) (p : PlainPiece)
    → ((q : PlainPiece) → (change q).generation ≡ q.generation)
    → (cond (nat_eq p.generation g) (change p) p).generation ≡ p.generation
kept_generation g change p keeps = by_cases (nat_eq p.generation g)
  where
    by_cases : (b : Bool) → (cond b (change p) p).generation ≡ p.generation
    by_cases true = keeps p
    by_cases false = refl

pub kept_generations : (g : ℕ) (change : PlainPiece → PlainPiece)
    → ((q : PlainPiece) → (change q).generation ≡ q.generation) → (ps : List PlainPiece)
    → map (λ p. p.generation) (with_piece g change ps) ≡ map (λ p. p.generation) ps
kept_generations g change keeps [] = refl
kept_generations g change keeps (p ∷ ps) =
    ap (λ (n : ℕ). n ∷ map (λ q. q.generation) (with_piece g change ps))
    (kept_generation g change p keeps)
    ∙ ap (λ (gs : List ℕ). p.generation ∷ gs) (kept_generations g change keeps ps)

-- each piece after a change of those of one generation
each_after : (P Q : PlainPiece → Type 0) (g : ℕ) (change : PlainPiece → PlainPiece)
    → ((p : PlainPiece) → nat_eq p.generation g ≡ true → P p → Q (change p))
    → ((p : PlainPiece) → nat_eq p.generation g ≡ false → P p → Q p)
    → (ps : List PlainPiece) → AllByRecursion P ps → AllByRecursion Q (with_piece g change ps)
each_after P Q g change here there [] all = tt
each_after P Q g change here there (p ∷ ps) all =
    (by_cases (nat_eq p.generation g) refl, each_after P Q g change here there ps all.1)
  where
    by_cases : (b : Bool) → nat_eq p.generation g ≡ b → Q (cond b (change p) p)
    by_cases true is = here p is all.0
    by_cases false is = there p is all.0

-- the documents stay where each change keeps them
documents_kept : (P : PlainPiece → Type 0) (g : ℕ) (change : PlainPiece → PlainPiece)
    → ((p : PlainPiece) → nat_eq p.generation g ≡ true → P p
    → piece_documents (change p) ≡ piece_documents p)
    → (ps : List PlainPiece) → AllByRecursion P ps
    → all_documents (with_piece g change ps) ≡ all_documents ps
documents_kept P g change keeps [] all = refl
documents_kept P g change keeps (p ∷ ps) all =
    ap (λ (ds : List PlainNumbered). ds ++ all_documents (with_piece g change ps))
    (by_cases (nat_eq p.generation g) refl)
    ∙ ap (λ (ds : List PlainNumbered). piece_documents p ++ ds)
    (documents_kept P g change keeps ps all.1)
  where
    by_cases : (b : Bool) → nat_eq p.generation g ≡ b
        → piece_documents (cond b (change p) p) ≡ piece_documents p
    by_cases true is = keeps p is all.0
    by_cases false is = refl

-- ---- a generation gets its segment

module _ (r : Record) (plain : IsPlain r) (caller g : ℕ) where
  abbrev e-built : HistoryEvent
  e-built = built caller g

  abbrev r-built : Record
  r-built = with_event r e-built

  stays-built : (x : ℕ) → documents_of r-built x ≡ documents_of r x
  stays-built x = stay r e-built x (known_merges r plain.merges) tt (none_some x None refl)

  applied-built : (x : ℕ) → applied r-built x ≡ applied r x
  applied-built x = applied_stay r e-built (known_merges r plain.merges) tt x refl

  frozen-built : frozen r-built ≡ frozen r
  frozen-built = frozen-skip r.history e-built refl

  other_piece-built : (p : PlainPiece) → nat_eq p.generation g ≡ false → IsPieceOf r p
      → IsPieceOf r-built p
  other_piece-built p other is = record {
    documents = is.documents ∙ sym (stays-built p.generation);
    applied_through = is.applied_through ∙ sym (applied-built p.generation);
    has_segment = built_other r caller p.generation g other ∙ is.has_segment;
    live_docs = is.live_docs;
    fresh = is.fresh;
    known = subst (λ (n : ℕ). p.applied ≤ n) (sym frozen-built) is.known;
    buildable = is.buildable;
  }

  -- the piece itself
  this_piece-built : (documents : List PlainNumbered) → documents ≡ documents_of r g
      → (p : PlainPiece) → nat_eq p.generation g ≡ true → IsPieceOf r p
      → IsPieceOf r-built (with_segment documents p)
  this_piece-built documents are p here is =
      let same : p.generation ≡ g = same_number p.generation g here in
      let all : documents ≡ piece_documents p =
      are ∙ sym (ap (documents_of r) same) ∙ sym is.documents in
      record {
        documents = all ∙ is.documents ∙ sym (stays-built p.generation);
        applied_through = is.applied_through ∙ sym (applied-built p.generation);
        has_segment =
            ap (is_built r-built) same ∙ built_now r caller g;
        live_docs = subst (λ (ds : List PlainNumbered).
            live_docs_or_all ds p.live_docs ≡ live_docs_at r.journal p.applied ds) (sym all)
            is.live_docs;
        fresh = tt;
        known = subst (λ (n : ℕ). p.applied ≤ n) (sym frozen-built) is.known;
        buildable = tt;
      }

  pub built_keeps : (pieces : List PlainPiece) → AreCurrent r pieces
      → (documents : List PlainNumbered) → documents ≡ documents_of r g
      → AreCurrent r-built (with_piece g (with_segment documents) pieces)
  built_keeps pieces are documents is =
      let generations = kept_generations g (with_segment documents) (λ q. refl) pieces in
      let stay : all_documents (with_piece g (with_segment documents) pieces)
      ≡ all_documents pieces =
      documents_kept (IsPieceOf r) g (with_segment documents)
      (λ p here of. is ∙ sym (ap (documents_of r) (same_number p.generation g here))
      ∙ sym of.documents) pieces are.each in
      record {
        generations =
            generations ∙ are.generations
            ∙ sym (current-skip r.history e-built (λ k. refl) refl refl);
        rising = subst (RisesFrom 1) (sym generations) are.rising;
        each = each_after (IsPieceOf r) (IsPieceOf r-built) g (with_segment documents)
            (this_piece-built documents is) other_piece-built pieces are.each;
        live = rw (frozen-built, stay) are.live;
      }

-- ---- live docs of a generation know more deletes

module _ (r : Record) (plain : IsPlain r) (caller g upto : ℕ) where
  abbrev e-lived : HistoryEvent
  e-lived = live_docs_updated caller g upto

  abbrev r-lived : Record
  r-lived = with_event r e-lived

  stays-lived : (x : ℕ) → documents_of r-lived x ≡ documents_of r x
  stays-lived x = stay r e-lived x (known_merges r plain.merges) tt (none_some x None refl)

  frozen-lived : frozen r-lived ≡ frozen r
  frozen-lived = frozen-skip r.history e-lived refl

  other_piece-lived : (p : PlainPiece) → nat_eq p.generation g ≡ false → IsPieceOf r p
      → IsPieceOf r-lived p
  other_piece-lived p other is =
      let other' : nat_eq g p.generation ≡ false = grind (arith, nat_tests, other) in
      record {
        documents = is.documents ∙ sym (stays-lived p.generation);
        applied_through =
            is.applied_through
            ∙ sym (applied_stay r e-lived (known_merges r plain.merges) tt p.generation
            (rw other' refl));
        has_segment = built_stays r e-lived p.generation refl ∙ is.has_segment;
        live_docs = is.live_docs;
        fresh = is.fresh;
        known = subst (λ (n : ℕ). p.applied ≤ n) (sym frozen-lived) is.known;
        buildable = is.buildable;
      }

  segment_of_built : (b : PieceBody) (live_docs : Option (List Bool)) → is_segment b ≡ true
      → IsFresh b live_docs
  segment_of_built (unbuilt batch) live_docs is = let no : false ≡ true = is in cc
  segment_of_built (segment documents) live_docs is = tt

  this_piece-lived : (live_docs : List Bool) → live_docs
      ≡ live_docs_at r.journal upto (documents_of r g)
      → is_built r g ≡ true → upto ≤ frozen r
      → (p : PlainPiece) → nat_eq p.generation g ≡ true → IsPieceOf r p
      → IsPieceOf r-lived (with_live_docs live_docs upto p)
  this_piece-lived live_docs are has within p here is =
      let same : p.generation ≡ g = same_number p.generation g here in
      let test : nat_eq g p.generation ≡ true = grind (arith, nat_tests, same) in
      let body : is_segment p.body ≡ true =
      sym is.has_segment ∙ ap (is_built r) same ∙ has in
      record {
        documents = is.documents ∙ sym (stays-lived p.generation);
        applied_through =
            sym (applied_last r e-lived (known_merges r plain.merges) tt p.generation upto
            (rw test refl));
        has_segment = built_stays r e-lived p.generation refl ∙ is.has_segment;
        live_docs = are ∙ ap (live_docs_at r.journal upto)
            (sym (ap (documents_of r) same) ∙ sym is.documents);
        fresh = segment_of_built p.body (Some live_docs) body;
        known = subst (λ (n : ℕ). upto ≤ n) (sym frozen-lived) within;
        buildable = is.buildable;
      }

  pub lived_keeps : (pieces : List PlainPiece) → AreCurrent r pieces
      → (live_docs : List Bool) → is_built r g ≡ true → upto ≤ frozen r
      → live_docs ≡ live_docs_at r.journal upto (documents_of r g)
      → AreCurrent r-lived (with_piece g (with_live_docs live_docs upto) pieces)
  lived_keeps pieces are live_docs has within is =
      let generations = kept_generations g (with_live_docs live_docs upto) (λ q. refl) pieces in
      let stay : all_documents (with_piece g (with_live_docs live_docs upto) pieces)
      ≡ all_documents pieces =
      documents_kept (IsPieceOf r) g (with_live_docs live_docs upto) (λ p here of. refl) pieces
      are.each in
      record {
        generations =
            generations ∙ are.generations
            ∙ sym (current-skip r.history e-lived (λ k. refl) refl refl);
        rising = subst (RisesFrom 1) (sym generations) are.rising;
        each = each_after (IsPieceOf r) (IsPieceOf r-lived) g (with_live_docs live_docs upto)
            (this_piece-lived live_docs is has within) other_piece-lived pieces are.each;
        live = rw (frozen-lived, stay) are.live;
      }
