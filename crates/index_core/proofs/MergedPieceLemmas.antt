-- The current pieces after a merge has begun, was dropped, or has ended.
use Rattle.std.proofs.Common.{◌≡◌, ◌≤◌, ◌<◌, ◌+◌, ℕ, Bool, true, false, cond, not, nat_eq}
use Rattle.std.proofs.Common.{◌&&◌, ◌||◌, Option, Some, None, List, [], ◌∷◌, ◌++◌, length, map}
use Rattle.std.proofs.Common.{refl, sym, ap, ◌∙◌, subst, arith, Ordering}
use Rattle.std.specs.Prelude.{filter}
use Rattle.std.specs.Ordering.{is_lt}
use Rattle.std.specs.List.{AllByRecursion, flat_map, list_any}
use Rattle.std.proofs.lemmas.Bool.Decides.{nat_tests}
use Rattle.sg_base.specs.Ranking.{put_in, in_order}
use Rattle.sg_paths.specs.Operations.{PlainNumbered, documents_from}
use Rattle.sg_paths.specs.LiveDocuments.{is_deleted, live_documents}
use Rattle.segment.specs.Items.{total_of, HaveSameItems}
use Rattle.segment.specs.Pieces.{PlainPiece}
use Rattle.segment.specs.Views.{all_documents}
use Rattle.index_core.specs.Histories.{HistoryEvent, Record}
use Rattle.index_core.specs.Histories.{Merge, is_among, built_generation}
use Rattle.index_core.specs.Records.{with_event, drawn, frozen, current}
use Rattle.index_core.specs.Generations.{holders_of, documents_of}
use Rattle.index_core.specs.LegalHistories.{merged_documents}
use Rattle.index_core.specs.CurrentPieces.{IsPieceOf}
use Rattle.index_core.specs.EndedMerges.{HasKnownMerges, OneHolds, holding, sources, merged_pieces}
use Rattle.index_core.specs.EndedMerges.{document_cmp}
use Rattle.index_core.specs.HeldGenerations.{RisesFrom}
use Rattle.index_core.specs.HeldEvents.{AreInUse}
use Rattle.index_core.specs.Keeping.{AreCurrent}
use Rattle.index_core.specs.MergedPieces.{LeavesPieces, IsEnding}
use Rattle.index_core.proofs.AppliedLemmas.{piece_stays}
use Rattle.index_core.proofs.ByNumberLemmas.{by_numbers}
use Rattle.index_core.proofs.HeldEventLemmas.{current_drawn}
use Rattle.index_core.proofs.HistoryLemmas.{skips, frozen-skip}
use Rattle.index_core.proofs.ListLemmas.{all_weaker, in_all}
use Rattle.index_core.proofs.LivePieceLemmas.{keeps_live}
use Rattle.index_core.proofs.RisingLemmas.{same_rising, rises-filter, among-filter}

-- ---- events that leave the pieces

-- what is none is nothing
pub none_some : {X : Type 0} (x : X) (o : Option X) → o ≡ None → (o ≡ Some x → ⊥)
none_some {X} x o none some = let no : Some x ≡ None = sym some ∙ none in absurd cc

pub leaves : (r : Record) (e : HistoryEvent) (pieces : List PlainPiece) → HasKnownMerges r
    → LeavesPieces r e → AreCurrent r pieces → AreCurrent (with_event r e) pieces
leaves r e pieces known quiet are =
    let frozen-same = frozen-skip r.history e quiet.freezes in
    record {
      generations = are.generations ∙ sym quiet.same;
      rising = are.rising;
      each = all_weaker (IsPieceOf r) (IsPieceOf (with_event r e))
          (λ p is. piece_stays r e known quiet.next p
          (none_some p.generation _ quiet.draws) (quiet.applies p.generation)
          (ap (is_among p.generation) (skips built_generation r.history e quiet.builds))
          frozen-same is) pieces are.each;
      live = rw frozen-same are.live;
    }

-- ---- the documents of a merge's pieces

total-put_in : {X : Type 0} (R : X → X → Ordering) (f : X → ℕ) (x : X) (ys : List X)
    → total_of f (put_in R x ys) ≡ f x + total_of f ys
total-put_in R f x [] = refl
total-put_in R f x (y ∷ ys) = by_test (is_lt (R y x)) (total-put_in R f x ys)
  where
    by_test : (b : Bool) → total_of f (put_in R x ys) ≡ f x + total_of f ys
        → total_of f (cond b (y ∷ put_in R x ys) (x ∷ (y ∷ ys))) ≡ f x + (f y + total_of f ys)
    by_test true e = omega (arith, e)
    by_test false e = refl

total-in_order : {X : Type 0} (R : X → X → Ordering) (f : X → ℕ) (xs : List X)
    → total_of f (in_order R xs) ≡ total_of f xs
total-in_order R f [] = refl
total-in_order R f (x ∷ xs) =
    total-put_in R f x (in_order R xs) ∙ ap (λ (n : ℕ). f x + n) (total-in_order R f xs)

source_documents : (r : Record) (gens : List ℕ) (ps : List PlainPiece)
    → AllByRecursion (IsPieceOf r) ps
    → all_documents (sources gens ps)
    ≡ flat_map (documents_of r) (filter (λ g. is_among g gens) (map (λ p. p.generation) ps))
source_documents r gens [] all = refl
source_documents r gens (p ∷ ps) all =
    by_test (is_among p.generation gens) (source_documents r gens ps all.1)
  where
    by_test : (b : Bool)
        → all_documents (sources gens ps)
        ≡ flat_map (documents_of r) (filter (λ g. is_among g gens) (map (λ q. q.generation) ps))
        → all_documents (cond b (p ∷ sources gens ps) (sources gens ps))
        ≡ flat_map (documents_of r) (cond b
        (p.generation ∷ filter (λ g. is_among g gens) (map (λ q. q.generation) ps))
        (filter (λ g. is_among g gens) (map (λ q. q.generation) ps)))
    by_test true e =
        ap (λ (ds : List PlainNumbered). ds ++ all_documents (sources gens ps)) all.0.documents
        ∙ ap (λ (ds : List PlainNumbered). documents_of r p.generation ++ ds) e
    by_test false e = e

-- of those that are current, the merge's are its own list
pub own_generations : (r : Record) (gens : List ℕ) (n : ℕ) → RisesFrom n (current r)
    → RisesFrom 0 gens → AreInUse r gens → filter (λ g. is_among g gens) (current r) ≡ gens
own_generations r gens n up rising used =
    same_rising n 0 (filter (λ g. is_among g gens) (current r)) gens
    (rises-filter (λ g. is_among g gens) n (current r) up) rising
    (λ g. among-filter (λ x. is_among x gens) g (current r)
    ∙ by_test (is_among g gens) (is_among g (current r)) (used g))
  where
    by_test : (a b : Bool) → (a ≡ true → b ≡ true) → (b && a) ≡ a
    by_test true b h = ap (λ (c : Bool). c && true) (h refl)
    by_test false true h = refl
    by_test false false h = refl

-- ---- each document is held once

pub fewer_pass : (t p : ℕ → Bool) (gs : List ℕ)
    → length (filter t (filter p gs)) ≤ length (filter t gs)
fewer_pass t p [] = omega arith
fewer_pass t p (g ∷ gs) = by_tests (p g) (t g) refl (fewer_pass t p gs)
  where
    by_tests : (b c : Bool) → t g ≡ c → length (filter t (filter p gs)) ≤ length (filter t gs)
        → length (filter t (cond b (g ∷ filter p gs) (filter p gs)))
        ≤ length (cond c (g ∷ filter t gs) (filter t gs))
    by_tests true true is e = rw is (omega (arith, e))
    by_tests true false is e = rw is e
    by_tests false true is e = omega (arith, e)
    by_tests false false is e = e

none_any : (t : ℕ → Bool) (gs : List ℕ) → length (filter t gs) ≡ 0 → list_any t gs ≡ false
none_any t [] none = refl
none_any t (g ∷ gs) none = by_test (t g) none (λ e. none_any t gs e)
  where
    by_test : (b : Bool) → length (cond b (g ∷ filter t gs) (filter t gs)) ≡ 0
        → (length (filter t gs) ≡ 0 → list_any t gs ≡ false) → (b || list_any t gs) ≡ false
    by_test true e again = absurd (omega (arith, e))
    by_test false e again = again e

pub one_of_count : (r : Record) (d : PlainNumbered) (gs : List ℕ) → holding r d gs ≤ 1
    → OneHolds r d gs
one_of_count r d [] most = tt
one_of_count r d (g ∷ gs) most =
    by_test (is_among g (holders_of r d)) refl most (λ h. one_of_count r d gs h)
  where
    by_test : (b : Bool) → is_among g (holders_of r d) ≡ b
        → length (cond b (g ∷ filter (λ h. is_among h (holders_of r d)) gs)
        (filter (λ h. is_among h (holders_of r d)) gs)) ≤ 1
        → (holding r d gs ≤ 1 → OneHolds r d gs) → OneHolds r d (g ∷ gs)
    by_test true is e again = (
      λ _. none_any (λ h. is_among h (holders_of r d)) gs (omega (arith, e)),
      again (omega (arith, e)),
    )
    by_test false is e again = (
      λ held. let no : true ≡ false = sym held ∙ is in absurd cc,
      again e,
    )

-- ---- what a merge that ends brings

module _ (r : Record) (m : Merge) (into : ℕ) (ending : IsEnding r m into)
    (pieces : List PlainPiece) (are : AreCurrent r pieces) where
  pub current_rises : RisesFrom 1 (current r)
  current_rises = subst (λ (gs : List ℕ). RisesFrom 1 gs) are.generations are.rising

  pub own : filter (λ g. is_among g m.generations) (current r) ≡ m.generations
  own = own_generations r m.generations 1 current_rises ending.rising ending.in_use

  pub one_holds : AllByRecursion (λ d. OneHolds r d m.generations) (documents_from 1 r.journal)
  one_holds =
      all_weaker (λ d. holding r d (current r) ≤ 1) (λ d. OneHolds r d m.generations)
      (λ d most. subst (λ (gs : List ℕ). OneHolds r d gs) own
      (one_of_count r d (filter (λ g. is_among g m.generations) (current r))
      (let fewer = fewer_pass (λ h. is_among h (holders_of r d))
      (λ g. is_among g m.generations) (current r) in omega (arith, fewer, most))))
      (documents_from 1 r.journal) ending.one

  source_items : HaveSameItems (merged_documents r m)
      (filter (λ d. not (is_deleted r.journal m.upto d))
      (all_documents (sources m.generations pieces)))
  source_items f =
      let keeps : List PlainNumbered → List PlainNumbered =
      λ ds. filter (λ d. not (is_deleted r.journal m.upto d)) ds in
      ap (total_of f) (sym (by_numbers r m one_holds))
      ∙ total-in_order document_cmp f (keeps (flat_map (documents_of r) m.generations))
      ∙ ap (λ (gs : List ℕ). total_of f (keeps (flat_map (documents_of r) gs)))
      (sym (ap (λ (gs : List ℕ). filter (λ g. is_among g m.generations) gs) are.generations ∙ own))
      ∙ ap (λ (ds : List PlainNumbered). total_of f (keeps ds))
      (sym (source_documents r m.generations pieces are.each))

  pub live_after : (brought : List PlainPiece)
      → HaveSameItems (all_documents brought) (merged_documents r m)
      → HaveSameItems (filter (λ d. not (is_deleted r.journal (frozen r) d))
      (all_documents (merged_pieces m.generations brought pieces)))
      (live_documents r.journal (frozen r))
  live_after brought same =
      keeps_live r.journal m.upto (frozen r) m.generations pieces brought ending.upto_frozen
      ending.frozen_within (λ f. same f ∙ source_items f) are.live

  -- ---- the generations

  kept-generations : (gens : List ℕ) (ps : List PlainPiece)
      → map (λ p. p.generation) (filter (λ p. not (is_among p.generation gens)) ps)
      ≡ filter (λ g. not (is_among g gens)) (map (λ p. p.generation) ps)
  kept-generations gens [] = refl
  kept-generations gens (p ∷ ps) = by_test (is_among p.generation gens) (kept-generations gens ps)
    where
      by_test : (b : Bool)
          → map (λ q. q.generation) (filter (λ q. not (is_among q.generation gens)) ps)
          ≡ filter (λ g. not (is_among g gens)) (map (λ q. q.generation) ps)
          → map (λ q. q.generation) (cond (not b)
          (p ∷ filter (λ q. not (is_among q.generation gens)) ps)
          (filter (λ q. not (is_among q.generation gens)) ps))
          ≡ cond (not b)
          (p.generation ∷ filter (λ g. not (is_among g gens)) (map (λ q. q.generation) ps))
          (filter (λ g. not (is_among g gens)) (map (λ q. q.generation) ps))
      by_test true e = e
      by_test false e = ap (λ (gs : List ℕ). p.generation ∷ gs) e

  pub kept_current : map (λ p. p.generation)
      (filter (λ p. not (is_among p.generation m.generations)) pieces)
      ≡ filter (λ g. not (is_among g m.generations)) (current r)
  kept_current =
      kept-generations m.generations pieces
      ∙ ap (λ (gs : List ℕ). filter (λ g. not (is_among g m.generations)) gs) are.generations

  pub below_all : (gs : List ℕ) → ((g : ℕ) → is_among g gs ≡ true → g < into)
      → AllByRecursion (λ g. g < into) gs
  below_all [] h = tt
  below_all (g ∷ gs) h = (
    h g (ap (λ (b : Bool). b || is_among g gs) (itself g)),
    below_all gs (λ n is. h n (ap (λ (b : Bool). nat_eq n g || b) is ∙ or_true (nat_eq n g))),
  )
    where
      itself : (n : ℕ) → nat_eq n n ≡ true
      itself n = grind (arith, nat_tests)

      or_true : (b : Bool) → (b || true) ≡ true
      or_true true = refl
      or_true false = refl

  pub current_below : (g : ℕ) → is_among g (current r) ≡ true → g < into
  current_below g is =
      in_all (λ n. n < into) g (drawn r) (current_drawn r g is) ending.begun.greater

  piece_below : (gs : List PlainPiece)
      → AllByRecursion (λ g. g < into) (map (λ p. p.generation) gs)
      → AllByRecursion (λ p. p.generation < into) gs
  piece_below [] all = tt
  piece_below (p ∷ ps) all = (all.0, piece_below ps all.1)

  pub pieces_below : AllByRecursion (λ p. p.generation < into) pieces
  pieces_below =
      piece_below pieces (subst (λ (gs : List ℕ). AllByRecursion (λ g. g < into) gs)
      (sym are.generations) (below_all (current r) current_below))

  pub all_kept : (P : PlainPiece → Type 0) (ps : List PlainPiece) → AllByRecursion P ps
      → AllByRecursion P (filter (λ p. not (is_among p.generation m.generations)) ps)
  all_kept P [] all = tt
  all_kept P (p ∷ ps) all =
      by_test (not (is_among p.generation m.generations)) (all_kept P ps all.1)
    where
      by_test : (b : Bool)
          → AllByRecursion P (filter (λ q. not (is_among q.generation m.generations)) ps)
          → AllByRecursion P (cond b
          (p ∷ filter (λ q. not (is_among q.generation m.generations)) ps)
          (filter (λ q. not (is_among q.generation m.generations)) ps))
      by_test true later = (all.0, later)
      by_test false later = later

  pub new : is_among into (drawn r) ≡ false
  new = by_test (is_among into (drawn r)) refl
    where
      by_test : (b : Bool) → is_among into (drawn r) ≡ b → b ≡ false
      by_test false is = refl
      by_test true is =
          let below : into < into = in_all (λ n. n < into) into (drawn r) is ending.begun.greater
          in absurd (omega (arith, below))
