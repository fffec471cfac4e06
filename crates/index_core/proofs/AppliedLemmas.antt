-- Through which operation deletes are applied, and which pieces stay as they are, where merges are
-- known.
use Rattle.std.proofs.Common.{◌≡◌, ◌≤◌, ℕ, cond, nat_eq}
use Rattle.std.proofs.Common.{Option, Some, None, List, [], ◌∷◌, ◌++◌, map, refl, sym, ap, ◌∙◌}
use Rattle.std.proofs.Common.{subst}
use Rattle.std.specs.List.{AllByRecursion, filter_map}
use Rattle.std.proofs.lemmas.List.Elements.{filter_map-append}
use Rattle.std.proofs.lemmas.List.Sums.{fold-append}
use Rattle.index_core.specs.Histories.{HistoryEvent, accept, freeze, begin, built}
use Rattle.index_core.specs.Histories.{live_docs_updated, merge_begin, merge_end, merge_drop}
use Rattle.index_core.specs.Histories.{view_end, Record, Merge, last_of, drawn_generation}
use Rattle.index_core.specs.Records.{with_event, frozen, next_merge}
use Rattle.index_core.specs.Generations.{applied_by, applied, is_built}
use Rattle.index_core.specs.CurrentPieces.{IsPieceOf}
use Rattle.segment.specs.Pieces.{PlainPiece}
use Rattle.index_core.specs.EndedMerges.{IsOfKnownMerge, HasKnownMerges, BeginsNextMerge}
use Rattle.index_core.proofs.HistoryLemmas.{skips}
use Rattle.index_core.proofs.MergingLemmas.{merges_stay, stay}

module _ (r : Record) (e : HistoryEvent) (known : HasKnownMerges r) (next : BeginsNextMerge r e)
  where
    abbrev r' : Record
    r' = with_event r e

    applied_same : (g : ℕ) (x : HistoryEvent) → IsOfKnownMerge (next_merge r) x
        → applied_by r' g x ≡ applied_by r g x
    applied_same g (accept a b) of = refl
    applied_same g (freeze a b f u) of = refl
    applied_same g (begin a b u gs) of = refl
    applied_same g (built a b) of = refl
    applied_same g (live_docs_updated a b c) of = refl
    applied_same g (merge_begin a b gs) of = refl
    applied_same g (merge_end a b None gone) of = refl
    applied_same g (merge_end a b (Some into) gone) of =
        ap (λ (ms : List Merge).
        cond (nat_eq into g) (Some (last_of (map (λ m. m.upto) ms))) None)
        (merges_stay r e b next of)
    applied_same g (merge_drop a b) of = refl
    applied_same g (view_end a b gone) of = refl

    applied_all : (g : ℕ) (h : List HistoryEvent)
        → AllByRecursion (IsOfKnownMerge (next_merge r)) h
        → filter_map (applied_by r' g) h ≡ filter_map (applied_by r g) h
    applied_all g [] of = refl
    applied_all g (x ∷ h) of =
        ap (λ (o : Option ℕ). by_option o (filter_map (applied_by r' g) h)) (applied_same g x of.0)
        ∙ ap (λ (gs : List ℕ). by_option (applied_by r g x) gs) (applied_all g h of.1)
      where
        by_option : Option ℕ → List ℕ → List ℕ
        by_option None gs = gs
        by_option (Some n) gs = n ∷ gs

    -- an event that applies nothing to it
    pub applied_stay : (g : ℕ) → applied_by r' g e ≡ None → applied r' g ≡ applied r g
    applied_stay g nothing =
        ap last_of (skips (applied_by r' g) r.history e nothing ∙ applied_all g r.history known)

    -- one that applies this
    pub applied_last : (g n : ℕ) → applied_by r' g e ≡ Some n → applied r' g ≡ n
    applied_last g n is =
        let f = applied_by r' g in
        ap last_of (filter_map-append f r.history (e ∷ [])
        ∙ ap (λ (ns : List ℕ). filter_map f r.history ++ ns) (one is))
        ∙ fold-append (λ _ m. m) 0 (filter_map f r.history) (n ∷ [])
      where
        one : applied_by r' g e ≡ Some n → filter_map (applied_by r' g) (e ∷ []) ≡ n ∷ []
        one is' = rw is' refl

    -- a piece stays what the record says
    pub piece_stays : (p : PlainPiece) → (drawn_generation e ≡ Some p.generation → ⊥)
        → applied_by r' p.generation e ≡ None
        → is_built r' p.generation ≡ is_built r p.generation → frozen r' ≡ frozen r → IsPieceOf r p
        → IsPieceOf r' p
    piece_stays p other nothing same frozen-same is = record {
      documents = is.documents ∙ sym (stay r e p.generation known next other);
      applied_through = is.applied_through ∙ sym (applied_stay p.generation nothing);
      has_segment = same ∙ is.has_segment;
      live_docs = is.live_docs;
      fresh = is.fresh;
      known = subst (λ (n : ℕ). p.applied ≤ n) (sym frozen-same) is.known;
      buildable = is.buildable;
    }
