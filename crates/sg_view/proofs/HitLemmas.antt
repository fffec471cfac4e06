-- The hits and the report of a segment's search are those of its view.
use Rattle.std.proofs.Common.{◌≡◌, ◌<◌, ℕ, List, [], ◌∷◌, length, get_or, refl, sym, ap}
use Rattle.std.proofs.Common.{◌∙◌, subst}
use Rattle.std.specs.Prelude.{Option, All}
use Rattle.std.specs.List.{AllByRecursion}
use Rattle.std.proofs.lemmas.List.Elements.{All-weaker, recursion_from_All}
use Rattle.sg_base.specs.Cuts.{PlainCut}
use Rattle.sg_base.specs.declared.hit.Hit.{Hit}
use Rattle.sg_base.specs.declared.rank.Rank.{Rank}
use Rattle.sg_context.specs.Queries.{PlainQuery}
use Rattle.sg_paths.specs.Operations.{PlainNumbered}
use Rattle.sg_answers.specs.Reports.{IsSearch}
use Rattle.collector.specs.Hits.{row_of, rows_of}
use Rattle.best_first.specs.Hits.{IsHitOf}
use Rattle.best_first.specs.Parts.{HasSuggestion, key_at, seq_at}
use Rattle.sg_view.specs.Rows.{no_segment, documents_at, hit_key}
use Rattle.sg_view.specs.Searched.{IsHitIn, segment_at}
use Rattle.sg_view.specs.Viewing.{LiveSegment, seen_segment}

module _ (segments : List LiveSegment) (piece : ℕ) (ds : List PlainNumbered)
    (there : piece < length segments) (same : ds ≡ documents_at segments piece) where
  own : (h : Hit) → h.piece ≡ piece → ds ≡ documents_at segments h.piece
  own h is = same ∙ ap (λ (n : ℕ). documents_at segments n) (sym is)

  hit_in : (h : Hit) → IsHitOf ds piece h → IsHitIn segments h
  hit_in h of = (
    (
      subst (λ n. n < length segments) (sym of.piece_is) there,
      subst (λ (zs : List PlainNumbered). HasSuggestion zs h.doc h.place) (own h of.piece_is)
          of.suggestion,
    ),
    of.seq ∙ ap (λ (zs : List PlainNumbered). seq_at zs h.doc) (own h of.piece_is),
  )

  pub hits_in : (hits : List Hit) → All (IsHitOf ds piece) hits → All (IsHitIn segments) hits
  hits_in hits all = All-weaker (IsHitOf ds piece) (IsHitIn segments) hit_in hits all

  abbrev own_key : Hit → List ℕ
  own_key h = key_at ds h.doc h.place

  row_in : (h : Hit) → IsHitOf ds piece h → row_of own_key h ≡ row_of (hit_key segments) h
  row_in h of =
      let keys : own_key h ≡ hit_key segments h =
      ap (λ (zs : List PlainNumbered). key_at zs h.doc h.place) (own h of.piece_is) in
      ap (λ (key : List ℕ). record { score = h.score; key = key; seq = h.seq; place = h.place })
      keys

  each_row : (hits : List Hit) → AllByRecursion (IsHitOf ds piece) hits
      → rows_of own_key hits ≡ rows_of (hit_key segments) hits
  each_row [] all = refl
  each_row (h ∷ hits) all =
      ap (λ (r : Rank). r ∷ rows_of own_key hits) (row_in h all.0)
      ∙ ap (λ (rs : List Rank). row_of (hit_key segments) h ∷ rs) (each_row hits all.1)

  pub rows_in : (hits : List Hit) → All (IsHitOf ds piece) hits
      → rows_of own_key hits ≡ rows_of (hit_key segments) hits
  rows_in hits all = each_row hits (recursion_from_All (IsHitOf ds piece) hits all)

-- from the segment's own words to those of the view
pub search_in : (query : PlainQuery) (segments : List LiveSegment) (piece : ℕ) (s : LiveSegment)
    (hits : List Hit) (cut : Option PlainCut) → piece < length segments
    → s ≡ get_or segments piece no_segment → All (IsHitOf s.documents piece) hits
    → IsSearch query (seen_segment s) (rows_of (λ h. key_at s.documents h.doc h.place) hits) cut
    → IsSearch query (segment_at segments piece) (rows_of (hit_key segments) hits) cut
search_in query segments piece s hits cut there is of h =
    let ds = ap (λ (z : LiveSegment). z.documents) is in
    subst (λ (z : LiveSegment).
    IsSearch query (seen_segment z) (rows_of (hit_key segments) hits) cut) is
    (subst (λ (rs : List Rank). IsSearch query (seen_segment s) rs cut)
    (rows_in segments piece s.documents there ds hits of) h)
