-- What batches delete completes what the live docs of a piece know.
use Rattle.std.proofs.Common.{◌≡◌, ◌≤◌, ◌<◌, ◌+◌, ℕ, zero, suc, Bool, true, false, not, ◌&&◌, ◌||◌}
use Rattle.std.proofs.Common.{List, [], ◌∷◌, length, map, refl, sym, ap, ◌∙◌, arith}
use Rattle.std.proofs.Common.{cond, nat_eq}
use Rattle.std.specs.Prelude.{replicate}
use Rattle.std.proofs.lemmas.Bool.Decides.{nat_tests}
use Rattle.sg_paths.specs.Operations.{PlainOp, PlainNumbered, PlainBatch}
use Rattle.sg_paths.specs.LiveDocuments.{is_deleted}
use Rattle.sg_paths.specs.Batches.{Cover}
use Rattle.seg_live.specs.LiveDocs.{live_without}
use Rattle.seg_live.proofs.BitLemmas.{length_without}
use Rattle.seg_table.specs.Ids.{places_from}
use Rattle.segment.specs.Pieces.{PlainPiece, piece_documents, live_docs_or_all, live_docs_at}
use Rattle.segment.specs.Views.{IsApplied}
use Rattle.delete_queue.specs.Deletes.{is_dead_in}
use Rattle.delete_queue.proofs.JournalLemmas.{deletes_since}
use Rattle.delete_queue.proofs.RisingLemmas.{is_in, not_below, places_rise}
use Rattle.piece_docs.specs.PieceDocs.{live_docs_less}

-- ---- live docs

-- where none are said
pub all_live : (ds : List PlainNumbered) (n : ℕ) → n ≡ length ds
    → replicate n true ≡ map (λ _. true) ds
all_live [] zero e = refl
all_live [] (suc n) e = absurd (omega (arith, e))
all_live (d ∷ ds) zero e = absurd (omega (arith, e))
all_live (d ∷ ds) (suc n) e =
    ap (λ (ms : List Bool). true ∷ ms) (all_live ds n (omega (arith, e)))

other_place : (n i : ℕ) (places : List ℕ) (ms : List Bool) → i < n
    → live_without n (i ∷ places) ms ≡ live_without n places ms
other_place n i places [] less = refl
other_place n i places (m ∷ ms) less =
    let other : nat_eq n i ≡ false = grind (arith, nat_tests, less) in
    ap (λ (b : Bool). (m && not (b || is_in n places)) ∷ live_without (n + 1) (i ∷ places) ms) other
    ∙ ap (λ (zs : List Bool). (m && not (is_in n places)) ∷ zs)
    (other_place (n + 1) i places ms (omega (arith, less)))

without_at : (n : ℕ) (q b : Bool) (places : List ℕ) (ms rest : List Bool)
    → is_in n places ≡ false → live_without (n + 1) places ms ≡ rest
    → live_without n (cond b (n ∷ places) places) (q ∷ ms) ≡ (q && not b) ∷ rest
without_at n q true places ms rest none e =
    let here : nat_eq n n ≡ true = grind (arith, nat_tests) in
    ap (λ (c : Bool). (q && not (c || is_in n places)) ∷ live_without (n + 1) (n ∷ places) ms) here
    ∙ ap (λ (zs : List Bool). (q && false) ∷ zs) (other_place (n + 1) n places ms (omega arith) ∙ e)
without_at n q false places ms rest none e =
    ap (λ (c : Bool). (q && not c) ∷ live_without (n + 1) places ms) none
    ∙ ap (λ (zs : List Bool). (q && true) ∷ zs) e

-- live docs by a test, less the places by another
live_without-places : (n : ℕ) (p q : PlainNumbered → Bool) (ds : List PlainNumbered)
    → live_without n (places_from n p ds) (map q ds) ≡ map (λ d. q d && not (p d)) ds
live_without-places n p q [] = refl
live_without-places n p q (d ∷ ds) =
    without_at n (q d) (p d) (places_from (n + 1) p ds) (map q ds)
    (map (λ e. q e && not (p e)) ds)
    (not_below n (n + 1) (places_from (n + 1) p ds) (omega arith) (places_rise (n + 1) p ds))
    (live_without-places (n + 1) p q ds)

map_agree : (f g : PlainNumbered → Bool) (ds : List PlainNumbered)
    → ((d : PlainNumbered) → f d ≡ g d) → map f ds ≡ map g ds
map_agree f g [] same = refl
map_agree f g (d ∷ ds) same =
    ap (λ (b : Bool). b ∷ map f ds) (same d)
    ∙ ap (λ (bs : List Bool). g d ∷ bs) (map_agree f g ds same)

neither : (a b c : Bool) → c ≡ (a || b) → (not a && not b) ≡ not c
neither true b c e = ap not (sym e)
neither false b c e = ap not (sym e)

-- ---- pieces

-- whether a document is live after the first upto operations
abbrev is_live : List PlainOp → ℕ → PlainNumbered → Bool
is_live journal upto d = not (is_deleted journal upto d)

-- where the batches have the operations since, what is left is what is live
pub live_docs_less-covered : (journal : List PlainOp) (u start : ℕ) (bs : List PlainBatch)
    (p : PlainPiece) → Cover journal start u bs → start ≤ p.applied → p.applied ≤ u
    → IsApplied journal p
    → live_docs_less u bs p ≡ live_docs_at journal u (piece_documents p)
live_docs_less-covered journal u start bs p covered from upto is =
    let ds = piece_documents p in
    let a = p.applied in
    ap (λ (ms : List Bool). live_without 0 (places_from 0 (is_dead_in a u bs) ds) ms) is
    ∙ live_without-places 0 (is_dead_in a u bs) (is_live journal a) ds
    ∙ map_agree (λ d. is_live journal a d && not (is_dead_in a u bs d)) (is_live journal u) ds
    (λ d. neither (is_deleted journal a d) (is_dead_in a u bs d) (is_deleted journal u d)
    (deletes_since journal start a u u bs d covered from upto
    (omega arith)))

-- there are as many as documents
pub live_docs_less-length : (u : ℕ) (bs : List PlainBatch) (p : PlainPiece)
    → length (live_docs_or_all (piece_documents p) p.live_docs) ≡ length (piece_documents p)
    → length (live_docs_less u bs p) ≡ length (piece_documents p)
live_docs_less-length u bs p counted =
    length_without 0 (places_from 0 (is_dead_in p.applied u bs) (piece_documents p))
    (live_docs_or_all (piece_documents p) p.live_docs)
    ∙ counted
