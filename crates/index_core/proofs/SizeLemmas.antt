-- The sizes of slots are those that the record gives of its generations.
use Rattle.std.proofs.Common.{◌≡◌, ◌+◌, ℕ, suc, Bool, true, false, cond, not, ◌||◌}
use Rattle.std.proofs.Common.{nat_eq, Option, subst}
use Rattle.std.proofs.Common.{Some, None, List, [], ◌∷◌, length, map, refl, sym, ap, ◌∙◌, arith}
use Rattle.std.specs.Prelude.{filter, sum_by, count_by, option_map}
use Rattle.std.specs.List.{AllByRecursion, filter_map, flat_map, list_any}
use Rattle.std.proofs.lemmas.List.Folds.{list_any-append}
use Rattle.std.proofs.lemmas.List.Sums.{sum_by-cons}
use Rattle.sg_base.specs.Ranking.{in_order}
use Rattle.sg_base.proofs.InOrderLemmas.{length-in_order}
use Rattle.sg_paths.specs.Operations.{PlainOp, PlainNumbered, PlainBatch}
use Rattle.sg_paths.specs.Paths.{paths}
use Rattle.sg_paths.specs.AllPaths.{Entry, entry_cmp, path_entries, number_after, numbered}
use Rattle.sg_paths.specs.AllPaths.{all_paths}
use Rattle.sg_paths.specs.LiveDocuments.{is_deleted}
use Rattle.seg_live.specs.LiveDocs.{live_count}
use Rattle.segment.specs.Pieces.{PlainPiece, piece_documents, live_docs_or_all, live_docs_at}
use Rattle.merge_plan.specs.declared.size.Size.{Size}
use Rattle.merge_plan.specs.Merges.{plan}
use Rattle.merge_work.proofs.LimitLemmas.{path_count}
use Rattle.index_core.specs.Histories.{Record, Merge, is_among}
use Rattle.index_core.specs.Records.{current, open_merges}
use Rattle.index_core.specs.Generations.{applied, is_built}
use Rattle.index_core.specs.Merges.{size_of, merge_plan}
use Rattle.index_core.specs.CurrentPieces.{is_segment, IsPieceOf}
use Rattle.index_core.specs.HeldGenerations.{RisesFrom}
use Rattle.index_core.specs.PlannedMerges.{IsWithinSegment}
use Rattle.index_core.specs.Slots.{PlainSlot, slot_piece, body_at, sized, slot_size, piece_size}
use Rattle.index_core.specs.Fields.{sizes_of, Stored, record_of, IsKept}
use Rattle.index_core.specs.OwnLists.{PlainOwnList, merge_list}
use Rattle.index_core.specs.Fields.{AreSizesWithin}
use Rattle.index_core.proofs.RisingLemmas.{rises_less}

-- ---- one size

-- all documents are live where none are said for it
pub all_count : (ds : List PlainNumbered) → live_count (map (λ _. true) ds) ≡ length ds
all_count [] = refl
all_count (d ∷ ds) = let later = all_count ds in omega (arith, later)

length-numbered : (last : Option (Entry × ℕ)) (es : List Entry)
    → length (numbered last es) ≡ length es
length-numbered last [] = refl
length-numbered last (e ∷ es) =
    ap suc (length-numbered (Some (e, number_after last e)) es)

-- as many paths as the documents have
pub all_paths-count : (ds : List PlainNumbered)
    → length (all_paths ds) ≡ sum_by (λ d. length (paths d.document)) ds
all_paths-count ds =
    length-numbered None (in_order entry_cmp (path_entries 0 ds))
    ∙ length-in_order entry_cmp (path_entries 0 ds) ∙ path_count 0 ds

-- a size by its parts
pub sized_is : (merged : List ℕ) (g : ℕ) (ds : List PlainNumbered) (l : Option (List Bool))
    (documents live many : ℕ) (held : Bool) → documents ≡ length ds
    → live ≡ live_count (live_docs_or_all ds l) → many ≡ length (all_paths ds)
    → held ≡ is_among g merged
    → record {
      generation = g;
      documents = documents;
      live = live;
      paths = many;
      held = held;
    } ≡ sized merged g ds l
sized_is merged g ds l documents live many held documents-is live-is paths-is held-is =
    rw (documents-is, live-is, paths-is ∙ all_paths-count ds, held-is) refl

live_is : (journal : List PlainOp) (upto : ℕ) (ds : List PlainNumbered)
    → live_count (live_docs_at journal upto ds)
    ≡ count_by (λ d. not (is_deleted journal upto d)) ds
live_is journal upto [] = refl
live_is journal upto (d ∷ ds) =
    let later = live_is journal upto ds in
    let cons = sum_by-cons (λ x. cond (not (is_deleted journal upto x)) 1 0) d ds in
    ap (λ (n : ℕ). cond (not (is_deleted journal upto d)) 1 0 + n) later ∙ sym cons

-- merges hold the generations that the record says
abbrev HoldMerged : Record → List ℕ → Type 0
HoldMerged r merged =
    (g : ℕ) → is_among g merged ≡ list_any (λ m. is_among g m.generations) (open_merges r)

size_is : (r : Record) (merged : List ℕ) (p : PlainPiece) → HoldMerged r merged → IsPieceOf r p
    → piece_size merged p ≡ size_of r p.generation
size_is r merged p same is =
    let g : ℕ = p.generation in
    let documents = is.documents in
    let live : live_count (live_docs_or_all (piece_documents p) p.live_docs)
    ≡ count_by (λ d. not (is_deleted r.journal (applied r g) d)) (piece_documents p) =
    ap live_count is.live_docs ∙ live_is r.journal p.applied (piece_documents p)
    ∙ ap (λ (n : ℕ). count_by (λ d. not (is_deleted r.journal n d)) (piece_documents p))
    is.applied_through in
    rw (live, same g) (rw documents refl)

-- ---- those of all pieces

sizes_are : (r : Record) (merged : List ℕ) (ps : List PlainPiece) → HoldMerged r merged
    → AllByRecursion (IsPieceOf r) ps
    → map (piece_size merged) (filter (λ p. is_segment p.body) ps)
    ≡ map (size_of r) (filter (is_built r) (map (λ p. p.generation) ps))
sizes_are r merged [] same all = refl
sizes_are r merged (p ∷ ps) same all =
    by_test (is_segment p.body) all.0.has_segment (sizes_are r merged ps same all.1)
  where
    by_test : (b : Bool) → is_built r p.generation ≡ b
        → map (piece_size merged) (filter (λ q. is_segment q.body) ps)
        ≡ map (size_of r) (filter (is_built r) (map (λ q. q.generation) ps))
        → map (piece_size merged) (cond b (p ∷ filter (λ q. is_segment q.body) ps)
        (filter (λ q. is_segment q.body) ps))
        ≡ map (size_of r) (cond (is_built r p.generation)
        (p.generation ∷ filter (is_built r) (map (λ q. q.generation) ps))
        (filter (is_built r) (map (λ q. q.generation) ps)))
    by_test true is e =
        rw is (ap (λ (s : Size). s ∷ map (piece_size merged) (filter (λ q. is_segment q.body) ps))
        (size_is r merged p same all.0)
        ∙ ap (λ (ss : List Size). size_of r p.generation ∷ ss) e)
    by_test false is e = rw is e

lists_hold : (g : ℕ) (ms : List Merge)
    → is_among g (flat_map (λ l. l.generations) (map merge_list ms))
    ≡ list_any (λ m. is_among g m.generations) ms
lists_hold g [] = refl
lists_hold g (m ∷ ms) =
    list_any-append (nat_eq g) m.generations (flat_map (λ l. l.generations) (map merge_list ms))
    ∙ ap (λ (b : Bool). is_among g m.generations || b) (lists_hold g ms)

-- the record's sizes
record_sizes : {k : Stored} → IsKept k
    → sizes_of k ≡ map (size_of (record_of k)) (filter (is_built (record_of k))
    (current (record_of k)))
record_sizes {k} kept =
    let r = record_of k in
    let merged = flat_map (λ l. l.generations) k.lists.merges in
    sizes_are r merged k.pieces
    (λ g. ap (λ (ls : List PlainOwnList). is_among g (flat_map (λ l. l.generations) ls))
    kept.fields.own_lists.merges ∙ lists_hold g (open_merges r)) kept.pieces.each
    ∙ ap (λ (gs : List ℕ). map (size_of r) (filter (is_built r) gs)) kept.pieces.generations

pub plan_is : {k : Stored} → IsKept k → plan (sizes_of k) ≡ merge_plan (record_of k)
plan_is kept = ap plan (record_sizes kept)

pub within_is : {k : Stored} → IsKept k → AllByRecursion IsWithinSegment (sizes_of k)
    → AreSizesWithin (record_of k)
within_is kept within = subst (AllByRecursion IsWithinSegment) (record_sizes kept) within

-- ---- those of slots

-- an item more, if there is one
abbrev by_option : Option Size → List Size → List Size
by_option None sizes = sizes
by_option (Some size) sizes = size ∷ sizes

-- where as many merges hold each generation
slot_sizes-same : (merged merged' : List ℕ) (ss : List PlainSlot)
    → ((g : ℕ) → is_among g merged ≡ is_among g merged')
    → filter_map (slot_size merged) ss ≡ filter_map (slot_size merged') ss
slot_sizes-same merged merged' [] same = refl
slot_sizes-same merged merged' (s ∷ ss) same =
    by_segment s.documents (slot_sizes-same merged merged' ss same)
  where
    by_segment : (documents : Option (List PlainNumbered))
        → filter_map (slot_size merged) ss ≡ filter_map (slot_size merged') ss
        → by_option (option_map (λ ds. sized merged s.generation ds s.live_docs) documents)
        (filter_map (slot_size merged) ss)
        ≡ by_option (option_map (λ ds. sized merged' s.generation ds s.live_docs) documents)
        (filter_map (slot_size merged') ss)
    by_segment None later = later
    by_segment (Some ds) later = rw (same s.generation) (ap (λ (sizes : List Size).
        sized merged' s.generation ds s.live_docs ∷ sizes) later)

slot_sizes-pieces : (bs : List PlainBatch) (merged : List ℕ) (ss : List PlainSlot)
    → filter_map (slot_size merged) ss
    ≡ map (piece_size merged) (filter (λ p. is_segment p.body) (map (slot_piece bs) ss))
slot_sizes-pieces bs merged [] = refl
slot_sizes-pieces bs merged (s ∷ ss) =
    by_segment s.documents (filter (λ p. is_segment p.body) (map (slot_piece bs) ss))
    (slot_sizes-pieces bs merged ss)
  where
    by_segment : (documents : Option (List PlainNumbered)) (rest : List PlainPiece)
        → filter_map (slot_size merged) ss ≡ map (piece_size merged) rest
        → by_option (option_map (λ ds. sized merged s.generation ds s.live_docs) documents)
        (filter_map (slot_size merged) ss)
        ≡ map (piece_size merged) (cond (is_segment (body_at bs s.at documents))
        (record {
          generation = s.generation;
          body = body_at bs s.at documents;
          live_docs = s.live_docs;
          applied = s.applied;
        } ∷ rest) rest)
    by_segment None rest later = later
    by_segment (Some ds) rest later = ap (λ (sizes : List Size).
        sized merged s.generation ds s.live_docs ∷ sizes) later

-- where the generations that merges hold are sorted
pub sizes_shared : (bs : List PlainBatch) (sorted merged : List ℕ) (ss : List PlainSlot)
    → ((g : ℕ) → is_among g sorted ≡ is_among g merged)
    → filter_map (slot_size sorted) ss
    ≡ map (piece_size merged) (filter (λ p. is_segment p.body) (map (slot_piece bs) ss))
sizes_shared bs sorted merged ss same =
    slot_sizes-same sorted merged ss same ∙ slot_sizes-pieces bs merged ss

-- their generations rise as those of all slots
pub sizes_rise : (merged : List ℕ) (n : ℕ) (ss : List PlainSlot)
    → RisesFrom n (map (λ s. s.generation) ss)
    → RisesFrom n (map (λ z. z.generation) (filter_map (slot_size merged) ss))
sizes_rise merged n [] up = tt
sizes_rise merged n (s ∷ ss) up =
    by_segment s.documents (sizes_rise merged (s.generation + 1) ss up.1)
  where
    by_segment : (documents : Option (List PlainNumbered))
        → RisesFrom (s.generation + 1)
        (map (λ z. z.generation) (filter_map (slot_size merged) ss))
        → RisesFrom n (map (λ z. z.generation)
        (by_option (option_map (λ ds. sized merged s.generation ds s.live_docs) documents)
        (filter_map (slot_size merged) ss)))
    by_segment None later =
        rises_less n (s.generation + 1)
        (map (λ z. z.generation) (filter_map (slot_size merged) ss)) (omega (arith, up.0)) later
    by_segment (Some ds) later = (up.0, later)
