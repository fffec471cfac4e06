-- One item more in a loop over lists, over slots, or over the slots of a merge.
use Rattle.std.proofs.Common.{◌≡◌, ◌<◌, ◌+◌, ℕ, List, [], ◌∷◌, ◌++◌, length, map, take, sym}
use Rattle.std.proofs.Common.{ap}
use Rattle.std.proofs.Common.{◌∙◌, get_or}
use Rattle.std.specs.List.{filter_map, flat_map}
use Rattle.std.proofs.lemmas.List.{take_more, map-append, append-nil}
use Rattle.std.proofs.lemmas.List.Elements.{filter-append, filter_map-append}
use Rattle.std.proofs.lemmas.Grind.{flat_map-append}
use Rattle.sg_paths.specs.Operations.{PlainBatch}
use Rattle.segment.specs.Pieces.{PlainPiece}
use Rattle.index_core.specs.Histories.{is_among}
use Rattle.index_core.specs.EndedMerges.{sources}
use Rattle.index_core.specs.Slots.{PlainSlot, slot_piece, slot_size}
use Rattle.index_core.specs.OwnLists.{PlainOwnList}

-- the item behind the first i
next_of : {X : Type 0} (xs : List X) (i : ℕ) (x : X) → i < length xs → x ≡ get_or xs i x
    → take (i + 1) xs ≡ take i xs ++ x ∷ []
next_of xs i x within is =
    take_more xs i x within ∙ ap (λ y. take i xs ++ y ∷ []) (sym is)

pub lists_more : (ls : List PlainOwnList) (i : ℕ) (l : PlainOwnList) → i < length ls
    → l ≡ get_or ls i l
    → flat_map (λ x. x.generations) (take (i + 1) ls)
    ≡ flat_map (λ x. x.generations) (take i ls) ++ l.generations
lists_more ls i l within is =
    ap (λ (ys : List PlainOwnList). flat_map (λ x. x.generations) ys) (next_of ls i l within is)
    ∙ flat_map-append (λ (x : PlainOwnList). x.generations) (take i ls) (l ∷ [])
    ∙ ap (λ (gs : List ℕ). flat_map (λ x. x.generations) (take i ls) ++ gs)
    (append-nil l.generations)

pub sizes_more : (merged : List ℕ) (ss : List PlainSlot) (i : ℕ) (s : PlainSlot) → i < length ss
    → s ≡ get_or ss i s
    → filter_map (slot_size merged) (take (i + 1) ss)
    ≡ filter_map (slot_size merged) (take i ss) ++ filter_map (slot_size merged) (s ∷ [])
sizes_more merged ss i s within is =
    ap (λ (ys : List PlainSlot). filter_map (slot_size merged) ys) (next_of ss i s within is)
    ∙ filter_map-append (slot_size merged) (take i ss) (s ∷ [])

pub sources_more : (gens : List ℕ) (bs : List PlainBatch) (ss : List PlainSlot) (i : ℕ)
    (s : PlainSlot) → i < length ss → s ≡ get_or ss i s
    → sources gens (map (slot_piece bs) (take (i + 1) ss))
    ≡ sources gens (map (slot_piece bs) (take i ss)) ++ sources gens (map (slot_piece bs) (s ∷ []))
sources_more gens bs ss i s within is =
    ap (λ (ys : List PlainSlot). sources gens (map (slot_piece bs) ys)) (next_of ss i s within is)
    ∙ ap (λ (ps : List PlainPiece). sources gens ps)
    (map-append (slot_piece bs) (take i ss) (s ∷ []))
    ∙ filter-append (λ (p : PlainPiece). is_among p.generation gens)
    (map (slot_piece bs) (take i ss)) (map (slot_piece bs) (s ∷ []))
