-- Generations and their documents where merges end. Source: Lucene's IndexWriter, whose merges
-- write the live documents of their sources and replace these.
use Rattle.std.specs.Prelude.{◌≡◌, ◌≤◌, ◌<◌, ⊤, ℕ, true, false, not, List, [], ◌∷◌, ◌++◌}
use Rattle.std.specs.Prelude.{length, filter, Some}
use Rattle.std.specs.List.{AllByRecursion, flat_map, list_any}
use Rattle.sg_base.specs.Ranking.{in_order}
use Rattle.sg_paths.specs.Operations.{PlainOp, PlainNumbered, documents_from}
use Rattle.sg_paths.specs.LiveDocuments.{is_deleted, live_documents}
use Rattle.segment.specs.Items.{HaveSameItems}
use Rattle.segment.specs.Pieces.{PlainPiece}
use Rattle.segment.specs.Views.{all_documents}
pub use Rattle.merge_work.specs.Merging.{document_cmp}
use Rattle.index_core.specs.Histories.{HistoryEvent, merge_begin, merge_end, Record, Merge}
use Rattle.index_core.specs.Histories.{is_among, drawn_generation}
use Rattle.index_core.specs.Histories as events
use Rattle.index_core.specs.Records.{with_event, drawn, current, next_merge}
use Rattle.index_core.specs.Generations.{merges_of, holders_of, documents_of}
use Rattle.index_core.specs.LegalHistories.{merged_documents, IsLegal}

-- an event that ends a merge ends one with a lesser number than n
abbrev pub IsOfKnownMerge : ℕ → HistoryEvent → Type 0
IsOfKnownMerge n (merge_end caller merge into gone) = merge < n
IsOfKnownMerge n other = ⊤

-- the merges that ended were begun
abbrev pub HasKnownMerges : Record → Type 0
HasKnownMerges r = AllByRecursion (IsOfKnownMerge (next_merge r)) r.history

-- in a legal record they were
abbrev pub LegalIsKnown : Type 0
LegalIsKnown = (r : Record) → IsLegal r → HasKnownMerges r

-- an event begins no merge, or the next one
abbrev pub BeginsNextMerge : Record → HistoryEvent → Type 0
BeginsNextMerge r (merge_begin caller merge generations) = merge ≡ next_merge r
BeginsNextMerge r other = ⊤

-- an event leaves what each generation holds but the one that it draws
abbrev pub GenerationsStay : Type 0
GenerationsStay =
    (r : Record) (e : HistoryEvent) (g : ℕ) → HasKnownMerges r → BeginsNextMerge r e
    → (drawn_generation e ≡ Some g → ⊥) → documents_of (with_event r e) g ≡ documents_of r g

-- a merge was begun, alone under its number, and a generation is greater than all that were drawn
pub record IsBegunMerge (r : Record) (m : Merge) (into : ℕ) : Type 0 where
  pub known : HasKnownMerges r
  pub before : m.merge < next_merge r
  pub alone : merges_of r m.merge ≡ m ∷ []
  pub greater : AllByRecursion (λ g. g < into) (drawn r)

-- the generation that a merge brings holds what the merge keeps
abbrev pub EndedMergesBring : Type 0
EndedMergesBring =
    (r : Record) (caller : ℕ) (m : Merge) (into : ℕ) (gone : List ℕ) → IsBegunMerge r m into
    → documents_of (with_event r (merge_end caller m.merge (Some into) gone)) into
    ≡ merged_documents r m

-- of some generations one at most holds a document
abbrev pub OneHolds : Record → PlainNumbered → List ℕ → Type 0
OneHolds r d [] = ⊤
OneHolds r d (g ∷ gs) =
    (is_among g (holders_of r d) ≡ true → list_any (λ h. is_among h (holders_of r d)) gs ≡ false)
    × OneHolds r d gs

-- What a merge keeps are the documents of its generations that the operations up to its own don't
-- delete, in the order of their numbers.
abbrev pub MergedByNumber : Type 0
MergedByNumber =
    (r : Record) (m : Merge)
    → AllByRecursion (λ d. OneHolds r d m.generations) (documents_from 1 r.journal)
    → in_order document_cmp
    (filter (λ d. not (is_deleted r.journal m.upto d)) (flat_map (documents_of r) m.generations))
    ≡ merged_documents r m

-- the pieces of a merge
abbrev pub sources : List ℕ → List PlainPiece → List PlainPiece
sources generations pieces = filter (λ p. is_among p.generation generations) pieces

-- the pieces once a merge has ended: without its own, and with what it brought
abbrev pub merged_pieces : List ℕ → List PlainPiece → List PlainPiece → List PlainPiece
merged_pieces generations brought pieces =
    filter (λ p. not (is_among p.generation generations)) pieces ++ brought

-- Where a merge brings the documents of its pieces that are live after the operations up to its
-- own, the live documents after later operations are as before.
abbrev pub MergedPiecesKeepLiveDocuments : Type 0
MergedPiecesKeepLiveDocuments =
    (journal : List PlainOp) (upto last : ℕ) (generations : List ℕ)
    (pieces brought : List PlainPiece) → upto ≤ last → last ≤ length journal
    → HaveSameItems (all_documents brought)
    (filter (λ d. not (is_deleted journal upto d)) (all_documents (sources generations pieces)))
    → HaveSameItems
    (filter (λ d. not (is_deleted journal last d)) (all_documents pieces))
    (live_documents journal last)
    → HaveSameItems
    (filter (λ d. not (is_deleted journal last d))
    (all_documents (merged_pieces generations brought pieces)))
    (live_documents journal last)

-- the current generations once a merge has ended: without its own, and with what it brings
abbrev pub CurrentAfterMerge : Type 0
CurrentAfterMerge =
    (r : Record) (caller : ℕ) (m : Merge) (into : ℕ) (gone : List ℕ)
    → merges_of r m.merge ≡ m ∷ [] → is_among into (events.replaced r.history) ≡ false
    → is_among into m.generations ≡ false
    → current (with_event r (merge_end caller m.merge (Some into) gone))
    ≡ filter (λ g. not (is_among g m.generations)) (current r) ++ into ∷ []

-- how many of some generations hold a document
abbrev pub holding : Record → PlainNumbered → List ℕ → ℕ
holding r d gs = length (filter (λ g. is_among g (holders_of r d)) gs)

-- a merge that ends leaves each document in at most one current generation
abbrev pub StillOneHolds : Type 0
StillOneHolds =
    (r : Record) (caller : ℕ) (m : Merge) (into : ℕ) (gone : List ℕ) (d : PlainNumbered)
    → IsBegunMerge r m into
    → AllByRecursion (λ g. g < into) (current r)
    → AllByRecursion (λ g. is_among g (current r) ≡ true) m.generations
    → holding r d (current r) ≤ 1
    → holding (with_event r (merge_end caller m.merge (Some into) gone)) d
    (filter (λ g. not (is_among g m.generations)) (current r) ++ into ∷ []) ≤ 1
