-- A merge that is planned pays: it takes two generations or more, or one with a deleted document.
use Rattle.std.proofs.Common.{◌≡◌, ◌≤◌, ◌<◌, inl, inr, ℕ, Bool, true, not, Some, List, [], ◌∷◌}
use Rattle.std.proofs.Common.{length, map, sym, ap, subst, arith, append-nil}
use Rattle.std.specs.Prelude.{filter}
use Rattle.std.specs.List.{AllByRecursion, flat_map}
use Rattle.std.proofs.lemmas.List.{length-map}
use Rattle.std.proofs.lemmas.List.Sums.{length-filter, count_by-le-length}
use Rattle.sg_paths.specs.Operations.{PlainNumbered}
use Rattle.sg_paths.specs.LiveDocuments.{is_deleted}
use Rattle.segment.specs.Pieces.{PlainPiece}
use Rattle.merge_plan.specs.declared.size.Size.{Size}
use Rattle.index_core.specs.Histories.{Record, Merge}
use Rattle.index_core.specs.Records.{frozen, current}
use Rattle.index_core.specs.Generations.{documents_of, applied, is_built}
use Rattle.index_core.specs.Merges.{size_of, merge_plan}
use Rattle.index_core.specs.MergeCalls.{next_merge_by}
use Rattle.index_core.specs.CurrentPieces.{IsPieceOf}
use Rattle.index_core.specs.HeldGenerations.{RisesFrom}
use Rattle.index_core.proofs.ListLemmas.{filter_inside, in_all}
use Rattle.index_core.proofs.LivePieceLemmas.{deleted_later}
use Rattle.index_core.proofs.PaidLemmas.{Pays}
use Rattle.index_core.proofs.PlannedLemmas.{AreChosen, IsFree, choice}
use Rattle.index_core.proofs.RisingLemmas.{rises_less}
use Rattle.index_core.proofs.SoundLemmas.{IsSound}

-- ---- what passes tests

fewer : {X : Type 0} (p : X → Bool) (xs : List X) → length (filter p xs) ≤ length xs
fewer p xs =
    let count = length-filter p xs in
    let most = count_by-le-length p xs in omega (arith, count, most)

-- of a test that implies another
fewer_stronger : {X : Type 0} (p q : X → Bool) (xs : List X)
    → ((x : X) → p x ≡ true → q x ≡ true) → length (filter p xs) ≤ length (filter q xs)
fewer_stronger {X} p q xs implies =
    let same = ap (λ (ys : List X). length ys) (filter_inside p q xs implies) in
    let most = fewer p (filter q xs) in omega (arith, same, most)

-- ---- deletes that are applied

-- to pieces, through frozen operations
all_applied : (r : Record) (ps : List PlainPiece) → AllByRecursion (IsPieceOf r) ps
    → AllByRecursion (λ g. applied r g ≤ frozen r) (map (λ p. p.generation) ps)
all_applied r [] all = tt
all_applied r (p ∷ ps) all = (
  (let known = all.0.known in let same = all.0.applied_through in omega (arith, known, same)),
  all_applied r ps all.1,
)

current_applied : (r : Record) → IsSound r
    → AllByRecursion (λ g. applied r g ≤ frozen r) (current r)
current_applied r sound =
    subst (λ (gs : List ℕ). AllByRecursion (λ g. applied r g ≤ frozen r) gs)
    sound.are.generations (all_applied r sound.pieces sound.are.each)

-- ---- a merge of two generations or more, and one of one

two_pay : (r : Record) (m : Merge) → 2 ≤ length m.generations → Pays r m
two_pay r m two =
    let most = fewer (λ d. not (is_deleted r.journal m.upto d))
    (flat_map (documents_of r) m.generations) in omega (arith, most, two)

-- what was deleted by its size still is
one_pays : (r : Record) (caller : ℕ) (s : Size) → s ≡ size_of r s.generation
    → applied r s.generation ≤ frozen r → s.live < s.documents
    → Pays r (next_merge_by caller r (s.generation ∷ []))
one_pays r caller s own known less =
    let ds = documents_of r s.generation in
    let live : ℕ → PlainNumbered → Bool = λ u d. not (is_deleted r.journal u d) in
    let all = ap (λ (x : Size). x.documents) own in
    let count = ap (λ (x : Size). x.live) own in
    let counted = length-filter (live (applied r s.generation)) ds in
    let later = fewer_stronger (live (frozen r)) (live (applied r s.generation)) ds
    (λ d is. deleted_later r.journal (applied r s.generation) (frozen r) d known is) in
    let alone = ap (λ (xs : List PlainNumbered). length (filter (live (frozen r)) xs))
    (append-nil ds) in
    let whole = ap (λ (xs : List PlainNumbered). length xs) (append-nil ds) in
    omega (arith, all, count, counted, later, alone, whole, less)

alone_pays : (r : Record) (caller : ℕ) (ss : List Size) (s : Size) → IsSound r → ss ≡ s ∷ []
    → s.live < s.documents → AllByRecursion (λ x. IsFree r x × Unit {0}) ss
    → Pays r (next_merge_by caller r (map (λ x. x.generation) ss))
alone_pays r caller ss s sound is less each =
    let own = subst (λ (xs : List Size). AllByRecursion (λ x. IsFree r x × Unit {0}) xs) is each in
    let size = own.0.0.size in
    subst (λ (xs : List Size). Pays r (next_merge_by caller r (map (λ x. x.generation) xs)))
    (sym is)
    (one_pays r caller s size.own
    (in_all (λ g. applied r g ≤ frozen r) s.generation (current r) size.in_use
    (current_applied r sound)) less)

-- ---- what is planned

chosen_pay : (r : Record) (caller : ℕ) (ss : List Size) → IsSound r
    → AreChosen (λ s. IsFree r s × Unit {0}) ss
    → Pays r (next_merge_by caller r (map (λ s. s.generation) ss))
chosen_pay r caller ss sound chosen =
    elim chosen.saves [
      | inl two ↦ two_pay r (next_merge_by caller r (map (λ s. s.generation) ss))
          (let same = length-map ss (λ (s : Size). s.generation) in omega (arith, two, same))
      | inr one ↦ alone_pays r caller ss one.0 sound one.1 one.2 chosen.are.each
    ]

nothing : (ss : List Size) → AllByRecursion (λ (s : Size). Unit {0}) ss
nothing [] = tt
nothing (s ∷ ss) = (tt, nothing ss)

pub planned_pays : (r : Record) (caller : ℕ) (gens : List ℕ) → IsSound r
    → merge_plan r ≡ Some gens → Pays r (next_merge_by caller r gens)
planned_pays r caller gens sound plan =
    let up : RisesFrom 1 (current r) =
    subst (λ (gs : List ℕ). RisesFrom 1 gs) sound.are.generations sound.are.rising in
    let made = choice r (λ _. Unit {0}) gens (rises_less 0 1 (current r) (omega arith) up) plan
    (nothing (map (size_of r) (filter (is_built r) (current r)))) in
    subst (λ (gs : List ℕ). Pays r (next_merge_by caller r gs)) made.numbers
    (chosen_pay r caller made.sizes sound made.chosen)
