-- Generations are few, and so are open merges.
use Rattle.std.proofs.Common.{◌≡◌, ◌≤◌, ◌+◌, ◌*◌, ℕ, Bool, List, [], ◌∷◌, not, length, subst, arith}
use Rattle.std.proofs.Common.{refl, ap, length-append}
use Rattle.std.specs.Prelude.{filter, sum_by}
use Rattle.std.specs.List.{AllByRecursion, filter_map, flat_map}
use Rattle.std.proofs.lemmas.List.Sums.{length-filter, count_by-le-length, sum_by-cons}
use Rattle.index_core.specs.declared.limits.TheConstants.{MOST_OPERATIONS}
use Rattle.index_core.specs.Histories.{Record, Merge, is_among, closed_merge, replaced}
use Rattle.index_core.specs.Records.{drawn, current, begun_merges, open_merges}
use Rattle.index_core.specs.Generations.{documents_of}
use Rattle.index_core.specs.LegalHistories.{IsLegal}
use Rattle.index_core.specs.HeldGenerations.{RisesFrom}
use Rattle.index_core.specs.HeldEvents.{AreInUse}
use Rattle.index_core.specs.LegalLaws.{GenerationsAreFew}
use Rattle.index_core.specs.Fields.{Stored, record_of, IsKept}
use Rattle.index_core.proofs.ListLemmas.{all_filter}
use Rattle.index_core.proofs.MergedPieceLemmas.{own_generations}
use Rattle.index_core.proofs.PaidLemmas.{Pays}
use Rattle.index_core.proofs.PaidRecordLemmas.{legal_paid}
use Rattle.index_core.proofs.PlannedFitLemmas.{sum_at_most}
use Rattle.index_core.proofs.SoundRecordLemmas.{legal_sound}

-- ---- open merges are no more than current generations

-- one for each
abbrev each_one : ℕ → ℕ
each_one g = 1

sum_of_ones : (gs : List ℕ) → sum_by each_one gs ≡ length gs
sum_of_ones [] = refl
sum_of_ones (g ∷ gs) =
    let sum = sum_by-cons each_one g gs in
    let later = sum_of_ones gs in omega (arith, sum, later)

all_once : (P : ℕ → Type 0) → ((g : ℕ) → P g) → (gs : List ℕ) → AllByRecursion P gs
all_once P each [] = tt
all_once P each (g ∷ gs) = (each g, all_once P each gs)

-- a merge that pays has generations
some_generations : (r : Record) (gens : List ℕ) (n : ℕ)
    → n + 2 ≤ length (flat_map (documents_of r) gens) + length gens → 1 ≤ length gens
some_generations r [] n pays = absurd (omega (arith, pays))
some_generations r (g ∷ gs) n pays = omega arith

-- each merge has some of the current generations
count_merges : (r : Record) (ms : List Merge) → RisesFrom 1 (current r)
    → AllByRecursion (Pays r) ms → AllByRecursion (λ m. RisesFrom 0 m.generations) ms
    → AllByRecursion (λ m. AreInUse r m.generations) ms
    → length ms ≤ length (flat_map (λ m. filter (λ g. is_among g m.generations) (current r)) ms)
count_merges r [] up pays rise used = omega arith
count_merges r (m ∷ ms) up pays rise used =
    let own : List ℕ = filter (λ g. is_among g m.generations) (current r) in
    let same = ap (λ (gs : List ℕ). length gs)
    (own_generations r m.generations 1 up rise.0 used.0) in
    let some = some_generations r m.generations _ pays.0 in
    let both = length-append own
    (flat_map (λ (x : Merge). filter (λ g. is_among g x.generations) (current r)) ms) in
    let later = count_merges r ms up pays.1 rise.1 used.1 in
    omega (arith, same, some, both, later)

few_merges : (r : Record) → IsLegal r → length (open_merges r) ≤ length (current r)
few_merges r legal =
    let sound = legal_sound r legal in
    let merges = sound.plain.merges in
    let still : Merge → Bool = λ m. not (is_among m.merge (filter_map closed_merge r.history)) in
    let up : RisesFrom 1 (current r) =
    subst (λ (gs : List ℕ). RisesFrom 1 gs) sound.are.generations sound.are.rising in
    let some = count_merges r (open_merges r) up
    (all_filter (Pays r) still (begun_merges r) (legal_paid r legal).pays)
    (all_filter (λ m. RisesFrom 0 m.generations) still (begun_merges r) merges.rise)
    merges.in_use in
    let parts = flat_map (λ (m : Merge). filter (λ g. is_among g m.generations) (current r))
    (open_merges r) in
    let most = sum_at_most each_one (λ (m : Merge) (g : ℕ). is_among g m.generations)
    (open_merges r) (current r)
    (all_once (λ g. length (filter (λ m. is_among g m.generations) (open_merges r)) ≤ 1)
    merges.apart (current r)) in
    let left = sum_of_ones parts in
    let right = sum_of_ones (current r) in
    omega (arith, some, most, left, right)

-- ---- the law

pub are_few : GenerationsAreFew
are_few = record {
  three_for_each = λ r legal. (let within = (legal_paid r legal).within in omega (arith, within));
  most = λ r legal. (let within = (legal_paid r legal).within in
      let sound = legal_sound r legal in
      let frozen_first = sound.plain.frozen_within in
      let most = sound.plain.most in omega (arith, within, frozen_first, most));
  merges = few_merges;
}

-- ---- of a store

fewer_current : (r : Record) → length (current r) ≤ length (drawn r)
fewer_current r =
    let still : ℕ → Bool = λ g. not (is_among g (replaced r.history)) in
    let count = length-filter still (drawn r) in
    let most = count_by-le-length still (drawn r) in omega (arith, count, most)

-- so many generations were drawn, and so many merges are open at most
pub few_generations : {k : Stored} → IsKept k
    → (k.drawn_count ≤ 3 * MOST_OPERATIONS) × (k.lists.merges_open ≤ 3 * MOST_OPERATIONS)
few_generations {k} kept =
    let r = record_of k in
    let drawn_few = are_few.most r kept.legal in
    let merges_few = are_few.merges r kept.legal in
    let fewer = fewer_current r in
    let drawn_is = kept.fields.drawn_generations in
    let open_is = kept.fields.own_lists.merges_open in (
      omega (arith, drawn_few, drawn_is),
      omega (arith, drawn_few, merges_few, fewer, open_is),
    )
