-- Worked values of the merge plan. Source: this project's own.
use Rattle.std.specs.Prelude.{◌≡◌, ℕ, true, false, Some, None, List, [], ◌∷◌, ◌++◌, map}
use Rattle.merge_plan.specs.declared.size.Size.{Size}
use Rattle.merge_plan.specs.Merges.{digits, plan}

-- generations of this many documents, with so many that are live
abbrev sized : ℕ → ℕ → List ℕ → List Size
sized documents live generations =
    map (λ g. record {
      generation = g;
      documents = documents;
      live = live;
      paths = documents;
      held = false;
    }) generations

-- generations of one live document each, of this many paths
abbrev with_paths : ℕ → List ℕ → List Size
with_paths paths generations =
    map (λ g. record {
      generation = g;
      documents = 1;
      live = 1;
      paths = paths;
      held = false;
    }) generations

-- the same, which a merge holds
abbrev held : List Size → List Size
held sizes = map (λ (s : Size). record s { held = true }) sizes

-- ten generations
abbrev ten : List ℕ
ten = 1 ∷ 2 ∷ 3 ∷ 4 ∷ 5 ∷ 6 ∷ 7 ∷ 8 ∷ 9 ∷ 10 ∷ []

-- nine others
abbrev nine : List ℕ
nine = 11 ∷ 12 ∷ 13 ∷ 14 ∷ 15 ∷ 16 ∷ 17 ∷ 18 ∷ 19 ∷ []

-- ten of a level together, the lowest level first, within a segment's limits and without those that
-- a merge holds; else the first that is mostly deleted
pub record WorkedPlans : Type 0 where
  pub level_1 : (digits 0 ≡ 1) × (digits 9 ≡ 1)
  pub level_2 : (digits 10 ≡ 2) × (digits 99 ≡ 2) × (digits 100 ≡ 3)
  pub level_9 : (digits 100000000 ≡ 9) × (digits 999999999 ≡ 9)
  pub level_10 : (digits 1000000000 ≡ 10) × (digits 4294967295 ≡ 10)
  pub nothing : plan [] ≡ None
  pub ten_of_a_level : plan (sized 9 9 ten) ≡ Some ten
  pub nine_of_a_level : plan (sized 9 9 nine) ≡ None
  pub the_first_ten : plan (sized 1 1 (ten ++ 11 ∷ 12 ∷ [])) ≡ Some ten
  pub by_live_documents : plan (sized 10 10 nine ++ sized 11 9 (20 ∷ [])) ≡ None
  pub the_lowest_level : plan (sized 100 100 (20 ∷ nine) ++ sized 99 99 ten) ≡ Some ten
  pub most_documents : plan (sized 104857 104857 ten) ≡ Some ten
  pub too_many_documents : plan (sized 104858 104858 ten) ≡ None
  pub most_paths : plan (with_paths 419430 ten) ≡ Some ten
  pub too_many_paths : plan (with_paths 419431 ten) ≡ None
  pub a_higher_level : plan (with_paths 419431 ten ++ sized 10 10 (20 ∷ nine))
      ≡ Some (20 ∷ nine)
  pub held_ones : plan (held (sized 9 9 (1 ∷ [])) ++ sized 9 9 (20 ∷ nine)) ≡ Some (20 ∷ nine)
  pub too_few_free : plan (held (sized 9 9 (20 ∷ [])) ++ sized 9 9 nine) ≡ None
  pub half_deleted : plan (sized 10 5 nine) ≡ None
  pub mostly_deleted : plan (sized 10 4 (1 ∷ []) ++ sized 9 9 (2 ∷ [])) ≡ Some (1 ∷ [])
  pub all_live : plan (sized 9 9 (2 ∷ [])) ≡ None
  pub first_mostly_deleted : plan (sized 10 5 (1 ∷ []) ++ sized 10 4 (2 ∷ 3 ∷ [])) ≡ Some (2 ∷ [])
  pub held_mostly_deleted : plan (held (sized 10 4 (1 ∷ [])) ++ sized 10 4 (2 ∷ [])) ≡ Some (2 ∷ [])
  pub levels_first : plan (sized 9 2 (20 ∷ []) ++ sized 99 99 ten) ≡ Some ten
