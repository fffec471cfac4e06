-- Documents by their ids. Source: this project's own.
use Rattle.std.specs.Prelude.{ℕ, ◌+◌, Bool, get_or, map, List, [], ◌∷◌, if◌then◌else◌}
use Rattle.std.specs.declared.cmp.Ordering.{Ordering}
use Rattle.std.specs.Cmp.{IsTotalOrder, then_total, on_total, nat_cmp_total}
use Rattle.std.specs.Cmp.Lexicographic.{slice_cmp, on_texts}
use Rattle.std.specs.Ordering.{nat_cmp, is_lt, is_le, on, then_cmp}
use Rattle.sg_base.specs.Ranking.{in_order}
use Rattle.sg_paths.specs.Operations.{PlainNumbered}
use Rattle.seg_table.specs.declared.finding.Reach.{Reach}
use Rattle.seg_table.specs.declared.finding.Reach.TheVariants.{Before, Through}

-- the places of the items that pass a test, where the first has the place n
abbrev pub places_from : {X : Type 0} → ℕ → (X → Bool) → List X → List ℕ
places_from n test [] = []
places_from n test (x ∷ xs) =
    if test x then n ∷ places_from (n + 1) test xs else places_from (n + 1) test xs

-- an id with the place of its document
pub record IdPlace : Type 0 where
  pub id : List ℕ
  pub place : ℕ

-- the id of each document with its place, where the first has the place n
abbrev pub placed_from : ℕ → List PlainNumbered → List IdPlace
placed_from n [] = []
placed_from n (d ∷ ds) = record { id = d.document.id; place = n } ∷ placed_from (n + 1) ds

-- by id bytewise, then by place
abbrev pub id_cmp : IdPlace → IdPlace → Ordering
id_cmp = then_cmp (on (λ p. p.id) (slice_cmp nat_cmp)) (on (λ p. p.place) nat_cmp)

-- it is total
pub id_cmp_total : IsTotalOrder id_cmp
id_cmp_total =
    then_total (on_texts (λ (p : IdPlace). p.id))
    (on_total (λ (p : IdPlace). p.place) nat_cmp_total)

-- the places of the documents in this order
abbrev pub id_index : List PlainNumbered → List ℕ
id_index docs = map (λ p. p.place) (in_order id_cmp (placed_from 0 docs))

-- the id at a place
abbrev pub id_of : List PlainNumbered → ℕ → List ℕ
id_of docs place = get_or (map (λ d. d.document.id) docs) place []

-- whether an id of the index lies within the reach of the id that is wanted
abbrev pub is_within : Reach → List ℕ → List ℕ → Bool
is_within Before wanted id = is_lt (slice_cmp nat_cmp id wanted)
is_within Through wanted id = is_le (slice_cmp nat_cmp id wanted)
