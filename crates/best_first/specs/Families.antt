-- The entries behind the arcs of a node. No public clause cites it. Source: this project's own.
use Rattle.std.specs.Ordering.{is_lt}
use Rattle.std.specs.Prelude.{ℕ, ◌≡◌, ◌≤◌, ◌+◌, true, cond, List, [], ◌∷◌, ◌++◌}
use Rattle.sg_base.specs.Lists.{In}
use Rattle.path_desk.specs.Entries.{Queued, entry_cmp}
use Rattle.best_first.specs.Lists.{passing}
use Rattle.best_first.specs.Matches.{Match, covers, Best}

-- one label more, and no better
abbrev pub IsChild : Queued → Queued → Type 0
IsChild p e =
    (l : ℕ) × (e.entry.start ≡ p.entry.start) × (e.bytes ≡ p.bytes ++ l ∷ [])
    × (e.entry.score ≤ p.entry.score)

-- the chosen child of an entry and the others: the chosen one has the entry's score and stands
-- before the others, and each matching path under the entry lies under one of them
pub record IsFamily (all : List Match) (P : Queued → Type 0) (p c : Queued)
    (siblings : List Queued) : Type 0 where
  pub child : IsChild p c
  pub same_score : c.entry.score ≡ p.entry.score
  pub child_sound : Best all c × P c
  pub sibling : (e : Queued) → In e siblings → IsChild p e × (is_lt (entry_cmp c e) ≡ true)
  pub sibling_sound : (e : Queued) → In e siblings → Best all e × P e
  pub parted : (m : Match) → In m all
      → cond (covers m p) 1 0 ≡ cond (covers m c) 1 0 + passing (covers m) siblings
