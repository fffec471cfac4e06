-- Places among rows in order. No public clause cites it. Source: this project's own.
use Rattle.std.specs.Prelude.{ℕ, ◌≡◌, ◌<◌, ◌≤◌, Bool, true, false, nat_eq, List, length}
use Rattle.std.specs.Prelude.{slice_index_or}
use Rattle.std.specs.Ordering.{is_lt}
use Rattle.sg_base.specs.Ranking.{rank_cmp}
use Rattle.sg_base.specs.declared.rank.Rank.{Rank}
use Rattle.sg_base.specs.declared.hit.Hit.{Hit}

-- the rows up to there stand before r, and those from there on don't
pub record IsPlace (r : Rank) (rows : List Rank) (at' : ℕ) : Type 0 where
  pub front : (k : ℕ) (d : Rank) → k < at' → is_lt (rank_cmp (slice_index_or rows k d) r) ≡ true
  pub back : (k : ℕ) (d : Rank) → at' ≤ k → k < length rows
      → is_lt (rank_cmp (slice_index_or rows k d) r) ≡ false

abbrev pub has_seq : ℕ → Hit → Bool
has_seq seq h = nat_eq h.seq seq
