-- Live docs: whether each document of a segment is live, by place. Source: Lucene's live docs.
use Rattle.std.specs.Prelude.{ℕ, ◌+◌, Bool, not, ◌&&◌, nat_eq, cond, List, [], ◌∷◌}
use Rattle.std.specs.List.{list_any}

-- how many documents are live
abbrev pub live_count : List Bool → ℕ
live_count [] = 0
live_count (live ∷ later) = cond live 1 0 + live_count later

-- the live docs once the documents at these places are deleted, where the first has the place n
abbrev pub live_without : ℕ → List ℕ → List Bool → List Bool
live_without n deleted [] = []
live_without n deleted (live ∷ later) =
    (live && not (list_any (nat_eq n) deleted)) ∷ live_without (n + 1) deleted later
