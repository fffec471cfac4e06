-- Entries of the bounded queue of a search, and their order. Source: after the queue of Lucene's
-- TopNSearcher; the order of equal scores is this project's own.
use Rattle.std.specs.Prelude.{ℕ, if◌then◌else◌, nat_eq, List, [], ◌∷◌}
use Rattle.std.specs.declared.cmp.Ordering.{Ordering}
use Rattle.std.specs.Cmp.{IsTotalOrder, then_total, back_total, on_total, nat_cmp_total}
use Rattle.std.specs.Cmp.Lexicographic.{slice_cmp, on_texts}
use Rattle.std.specs.Ordering.{nat_cmp, on, flip_args, then_cmp}
use Rattle.sg_base.specs.Cuts.{Mark, mark}
use Rattle.path_desk.specs.declared.entry.Entry.{Entry}

-- an entry with its path bytes after the context
pub record Queued : Type 0 where
  pub entry : Entry
  pub bytes : List ℕ

-- it is made of these
abbrev pub queued : Entry → List ℕ → Queued
queued entry bytes = record { entry = entry; bytes = bytes }

-- the key bytes: those before the first 0
abbrev pub key_part : List ℕ → List ℕ
key_part [] = []
key_part (b ∷ bs) = if nat_eq b 0 then [] else b ∷ key_part bs

-- the rest: those from the first 0 on
abbrev pub rest_part : List ℕ → List ℕ
rest_part [] = []
rest_part (b ∷ bs) = if nat_eq b 0 then b ∷ bs else rest_part bs

-- score descending, key bytes ascending, start ascending, path bytes after the key ascending
abbrev pub entry_cmp : Queued → Queued → Ordering
entry_cmp =
    then_cmp (then_cmp (then_cmp
    (flip_args (on (λ q. q.entry.score) nat_cmp))
    (on (λ q. key_part q.bytes) (slice_cmp nat_cmp)))
    (on (λ q. q.entry.start) nat_cmp))
    (on (λ q. rest_part q.bytes) (slice_cmp nat_cmp))

-- it is total
pub entry_cmp_total : IsTotalOrder entry_cmp
entry_cmp_total =
    then_total (then_total (then_total
    (back_total (on_total (λ (q : Queued). q.entry.score) nat_cmp_total))
    (on_texts (λ (q : Queued). key_part q.bytes)))
    (on_total (λ (q : Queued). q.entry.start) nat_cmp_total))
    (on_texts (λ (q : Queued). rest_part q.bytes))

-- the score of an entry and its key bytes
abbrev pub mark_of : Queued → Mark
mark_of q = mark q.entry.score (key_part q.bytes)
