-- The lines of an input, one after another.
use Rattle.std.proofs.Common.{◌≡◌, ◌≤◌, ◌<◌, ◌+◌, ◌-◌, ℕ, zero, suc, Bool, true, false, cond, List}
use Rattle.std.proofs.Common.{[], ◌∷◌, ◌++◌, length, take, drop, refl, ap, ◌∙◌, arith}
use Rattle.std.proofs.Common.{Some, None, add-one, length-drop}
use Rattle.std.proofs.Math.Seq.{take-length, drop-length}
use Rattle.std.specs.List.{position_from}
use Rattle.std.proofs.lemmas.Option.{same_Some}
use Rattle.sg_shell.specs.Lines.{SplitText, split_with, split_lines, last_line, lines_of}
use Rattle.sg_edge.specs.LineFeeds.{is_line_feed}

-- a place that is found isn't before the first
found_from_at : (t : Bool) (bs : List ℕ) (i j : ℕ)
    → cond t (Some i) (position_from is_line_feed (i + 1) bs) ≡ Some j
    → (position_from is_line_feed (i + 1) bs ≡ Some j → i + 1 ≤ j) → i ≤ j
found_from_at true bs i j is more = let e = same_Some i j is in omega arith
found_from_at false bs i j is more = let e = more is in omega arith

found_from : (bs : List ℕ) (i j : ℕ) → position_from is_line_feed i bs ≡ Some j → i ≤ j
found_from [] i j is = cc
found_from (b ∷ bs) i j is = found_from_at (is_line_feed b) bs i j is (found_from bs (i + 1) j)

-- the split of a line, its line feed and more bytes
abbrev with_line : List ℕ → SplitText → SplitText
with_line line s = record { ended = line ∷ s.ended; rest = s.rest }

split_at_step : (t : Bool) (b : ℕ) (bs : List ℕ) (i k : ℕ)
    → cond t (Some i) (position_from is_line_feed (i + 1) bs) ≡ Some (i + k)
    → ((j : ℕ) → position_from is_line_feed (i + 1) bs ≡ Some (i + 1 + j)
    → split_lines bs ≡ with_line (take j bs) (split_lines (drop (j + 1) bs)))
    → split_with t b (split_lines bs).ended (split_lines bs).rest
    ≡ with_line (take k (b ∷ bs)) (split_lines (drop (k + 1) (b ∷ bs)))
split_at_step true b bs i zero is more = refl
split_at_step true b bs i (suc k) is more =
    let e = same_Some i (i + suc k) is in absurd (omega arith)
split_at_step false b bs i zero is more =
    let e = found_from bs (i + 1) (i + 0) is in absurd (omega arith)
split_at_step false b bs i (suc k) is more =
    let at : i + suc k ≡ i + 1 + k = omega arith in
    let e = rw (add-one k) at (more k (is ∙ ap Some at)) in
    rw (add-one (suc k)) (ap (λ (s : SplitText). split_with false b s.ended s.rest) e)

split_at : (bs : List ℕ) (i k : ℕ) → position_from is_line_feed i bs ≡ Some (i + k)
    → split_lines bs ≡ with_line (take k bs) (split_lines (drop (k + 1) bs))
split_at [] i k is = cc
split_at (b ∷ bs) i k is = split_at_step (is_line_feed b) b bs i k is (λ j. split_at bs (i + 1) j)

-- bytes without a line feed
abbrev unended : List ℕ → SplitText
unended bs = record { ended = []; rest = bs }

unended_step : (t : Bool) (b : ℕ) (bs : List ℕ) (i : ℕ)
    → cond t (Some i) (position_from is_line_feed (i + 1) bs) ≡ None
    → (position_from is_line_feed (i + 1) bs ≡ None → split_lines bs ≡ unended bs)
    → split_with t b (split_lines bs).ended (split_lines bs).rest ≡ unended (b ∷ bs)
unended_step true b bs i is more = cc
unended_step false b bs i is more =
    ap (λ (s : SplitText). split_with false b s.ended s.rest) (more is)

split_unended : (bs : List ℕ) (i : ℕ) → position_from is_line_feed i bs ≡ None
    → split_lines bs ≡ unended bs
split_unended [] i is = refl
split_unended (b ∷ bs) i is = unended_step (is_line_feed b) b bs i is (split_unended bs (i + 1))

abbrev lines_in : SplitText → List (List ℕ)
lines_in s = s.ended ++ last_line s.rest

last_line-some : (bs : List ℕ) → 0 < length bs → last_line bs ≡ bs ∷ []
last_line-some [] some = absurd (omega arith)
last_line-some (b ∷ bs) some = refl

-- the slices that the code takes
rest_whole : (bs : List ℕ) (n : ℕ) → take (length bs - n) (drop n bs) ≡ drop n bs
rest_whole bs n = rw (← length-drop n bs) (take-length (drop n bs))

-- the first line ends before the first line feed
pub lines_of-ended : (bs : List ℕ) (k : ℕ) → position_from is_line_feed 0 bs ≡ Some k
    → lines_of bs ≡ take k bs ∷ lines_of (take (length bs - (k + 1)) (drop (k + 1) bs))
lines_of-ended bs k is =
    rw (rest_whole bs (k + 1)) (ap lines_in (split_at bs 0 k (is ∙ ap Some (omega arith))))

-- or at the end
pub lines_of-unended : (bs : List ℕ) → 0 < length bs → position_from is_line_feed 0 bs ≡ None
    → lines_of bs ≡ bs ∷ lines_of (take (length bs - length bs) (drop (length bs) bs))
lines_of-unended bs some is =
    rw (rest_whole bs (length bs), drop-length bs) (ap lines_in (split_unended bs 0 is)
    ∙ last_line-some bs some)
