-- Marks of rows, of matching paths and of entries over them.
use Rattle.std.proofs.Common.{◌≡◌, ◌≤◌, ℕ, true, false, List, refl, sym, subst, arith}
use Rattle.std.specs.Cmp.Lexicographic.{slice_cmp}
use Rattle.std.specs.Ordering.{is_lt, is_le, nat_cmp, ordering_then}
use Rattle.std.specs.declared.cmp.Ordering.{Ordering}
use Rattle.std.specs.declared.cmp.Ordering.TheVariants.{Less, Equal, Greater}
use Rattle.std.proofs.lemmas.Bool.Decides.{nat_tests}
use Rattle.sg_base.specs.Cuts.{Mark, mark_cmp, row_mark}
use Rattle.sg_base.specs.Lists.{In}
use Rattle.sg_base.specs.declared.rank.Rank.{Rank}
use Rattle.sg_base.proofs.MarkLemmas.{mark_lt}
use Rattle.sg_base.proofs.RankingLemmas.{rank_lt}
use Rattle.path_desk.specs.Entries.{Queued, key_part, mark_of}
use Rattle.path_desk.proofs.Lex.{key_grows}
use Rattle.best_first.specs.Listings.{IsListing, mark_of_match}
use Rattle.best_first.specs.Matches.{Match, covers, Best}
use Rattle.best_first.proofs.CoverLemmas.{covers-bytes}
use Rattle.best_first.proofs.EntryLemmas.{mark_grows, begun_rest}

front_lt : (o s p : Ordering) → is_lt o ≡ true → is_lt (ordering_then (ordering_then o s) p) ≡ true
front_lt Less s p h = refl
front_lt Equal s p h = cc
front_lt Greater s p h = cc

-- a row whose mark is before is before
pub rank_lt-mark : (x y : Rank) → mark_lt (row_mark x) (row_mark y) ≡ true → rank_lt x y ≡ true
rank_lt-mark x y h = front_lt (mark_cmp (row_mark x) (row_mark y)) (nat_cmp x.seq y.seq)
    (nat_cmp x.place y.place) h

-- the mark of an entry isn't after those of the paths under it
pub mark-under : (all : List Match) (starts : ℕ) → IsListing all starts → (m : Match) (e : Queued)
    → In m all → Best all e → covers m e ≡ true
    → mark_lt (mark_of_match m) (mark_of e) ≡ false
mark-under all starts l m e i best c =
    let under = begun_rest e.bytes m.bytes (covers-bytes m e c) in
    let grows : is_le (slice_cmp nat_cmp (key_part e.bytes) (key_part m.bytes)) ≡ true =
    subst (λ z. is_le (slice_cmp nat_cmp (key_part e.bytes) (key_part z)) ≡ true) (sym under.1)
    (key_grows e.bytes under.0) in
    let key : is_le (slice_cmp nat_cmp (key_part e.bytes) m.rank.key) ≡ true =
    subst (λ z. is_le (slice_cmp nat_cmp (key_part e.bytes) z) ≡ true) (sym (l.keyed m i)) grows in
    mark_grows e.entry.score m.rank.score (key_part e.bytes) m.rank.key (best.bound m i c) key

score_at : (o k : Ordering) (a b : ℕ) → nat_cmp b a ≡ o → is_lt (ordering_then o k) ≡ false → a ≤ b
score_at Less k a b e h = cc
score_at Equal k a b e h = grind (arith, nat_tests)
score_at Greater k a b e h = grind (arith, nat_tests)

-- what isn't before a mark has no greater score
pub score-at_most : (x y : Mark) → mark_lt x y ≡ false → x.score ≤ y.score
score-at_most x y h = score_at (nat_cmp y.score x.score) (slice_cmp nat_cmp x.key y.key) x.score
    y.score refl h
