-- What a collector keeps, and reports of segments whose queues suffice.
use Rattle.std.proofs.Common.{◌≡◌, ◌≤◌, ℕ, zero, suc, Bool, true, false, cond, List, [], ◌∷◌}
use Rattle.std.proofs.Common.{length, take, Some, None, refl, sym, ap, ◌∙◌, subst, arith}
use Rattle.std.specs.Prelude.{nat_eq, nat_le, Contains}
use Rattle.std.specs.Ordering.{is_lt}
use Rattle.std.specs.List.{AllByRecursion}
use Rattle.sg_base.specs.Ranking.{rank_cmp, rank_cmp_total, put_in, in_order}
use Rattle.sg_base.specs.Rows.{without, put_row}
use Rattle.sg_base.specs.declared.rank.Rank.{Rank}
use Rattle.sg_base.proofs.RankLemmas.{rank_cmp_exact}
use Rattle.sg_answers.specs.Reports.{ViewedSegment, matching, queue_size, IsTruncatedIn}
use Rattle.sg_answers.specs.Closing.{OtherDocuments, OtherDocumentsAreInOrder, KeptOneMore}
use Rattle.sg_answers.specs.Closing.{CompleteWhereQueuesSuffice}
use Rattle.sg_answers.proofs.TakingLemmas.{filter_at_most}
use Rattle.sg_answers.proofs.FirstRowsLemmas.{take-put_in, in_order-swap}

pub one_more_kept : KeptOneMore
one_more_kept k r rows =
    take-put_in rank_cmp rank_cmp_total rank_cmp_exact k r (in_order rank_cmp rows)
    ∙ ap (take k) (sym (in_order-swap rank_cmp rank_cmp_total rank_cmp_exact rows (r ∷ [])))

none_taken : (seq : ℕ) (rows : List Rank) → OtherDocuments seq rows
    → without seq rows ≡ rows
none_taken seq [] other = refl
none_taken seq (x ∷ xs) other =
    rw other.0 (ap (λ (zs : List Rank). x ∷ zs) (none_taken seq xs other.1))

pub others_in_order : OtherDocumentsAreInOrder
others_in_order r [] other = refl
others_in_order r (x ∷ xs) other =
    by_test (is_lt (rank_cmp x r)) (others_in_order r xs other.1)
    (none_taken r.seq (x ∷ xs) other)
  where
    by_test : (b : Bool) → put_row r xs ≡ put_in rank_cmp r xs
        → without r.seq (x ∷ xs) ≡ x ∷ xs
        → cond b (cond (nat_eq x.seq r.seq) (x ∷ xs) (x ∷ put_row r xs))
        (r ∷ without r.seq (x ∷ xs))
        ≡ cond b (x ∷ put_in rank_cmp r xs) (r ∷ x ∷ xs)
    by_test true e f = rw other.0 (ap (λ (zs : List Rank). x ∷ zs) e)
    by_test false e f = ap (λ (zs : List Rank). r ∷ zs) f

-- ---- where the queues suffice

in_each : (P : ViewedSegment → Type 0) (ss : List ViewedSegment) (s : ViewedSegment)
    → AllByRecursion P ss → Contains ss s → P s
in_each P [] s all (k, within, at) = absurd (omega (arith, within))
in_each P (x ∷ xs) s all (zero, within, at) = subst P at all.0
in_each P (x ∷ xs) s all (suc k, within, at) = in_each P xs s all.1 (k, omega (arith, within), at)

pub complete : CompleteWhereQueuesSuffice
complete query segments rows None few sound = refl
complete query segments rows (Some c) few sound =
    let is : IsTruncatedIn query sound.2.0 c = sound.2.2 in
    let most = filter_at_most (λ r. nat_le c.score r.score) (matching query sound.2.0.documents) in
    let fits = in_each (λ s. length (matching query s.documents) ≤ queue_size query.k s) segments
    sound.2.0 few sound.2.1 in
    let crowd = is.point.crowded in
    absurd (omega (arith, most, fits, crowd, is.room))
