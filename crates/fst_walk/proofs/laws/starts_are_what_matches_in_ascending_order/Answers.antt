-- The starts, ascending and exact.
use Rattle.std.proofs.Common.{◌≡◌, true, List, ℕ, [], ◌∷◌}
use Rattle.sg_base.specs.ByteStrings.{is_less}
use Rattle.sg_base.specs.Lists.{Pairs}
use Rattle.fst_walk.specs.Starts.{start_contexts}
use Rattle.fst_walk.proofs.AscendingLemmas.{Ascends}
use Rattle.fst_walk.proofs.ContextLemmas.{Ascends-starts, member_no_end, start_parts, start_from}
use Rattle.fst_walk.proofs.laws.starts_are_what_matches_in_ascending_order.Goals as goal

-- `Ascends` is `Pairs is_less` by another name: the recursion is the same
pairs : (xs : List (List ℕ)) → Ascends xs → Pairs (λ (x y : List ℕ). is_less x y ≡ true) xs
pairs [] a = tt
pairs (x ∷ xs) a = (a.0, pairs xs a.1)

pub returns : goal.returns
returns c = λ ts q. record {
  rises = pairs (start_contexts ts q) (Ascends-starts ts q);
  exact = λ d. (
    λ h. let p = start_parts ts q d h in (member_no_end ts d p.0, p.1, p.2),
    λ h. start_from ts q d h.0 h.1 h.2,
  );
}
