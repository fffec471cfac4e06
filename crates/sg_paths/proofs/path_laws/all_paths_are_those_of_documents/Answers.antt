-- Numbered paths in order are the entries, moved.
use Rattle.std.proofs.Common.{◌≡◌, ℕ, Option, Some, None, List, [], ◌∷◌, map, refl, sym, ap, subst}
use Rattle.std.specs.List.Sorted.{IsPermutation}
use Rattle.sg_base.specs.Ranking.{in_order}
use Rattle.sg_base.proofs.InOrderLemmas.{moves-in_order}
use Rattle.sg_paths.specs.AllPaths.{Entry, entry_cmp, path_entries, number_after, numbered}
use Rattle.sg_paths.proofs.path_laws.all_paths_are_those_of_documents.Goals as goal

entries-numbered : (last : Option (Entry × ℕ)) (es : List Entry)
    → map (λ p. p.entry) (numbered last es) ≡ es
entries-numbered last [] = refl
entries-numbered last (e ∷ es) =
    ap (λ later. e ∷ later) (entries-numbered (Some (e, number_after last e)) es)

pub returns : goal.returns
returns c = λ docs.
    let entries = path_entries 0 docs in
    subst (IsPermutation entries) (sym (entries-numbered None (in_order entry_cmp entries)))
    (moves-in_order entry_cmp entries)
