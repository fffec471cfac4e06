-- Sorted, they are as many, and they rise.
use Rattle.std.proofs.Common.{◌≡◌, ◌≤◌, List, length, sym, ap, ◌∙◌, arith, subst, map, None}
use Rattle.std.specs.List.{AllByRecursion}
use Rattle.std.proofs.lemmas.List.Elements.{All-from_recursion}
use Rattle.sg_base.specs.Ranking.{in_order}
use Rattle.sg_base.proofs.InOrderLemmas.{length-in_order}
use Rattle.sg_paths.specs.Operations.{PlainNumbered}
use Rattle.sg_paths.specs.AllPaths.{Entry, FullPath, entry_cmp, path_entries, path_bytes, all_paths}
use Rattle.sg_paths.specs.AllPaths.{numbered}
use Rattle.sg_paths.specs.PathLaws.{IsLegal, Rises}
use Rattle.sg_paths.proofs.RiseLemmas.{length-all_paths, paths_rise}
use Rattle.sg_paths.proofs.listing.paths_of.Goals as goal

all_of_sorted : (docs : List PlainNumbered) (entries sorted lent : List Entry)
    (paths : List FullPath)
    → entries ≡ path_entries 0 docs → sorted ≡ in_order entry_cmp entries → lent ≡ sorted
    → paths ≡ numbered None lent → paths ≡ all_paths docs
all_of_sorted docs entries sorted lent paths a b c d =
    d ∙ ap (λ es. numbered None es) (c ∙ b ∙ ap (λ es. in_order entry_cmp es) a)

rise : (docs : List PlainNumbered) (paths : List FullPath) → paths ≡ all_paths docs
    → AllByRecursion (λ p. IsLegal p.entry) paths → length (path_entries 0 docs) ≤ 4194304
    → Rises (map path_bytes paths)
rise docs paths is legal few =
    subst (λ (ps : List FullPath). Rises (map path_bytes ps)) (sym is)
    (paths_rise docs
    (subst (λ (ps : List FullPath). AllByRecursion (λ p. IsLegal p.entry) ps) is legal) few)

pub numbered_paths-requires : goal.numbered_paths-requires
numbered_paths-requires c =
    let a = ap (λ (es : List Entry). length es)
    (c.as_slice.ensures.value ∙ c.in_ok-sort_entries.ensures) in
    let b = ap (λ (es : List Entry). length es) c.in_ok-entries.ensures in
    let n = length-in_order entry_cmp c.in_ok-entries.entries.items in
    omega (arith, a, b, n, c.requires.paths)

pub returns-clause-value : goal.returns-clause-value
returns-clause-value c =
    all_of_sorted c.args.docs.now c.in_ok-entries.entries.items _ c.as_slice.result.now
    c.in_ok-paths.paths.items c.in_ok-entries.ensures c.in_ok-sort_entries.ensures
    c.as_slice.ensures.value c.in_ok-paths.ensures.value

pub returns-clause-count : goal.returns-clause-count
returns-clause-count c =
    ap (λ (ps : List FullPath). length ps)
    (all_of_sorted c.args.docs.now c.in_ok-entries.entries.items _ c.as_slice.result.now
    c.in_ok-paths.paths.items c.in_ok-entries.ensures c.in_ok-sort_entries.ensures
    c.as_slice.ensures.value c.in_ok-paths.ensures.value)
    ∙ length-all_paths c.args.docs.now

pub returns-clause-legal : goal.returns-clause-legal
returns-clause-legal c =
    All-from_recursion (λ (p : FullPath). IsLegal p.entry) c.in_ok-paths.paths.items
    c.in_ok-paths.ensures.legal

pub returns-clause-rises : goal.returns-clause-rises
returns-clause-rises c =
    rise c.args.docs.now c.in_ok-paths.paths.items
    (all_of_sorted c.args.docs.now c.in_ok-entries.entries.items _ c.as_slice.result.now
    c.in_ok-paths.paths.items c.in_ok-entries.ensures c.in_ok-sort_entries.ensures
    c.as_slice.ensures.value c.in_ok-paths.ensures.value)
    c.in_ok-paths.ensures.legal c.requires.paths
