-- A segment of documents with their paths.
use Rattle.std.proofs.Common.{◌≡◌, ◌≤◌, ℕ, List, length, map, sym, ap, ◌∙◌, subst}
use Rattle.std.specs.List.{All}
use Rattle.sg_paths.specs.Operations.{PlainNumbered}
use Rattle.sg_paths.specs.AllPaths.{FullPath, all_paths}
use Rattle.sg_paths.specs.PathLaws.{IsLegal}
use Rattle.fst_code.specs.Bytes.{nodes_of}
use Rattle.fst_code.specs.Lists.{list_of, IsCanonical, IsOnlyText}
use Rattle.fst_walk.specs.Starts.{AllHaveContexts}
use Rattle.segment.specs.Represents.{Represents, NumbersRise, path_tail}
use Rattle.segment.proofs.FollowLemmas.{all_have_contexts}
use Rattle.segment.proofs.segment.Segment.of_paths.Goals as goal

represents : (docs held : List PlainNumbered) (text : List ℕ) (paths : List FullPath)
    → held ≡ docs → paths ≡ all_paths docs → list_of text ≡ map path_tail paths
    → IsCanonical (nodes_of text) → IsOnlyText (map path_tail paths) text
    → All (λ p. IsLegal p.entry) paths → NumbersRise docs → length docs ≤ 1048576
    → length paths ≤ 4194304 → Represents held text
represents docs held text paths h is maps canonical only legal rise few many =
    subst (λ z. Represents z text) (sym h) (record {
      maps = maps ∙ ap (λ (ps : List FullPath). map path_tail ps) is;
      canonical = canonical;
      only = subst (λ z. IsOnlyText (map path_tail z) text) is only;
      contexts = subst (λ z. AllHaveContexts (map path_tail z)) is (all_have_contexts paths legal);
      legal = subst (λ (z : List FullPath). All (λ p. IsLegal p.entry) z) is legal;
      rise = rise;
      few = few;
      many = subst (λ (z : List FullPath). length z ≤ 4194304) is many;
    })

pub invariant_of-result : goal.invariant_of-result
invariant_of-result c =
    let built = c.in_ok-transducer.ensures in
    represents c.args.docs.items c.in_ok-table.table c.in_ok-transducer.transducer
    c.args.paths.now c.in_ok-table.ensures c.requires.paths built.maps built.canonical built.only
    c.requires.legal c.requires.rise c.requires.documents c.requires.many
