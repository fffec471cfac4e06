-- One path more.
use Rattle.std.proofs.Common.{◌≡◌, ◌<◌, ℕ, List, length, get_or, map, take, sym, ap, ◌∙◌, subst}
use Rattle.std.proofs.Common.{arith}
use Rattle.sg_paths.specs.AllPaths.{FullPath, path_bytes}
use Rattle.sg_paths.specs.PathLaws.{Rises}
use Rattle.fst_code.specs.Tails.{Tail}
use Rattle.fst_build.specs.Sorted.{MayFollow}
use Rattle.segment.specs.Represents.{path_tail}
use Rattle.segment.proofs.FollowLemmas.{may_follow_at}
use Rattle.segment.proofs.building.transducer_of.Goals as goal

follows_at : (ps : List FullPath) (i : ℕ) (p : FullPath) (bytes : List ℕ) (built : List Tail)
    → Rises (map path_bytes ps) → i < length ps → p ≡ get_or ps i p → bytes ≡ path_bytes p
    → built ≡ map path_tail (take i ps) → MayFollow built bytes
follows_at ps i p bytes built rises h is e b =
    subst (λ z. MayFollow z bytes) (sym b)
    (subst (λ z. MayFollow (map path_tail (take i ps)) z) (sym (e ∙ ap path_bytes is))
    (may_follow_at ps i p rises h))

pub add-requires-clause-follows : goal.add-requires-clause-follows
add-requires-clause-follows c =
    follows_at c.args.paths.now c.loop-path.path-index c.path-item.result c.as_slice.result.now
    c.loop-path.builder c.requires.rises (omega arith) c.path-item.is
    (c.as_slice.ensures.value ∙ c.in_ok-put_path.ensures) c.loop-path.invariant
