-- The walk over the frames of the last path.
use Rattle.std.proofs.Common.{◌≡◌, ◌<◌, ℕ, List, [], ◌∷◌, ◌++◌, length, get_or, refl, ap}
use Rattle.std.proofs.Common.{◌∙◌}
use Rattle.std.specs.List.{AllByRecursion}
use Rattle.sg_base.specs.declared.node.Edge.{Edge}
use Rattle.fst_code.specs.Rules.{for_targets, visit}
use Rattle.fst_build.specs.Building.{Frame, visited}
use Rattle.fst_code.proofs.TableLemmas.{Below, Falls}
use Rattle.fst_code.proofs.WalkLemmas.{targets_more}

abbrev pub FramesBelow : ℕ → List Frame → Type 0
FramesBelow k = AllByRecursion (λ (f : Frame). Below k f.edges)

pub walked_more : (ns more : List (List Edge)) (fs : List Frame) (done : List ℕ) → Falls ns
    → ((i : ℕ) → i < length ns → get_or more i [] ≡ get_or ns i []) → FramesBelow (length ns) fs
    → visited more fs done ≡ visited ns fs done
walked_more ns more [] done falls kept below = refl
walked_more ns more (f ∷ fs) done falls kept below =
    ap (visited more fs) (targets_more ns more f.edges done falls kept below.0)
    ∙ walked_more ns more fs (for_targets (visit ns) f.edges done) falls kept below.1

pub walked_push : (ns : List (List Edge)) (fs : List Frame) (f : Frame) (done : List ℕ)
    → visited ns (fs ++ f ∷ []) done ≡ for_targets (visit ns) f.edges (visited ns fs done)
walked_push ns [] f done = refl
walked_push ns (g ∷ fs) f done = walked_push ns fs f (for_targets (visit ns) g.edges done)
