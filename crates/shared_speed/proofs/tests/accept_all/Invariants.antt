-- The handle is outside, and its merges are open.
use Rattle.index_shared.specs.Sections.{IsAt}
use Rattle.shared_speed.specs.Sharing.{KeepsMerges}
use Rattle.shared_speed.proofs.tests.accept_all.Given as goal

abbrev pub invariant-loop-word : goal.invariant-loop-word
invariant-loop-word g l =
    IsAt l.initial.index l.handle × KeepsMerges l.initial.handle l.handle
