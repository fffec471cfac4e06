-- The levels so far are a front of all, and represent the same paths.
use Rattle.std.proofs.Common.{◌≡◌, ◌≤◌, length, take}
use Rattle.fst_build.specs.Levels.{IsOpenDraft, represented}
use Rattle.fst_build.proofs.frontier.Frontier.freeze_to.Given as goal

abbrev pub decreases-loop-self : goal.decreases-loop-self
decreases-loop-self l = length l.self.levels

abbrev pub invariant-loop-self : goal.invariant-loop-self
invariant-loop-self l = record {
  draft : IsOpenDraft l.self;
  paths : represented l.self ≡ represented l.initial.self;
  depth : l.depth ≤ length l.self.levels;
  front : l.self.levels ≡ take (length l.self.levels) l.initial.self.levels;
}
