-- The documents so far are deleted.
use Rattle.std.proofs.Common.{◌≡◌, take}
use Rattle.seg_live.specs.LiveDocs.{live_without}
use Rattle.seg_live.proofs.live.Live.with_dead.Given as goal

abbrev pub invariant-loop-doc : goal.invariant-loop-doc
invariant-loop-doc l = l.bits ≡ live_without 0 (take l.doc-index l.dead) l.self
