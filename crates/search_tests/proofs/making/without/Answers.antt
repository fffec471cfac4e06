-- Deletes leave as many documents.
use Rattle.std.proofs.Common.{◌≡◌, ◌∙◌, ap, Bool, List, length}
use Rattle.seg_live.proofs.BitLemmas.{length_without}
use Rattle.search_tests.proofs.making.without.Goals as goal

pub returns : goal.returns
returns c =
    ap (λ (live : List Bool). length live) c.in_ok-later.ensures
    ∙ length_without 0 c.args.dead.now c.args.live.now ∙ c.requires.counted
