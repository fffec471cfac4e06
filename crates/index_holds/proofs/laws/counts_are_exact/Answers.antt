-- Each value computes.
use Rattle.std.proofs.Common.{refl}
use Rattle.index_holds.proofs.CountLemmas.{release-hold, with_current-last}
use Rattle.index_holds.proofs.laws.counts_are_exact.Goals as goal

pub returns : goal.returns
returns c = record {
  worked = record {
    in_order = refl;
    opens = refl;
    merges = refl;
    replaces = refl;
    frees_nothing = refl;
    closes = refl;
    frees = refl;
    frees_at_once = refl;
    drops = refl;
    frees_none_dropped = refl;
  };
  last = with_current-last;
  undone = release-hold;
}
