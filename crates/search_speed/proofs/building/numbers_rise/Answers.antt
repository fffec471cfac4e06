-- Numbers that break no rule of a segment's bytes rise.
use Rattle.std.proofs.Common.{rules, ◌≡◌, ℕ, Bool, true, List, Option, Some, None, sym}
use Rattle.std.specs.Prelude.{is_none}
use Rattle.sg_paths.specs.Operations.{PlainNumbered}
use Rattle.seg_bytes.specs.Numbers.{wrong_number}
use Rattle.segment.specs.Represents.{NumbersRise}
use Rattle.segment.proofs.ReadingLemmas.{numbers_of}
use Rattle.search_speed.proofs.building.numbers_rise.Goals as goal

rise : (found : Option ℕ) (none : Bool) (docs : List PlainNumbered) → none ≡ is_none found
    → found ≡ wrong_number 0 docs → none ≡ true → NumbersRise docs
rise None none docs i w h = numbers_of 0 docs (sym w)
rise (Some at) none docs i w h = absurd cc

pub returns : goal.returns
returns c =
    rise c.misplaced_number.result c.is_none.result c.args.documents.now (search rules)
    c.misplaced_number.ensures
