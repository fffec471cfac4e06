-- The entry at the place is the only one that may have the generation.
use Rattle.std.proofs.Common.{◌≡◌, ◌≤◌, ◌∙◌, false, length, nat_lt, sym, arith}
use Rattle.std.proofs.lemmas.Bool.Decides.{nat_tests}
use Rattle.index_holds.proofs.PlaceLemmas.{is_held-at, not_held}
use Rattle.index_holds.proofs.searching.is_held.Goals as goal

pub returns-then-at-entries : goal.returns-then-at-entries
returns-then-at-entries c =
    sym (is_held-at c.args.generation c.place_of-at.result c.args.entries.now _ c.requires
    c.place_of-at.ensures.place c.if-at-entries.true)

pub returns-else-at-entries : goal.returns-else-at-entries
returns-else-at-entries c =
    let past : length c.args.entries.now ≤ c.place_of-at.result = c.if-at-entries.false in
    let no : nat_lt c.place_of-at.result (length c.args.entries.now) ≡ false =
    grind (arith, nat_tests) in
    no
    ∙ sym (not_held c.args.generation c.place_of-at.result c.args.entries.now
    c.place_of-at.ensures.place past)
