-- A filter keeps the order.
use Rattle.std.proofs.Common.{◌∙◌, subst, sym}
use Rattle.index_holds.specs.Entries.{Rise}
use Rattle.index_holds.specs.Holders.{is_used}
use Rattle.index_holds.proofs.EntryLemmas.{rise-filter}
use Rattle.index_holds.proofs.holds.freed_of.Goals as goal

pub keep_unheld-requires : goal.keep_unheld-requires
keep_unheld-requires c =
    subst Rise (sym (c.as_slice.ensures.value ∙ c.keep_used.ensures.items))
    (rise-filter is_used c.args.entries.now.items c.requires.rising)
