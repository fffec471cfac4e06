-- Each handle has seen the empty record.
use Rattle.std.proofs.Common.{List, sym, subst}
use Rattle.std.specs.List.{AllByRecursion}
use Rattle.index_core.specs.LegalHistories.{IsLegal}
use Rattle.index_shared.specs.Sections.{HandleState, seen_by}
use Rattle.index_shared.proofs.SectionLemmas.{new_legal}
use Rattle.index_shared.proofs.index.Index.new.Goals as goal

pub returns-clause-legal : goal.returns-clause-legal
returns-clause-legal c =
    subst (λ (hs : List HandleState). AllByRecursion (λ h. IsLegal (seen_by h)) hs)
    (sym c.in_ok-lock.ensures.ok)
    (new_legal _ c.args.seats 0 c.args.seats
    (subst IsLegal c.new.ensures.value c.new.ensures.legal))
