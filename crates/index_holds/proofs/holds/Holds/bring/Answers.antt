-- A new generation goes to its place, and there is room for it beside the spare places.
use Rattle.std.proofs.Common.{◌≡◌, false, subst, sym, arith}
use Rattle.index_holds.specs.Entries.{AreUsed, Rise}
use Rattle.index_holds.specs.Holders.{is_held, PlainHolds}
use Rattle.index_holds.proofs.EntryLemmas.{rise-with_current, used-with_current}
use Rattle.index_holds.proofs.holds.Holds.bring.Goals as goal

pub invariant_of-self : goal.invariant_of-self
invariant_of-self c =
    let is = sym c.put_current.ensures.items in (
      subst Rise is (rise-with_current c.args.generation c.self.inside.entries.items
          (subst (λ (h : PlainHolds). is_held h.entries c.args.generation ≡ false)
          (sym c.self.view_is) c.requires.new)
          c.self.invariant.0),
      subst AreUsed is (used-with_current c.args.generation c.self.inside.entries.items
          c.self.invariant.1),
      omega (
        arith,
        c.put_current.ensures.len,
        c.put_current.ensures.places,
        c.requires.spare,
        c.self.invariant.2,
      ),
    )
