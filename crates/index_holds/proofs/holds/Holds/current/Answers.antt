-- A new generation goes to its place, and there is room for it beside the spare places.
use Rattle.std.proofs.Common.{◌≡◌, ◌∙◌, false, subst, sym, ap, arith}
use Rattle.index_holds.specs.Entries.{AreUsed, Rise}
use Rattle.index_holds.specs.Holders.{is_held, PlainHolds, with_current}
use Rattle.index_holds.proofs.EntryLemmas.{rise-with_current, used-with_current}
use Rattle.index_holds.proofs.holds.Holds.current.Goals as goal

pub invariant_of-self-2 : goal.invariant_of-self-2
invariant_of-self-2 c =
    let old = c.self.inside.entries.items in
    let is = sym (c.put_current.ensures.items
    ∙ ap (with_current c.args.generation) c.in_ok-reserve.ensures.items) in (
      subst Rise is (rise-with_current c.args.generation old
          (subst (λ (h : PlainHolds). is_held h.entries c.args.generation ≡ false)
          (sym c.self.view_is) c.requires.new) c.self.invariant.0),
      subst AreUsed is (used-with_current c.args.generation old c.self.invariant.1),
      omega (
        arith,
        c.put_current.ensures.len,
        c.put_current.ensures.places,
        c.in_ok-reserve.ensures.ok,
      ),
    )
