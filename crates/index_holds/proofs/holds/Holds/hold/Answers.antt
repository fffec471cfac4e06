-- Generations stay, and what is used stays so.
use Rattle.std.proofs.Common.{◌≡◌, ◌<◌, ◌-◌, ◌^◌, ◌∙◌, length, refl, subst, sym, ap, arith}
use Rattle.std.specs.Prelude.{All}
use Rattle.std.proofs.lemmas.List.{length-map}
use Rattle.index_holds.specs.Entries.{AreUsed, Rise}
use Rattle.index_holds.specs.Holders.{HasRoom, is_among, PlainHolds, with_holder}
use Rattle.index_holds.proofs.EntryLemmas.{each_of, generation-changed, rise-map}
use Rattle.index_holds.proofs.EntryLemmas.{used-with_holder}
use Rattle.index_holds.proofs.holds.Holds.hold.Goals as goal

pub hold_each-requires-clause-room : goal.hold_each-requires-clause-room
hold_each-requires-clause-room c =
    each_of (λ h. h.holders < 2 ^ 32 - 1) c.args.gens.now c.self.inside.entries.items
    c.self.invariant.0
    (subst (λ (h : PlainHolds). All (HasRoom h.entries) c.args.gens.now) (sym c.self.view_is)
    c.requires.room)

pub invariant_of-self : goal.invariant_of-self
invariant_of-self c =
    let gens = c.args.gens.now in
    let old = c.self.inside.entries.items in
    let is = sym c.hold_each.ensures.items in
    let n : length c.hold_each.new.entries.items ≡ length old =
    ap length c.hold_each.ensures.items ∙ length-map old (with_holder gens) in (
      subst Rise is (rise-map (with_holder gens)
          (λ h. generation-changed (is_among h.generation gens) _ h refl) old c.self.invariant.0),
      subst AreUsed is (used-with_holder gens old c.self.invariant.1),
      omega (arith, n, c.hold_each.ensures.places, c.self.invariant.2),
    )
