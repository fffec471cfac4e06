-- Generations stay, and what nothing holds goes.
use Rattle.std.proofs.Common.{◌≡◌, ◌≤◌, ◌<◌, ◌∙◌, List, ℕ, length, map, refl, subst, sym, ap}
use Rattle.std.proofs.Common.{arith, ◌-◌, false}
use Rattle.std.specs.Prelude.{All, filter, not}
use Rattle.std.specs.List.Sorted.{IsStrictlyIncreasing}
use Rattle.std.proofs.lemmas.List.{length-map}
use Rattle.std.proofs.lemmas.List.Kept.{IsStrictlyIncreasing-filter}
use Rattle.index_holds.specs.Entries.{AreUsed, HaveHolders, Rise}
use Rattle.index_holds.specs.Holders.{HasHolder, IsCurrentAndHeld, PlainHolds}
use Rattle.index_holds.specs.Holders.{given_up, is_among, is_held, is_used, without_current}
use Rattle.index_holds.specs.declared.held.Held.{Held}
use Rattle.index_holds.proofs.EntryLemmas.{each_of, generation-changed, rise-filter, rise-map}
use Rattle.index_holds.proofs.FreedLemmas.{freed_exactly, held_of_entry}
use Rattle.index_holds.proofs.EntryLemmas.{all_among}
use Rattle.index_holds.proofs.EntryLemmas.{shorter, used-filter, have_holders}
use Rattle.index_holds.proofs.holds.Holds.retire.Goals as goal

rise : (gens : List ℕ) (hs : List Held) → Rise hs → Rise (map (without_current gens) hs)
rise gens hs up =
    rise-map (without_current gens)
    (λ h. generation-changed (is_among h.generation gens) _ h refl) hs up

pub retire_each-requires-clause-held : goal.retire_each-requires-clause-held
retire_each-requires-clause-held c =
    subst (λ gens. HaveHolders gens c.self.inside.entries.items) (sym c.as_slice.ensures.value)
    (each_of (λ h. 0 < h.holders) c.args.gens.items c.self.inside.entries.items
    c.self.invariant.0 (have_holders c.self.inside.entries.items c.args.gens.items
    (subst (λ (h : PlainHolds). All (IsCurrentAndHeld h.entries) c.args.gens.items)
    (sym c.self.view_is) c.requires.held)))

pub freed_of-requires : goal.freed_of-requires
freed_of-requires c = record {
  rising = subst Rise (sym c.retire_each.ensures.items)
      (rise c.as_slice.result.now c.self.inside.entries.items c.self.invariant.0);
}

pub invariant_of-self : goal.invariant_of-self
invariant_of-self c =
    let old = c.self.inside.entries.items in
    let changed = c.retire_each.new.entries.items in
    let is = sym c.freed_of.ensures.items in
    let kept : length c.freed_of.new.entries.items ≤ length changed =
    subst (λ hs. length hs ≤ length changed) is (shorter is_used changed) in
    let n : length changed ≡ length old =
    ap length c.retire_each.ensures.items
    ∙ length-map old (without_current c.as_slice.result.now) in (
      subst Rise is (rise-filter is_used changed (subst Rise (sym c.retire_each.ensures.items)
          (rise c.as_slice.result.now old c.self.invariant.0))),
      subst AreUsed is (used-filter changed),
      omega (
        arith,
        kept,
        n,
        c.retire_each.ensures.places,
        c.freed_of.ensures.places,
        c.self.invariant.2,
      ),
    )

pub returns-clause-rising : goal.returns-clause-rising
returns-clause-rising c =
    subst IsStrictlyIncreasing (sym c.freed_of.ensures.freed)
    (IsStrictlyIncreasing-filter (λ g. not (is_held c.freed_of.new.entries.items g))
    c.args.gens.items c.requires.rising)

pub returns-clause-freed : goal.returns-clause-freed
returns-clause-freed c =
    let gens = c.args.gens.items in
    let old = c.self.inside.entries.items in
    let after = c.freed_of.new.entries.items in
    let held : All (HasHolder old) gens = have_holders old gens
    (subst (λ (h : PlainHolds). All (IsCurrentAndHeld h.entries) gens) (sym c.self.view_is)
    c.requires.held) in
    let is : after ≡ filter is_used (map (without_current gens) old) =
    c.freed_of.ensures.items
    ∙ ap (filter is_used) c.retire_each.ensures.items
    ∙ ap (λ gs. filter is_used (map (without_current gs) old)) c.as_slice.ensures.value in
    let freed = freed_exactly gens (λ h. record h { current = false; holders = h.holders - 1 })
    old after
    c.self.invariant.0 c.self.invariant.1 c.requires.rising
    (λ g there. held_of_entry (λ h. 0 < h.holders) g old
    (all_among (HasHolder old) gens g held there)) is in
    subst (λ (h : PlainHolds). c.freed_of.result.gens.items ≡ given_up h.entries after)
    c.self.view_is (c.freed_of.ensures.freed ∙ freed)
