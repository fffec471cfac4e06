-- The deepest level, frozen.
use Rattle.std.proofs.Common.{◌≡◌, ◌≤◌, ◌<◌, ◌+◌, ◌-◌, ◌∙◌, ℕ, ap, sym, arith, rules, refl}
use Rattle.std.proofs.Common.{length, drop, take, subst}
use Rattle.fst_build.specs.declared.carried.Carried.{Carried}
use Rattle.fst_build.specs.Building.{IsHeld}
use Rattle.fst_build.specs.Levels.{Draft, IsOpenDraft, represented}
use Rattle.fst_build.proofs.LevelLemmas.{held_last, splitting, freeze_code}
use Rattle.fst_build.proofs.frontier.Frontier.freeze.Goals as goal

abbrev has_level : Draft → Type 0
has_level d = 0 < length d.levels

pub overflow_sub-start : goal.overflow_sub-start
overflow_sub-start c =
    let i = c.self.inside in
    let draft = subst IsOpenDraft (sym c.self.view_is) c.requires.draft in
    let some = subst has_level (sym c.self.view_is) c.requires.some in
    let n : c.len-top.result ≡ length i.levels.items = search rules in
    let m : c.len.result ≡ length i.edges.items = search rules in
    let h = held_last i.register i.levels.items i.edges.items c.index-level.result.now i.carried
    (c.len-top.result - 1) draft (omega (arith, n, some)) c.index-level.ensures in
    omega (arith, h, m)

pub overflow_add-self : goal.overflow_add-self
overflow_add-self c =
    let i = c.self.inside in
    let draft = subst IsOpenDraft (sym c.self.view_is) c.requires.draft in
    let some = subst has_level (sym c.self.view_is) c.requires.some in
    let n : c.len-top.result ≡ length i.levels.items = search rules in
    let m : c.len.result ≡ length i.edges.items = search rules in
    let l = c.index-level.result.now in
    let s = splitting i.register i.levels.items i.edges.items l i.carried
    (c.len-top.result - 1) (c.len.result - l.held) draft (omega (arith, n, some))
    c.index-level.ensures (ap (λ (k : ℕ). k - l.held) m) in
    let few = s.few in
    let many = draft.many in
    let sum : l.count + i.carried.count ≤ 4194304 = omega (arith, few, many) in
    omega (arith, sum)

pub returns : goal.returns
returns c =
    let i = c.self.inside in
    let draft = subst IsOpenDraft (sym c.self.view_is) c.requires.draft in
    let some = subst has_level (sym c.self.view_is) c.requires.some in
    let n : c.len-top.result ≡ length i.levels.items = search rules in
    let m : c.len.result ≡ length i.edges.items = search rules in
    let l = c.index-level.result.now in
    let start = c.len.result - l.held in
    let next : Carried = record {
      target = c.in_ok-target.target;
      cost = c.least_cost-base.result;
      count = l.count + i.carried.count;
    } in
    let finished = c.edges_from-finished.ensures ∙ ap (drop start) c.deref.ensures.value in
    let held = subst (IsHeld i.register c.hold.new.register c.in_ok-target.target.0)
    c.deref-2.ensures.value c.in_ok-target.ensures.ok in
    let f = freeze_code i.register c.hold.new.register i.levels.items c.truncate.new.self.items
    i.edges.items c.truncate-2.new.self.items c.edges_from-finished.result.now
    c.make_node.new.node.items l i.carried next (c.len-top.result - 1) start draft
    (omega (arith, n, some)) c.index-level.ensures (ap (λ (k : ℕ). k - l.held) m) finished
    c.least_cost-base.ensures refl c.in_ok-make_node.ensures held c.truncate.ensures.items
    c.truncate-2.ensures.items in
    record {
      ok = f.0;
      paths = f.1 ∙ ap represented c.self.view_is;
      levels = c.truncate.ensures.items ∙ ap (λ (k : ℕ). take (k - 1) i.levels.items) n
          ∙ ap (λ (d : Draft). take (length d.levels - 1) d.levels) c.self.view_is;
      err = tt;
    }
