-- A chain has every node of its bucket.
use Rattle.std.proofs.Common.{rules, arith, false, length, ◌-◌, ◌≡◌, get_or, sym, ◌∙◌, ◌≤◌}
use Rattle.std.proofs.Common.{◌<◌, []}
use Rattle.sg_base.specs.Chains.{bucket_in}
use Rattle.sg_base.specs.Nodes.{same_edges}
use Rattle.sg_base.specs.Hashes.{bucket}
use Rattle.sg_base.proofs.EqualNodes.{other_bucket, step, none_held}
use Rattle.fst_register.proofs.RegisterLemmas.{only_equal}
use Rattle.fst_register.proofs.register.find_in.Goals as goal

pub loop-cell-init : goal.loop-cell-init
loop-cell-init c =
    let k = c.requires.chained in
    let b = c.node_bucket.result in
    let below = c.node_bucket.ensures.below in
    let value = c.node_bucket.ensures.value in
    record {
      within = k.bound b;
      in_bucket = λ h. k.head_in b below h ∙ value;
      passed = λ j nj jl same. absurd (k.head b j below nj jl (same ∙ sym value));
    }

pub loop-cell-preserved : goal.loop-cell-preserved
loop-cell-preserved c =
    let ns = c.args.nodes.now in
    let n = length c.args.heads.now in
    let k = c.requires.chained in
    let cell = c.loop-cell.cell in
    let inv = c.loop-cell.invariant in
    let next = get_or c.args.chain.now (cell - 1) 0 in
    let pos : 0 < cell = omega (arith, c.loop-cell-test.true) in
    let there : cell - 1 < length ns = omega (arith, pos, inv.within) in
    let low : next ≤ cell - 1 = k.falls (cell - 1) there in
    let this : same_edges (get_or ns (cell - 1) []) c.args.node.now ≡ false =
    search (c.if-same.false, c.same.ensures, c.node.ensures, rules) in
    record {
      within = omega (arith, low, there);
      in_bucket = λ h. k.cell_in (cell - 1) there h ∙ inv.in_bucket pos;
      passed =
          step (λ j. same_edges (get_or ns j []) c.args.node.now) (bucket_in n ns) cell next
          (length ns) (bucket n c.args.node.now) pos inv.within low inv.in_bucket inv.passed
          this (λ j nj jl same. k.gap (cell - 1) j there nj jl same);
    }

pub returns-clause-none : goal.returns-clause-none
returns-clause-none c =
    let ns = c.args.nodes.now in
    let node = c.args.node.now in
    none_held node ns (λ j h. other_bucket (length c.args.heads.now) (get_or ns j []) node
    (c.loop-cell.invariant.passed j (omega (arith, c.loop-cell-test.false)) h))

pub returns-then-same-clause-found : goal.returns-then-same-clause-found
returns-then-same-clause-found c =
    let inv = c.loop-cell.invariant.within in
    only_equal c.args.nodes.now c.args.node.now (c.loop-cell.cell - 1) c.requires.once
    (omega (arith, inv, c.loop-cell-test.true))
    (search (c.if-same.true, c.same.ensures, c.node.ensures, rules))
